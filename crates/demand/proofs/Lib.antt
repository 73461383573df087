-- The proofs of the claim.
pub mod EachOnce
pub mod HandBest
pub mod Gives
pub mod Theorem
pub mod Calls
