-- The laws of the hands that hold a leave, and of the ways in which a rack is drawn.
pub mod Hands
pub mod Fold
pub mod Pass
pub mod PartSums
