-- The sums of every road, as one claim over all boards, roads and leaves.
pub mod Demand
pub mod Gives
pub mod Taken
pub mod Example
