pub mod Equity
pub mod FullRacks
pub mod Keeping
pub mod Moves
pub mod Results
mod Sizes
mod KeepAll
