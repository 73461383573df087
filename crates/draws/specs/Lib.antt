pub mod Draws
pub mod FullRacks
pub mod Walk
pub mod Racks
pub mod Exact
pub mod Walking
pub mod Leave
pub mod Given
