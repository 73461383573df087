pub mod Gain
pub mod Passes
pub mod Racks
pub mod Table
pub mod Dealt
pub mod Calls
