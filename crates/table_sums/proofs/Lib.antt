pub mod Dealt
pub mod Calls
