-- The letters that a tally has, one run of tiles after another.
pub mod Runs
