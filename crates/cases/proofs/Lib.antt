pub mod Words
pub mod Zipped
