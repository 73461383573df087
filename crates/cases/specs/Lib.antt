pub mod Call
pub mod Listed
pub mod Reading
pub mod Word
