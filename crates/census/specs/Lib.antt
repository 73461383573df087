-- The plain layer's answers.
pub mod Plain
