-- The worked examples of docs/SCOPE.md.
pub mod Draws
pub mod Worked
