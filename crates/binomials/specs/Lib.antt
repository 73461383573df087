-- Binomials and their laws.
pub mod Binomial
