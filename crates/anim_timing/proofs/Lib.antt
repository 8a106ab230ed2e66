pub mod Bounds
pub mod IterationLemmas
pub mod PhaseLemmas
