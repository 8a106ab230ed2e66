pub mod OnTop
pub mod PathLemmas
