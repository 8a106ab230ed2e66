pub mod ToldLemmas
pub mod LineLemmas
pub mod LawLemmas
pub mod RangeLemmas
pub mod FillLemmas
pub mod PieceLemmas
