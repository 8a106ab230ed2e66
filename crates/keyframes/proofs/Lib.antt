pub mod Distances
pub mod KeyframeLemmas
pub mod LawLemmas
pub mod ListLemmas
pub mod SampleLemmas
