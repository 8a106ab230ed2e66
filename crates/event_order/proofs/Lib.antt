pub mod Ascending
pub mod KeyLemmas
