pub mod MatchedItems
pub mod Matching
