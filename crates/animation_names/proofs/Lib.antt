pub mod Counting
pub mod Keeping
pub mod NumberedLemmas
pub mod OnePairing
pub mod RankPairing
pub mod Ranks
pub mod RuleLookups
pub mod Unchanged
