pub mod Continuing
pub mod NameLists
pub mod Numbered
pub mod Pairings
pub mod Samples
pub mod Updates
