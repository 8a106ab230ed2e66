pub mod Names
pub mod Timing
pub mod TimingLists
