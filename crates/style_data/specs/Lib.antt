pub mod Animations
pub mod Entries
pub mod Events
pub mod Kept
pub mod TransitionSets
pub mod Transitions
