pub mod ActiveTimes
pub mod Directions
pub mod Durations
pub mod Iterations
pub mod Phases
pub mod Playing
pub mod Progresses
pub mod Ratios
