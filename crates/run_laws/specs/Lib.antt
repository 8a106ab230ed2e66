pub mod Occurrences
pub mod Runs
pub mod TransitionCourses
pub mod TransitionNames
