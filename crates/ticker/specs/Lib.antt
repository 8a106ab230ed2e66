pub mod AnimationEvents
pub mod Courses
pub mod Distinct
pub mod Events
pub mod Ticks
pub mod TransitionEvents
