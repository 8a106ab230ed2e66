pub mod BuiltAgain
pub mod ByProperty
pub mod Completion
pub mod Given
pub mod Quiet
pub mod Steps
