pub mod Idle
pub mod Staying
pub mod Updates
