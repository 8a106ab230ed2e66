pub mod Alone
pub mod TwoDurations
pub mod TwoFrames
