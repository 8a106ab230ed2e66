pub mod Bezier
pub mod Billionths
pub mod Easings
pub mod Greatest
pub mod Stepping
