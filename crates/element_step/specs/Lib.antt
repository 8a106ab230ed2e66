pub mod Alike
pub mod Quiet
pub mod Rendering
pub mod Restyling
pub mod Settling
pub mod Updates
pub mod Works
