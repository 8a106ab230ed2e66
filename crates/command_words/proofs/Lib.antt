pub mod Walks
pub mod Shapes
pub mod Cuts
pub mod Readings
