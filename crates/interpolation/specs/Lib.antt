pub mod Colors
pub mod Equality
pub mod Interpolation
pub mod Numbers
