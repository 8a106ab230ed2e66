pub mod Inheritance
pub mod ThreeStyles
