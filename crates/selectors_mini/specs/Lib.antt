pub mod Compounds
pub mod Parts
pub mod Spelling
pub mod Reading
pub mod Matching
pub mod Climbing
