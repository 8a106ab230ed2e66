pub mod Characters
pub mod Productions
pub mod TokenLists
pub mod Fronts
pub mod Reading
