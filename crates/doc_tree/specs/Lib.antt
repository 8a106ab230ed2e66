pub mod Element
pub mod Children
pub mod Shape
pub mod Fault
pub mod Change
pub mod Marks
