pub mod Bounds
pub mod Commands
pub mod Forms
pub mod Reading
pub mod Statements
pub mod Words
