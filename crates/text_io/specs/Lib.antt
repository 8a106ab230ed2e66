pub mod Causes
pub mod Told
pub mod Lines
pub mod Reader
pub mod Buffer
pub mod Memory
pub mod View
pub mod Std
