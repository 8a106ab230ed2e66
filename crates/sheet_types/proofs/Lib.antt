pub mod NameLists
pub mod Puts
pub mod Keyed
pub mod Matched
