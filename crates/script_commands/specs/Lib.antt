pub mod Accepted
pub mod Generated
