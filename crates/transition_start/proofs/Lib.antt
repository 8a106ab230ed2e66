pub mod Cases
pub mod Ends
pub mod Rules
pub mod Times
