pub mod Sheets
pub mod Candidates
pub mod Index
