pub mod LevelLists
pub mod RowLists
pub mod Pieces
pub mod Putting
pub mod Slots
pub mod Seating
pub mod Standings
pub mod Earlier
