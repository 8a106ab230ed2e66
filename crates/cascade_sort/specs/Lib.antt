pub mod Lexicographic
pub mod Precedences
pub mod Applying
pub mod Winning
pub mod Finding
pub mod Alike
