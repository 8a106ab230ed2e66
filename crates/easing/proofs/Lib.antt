pub mod Ends
pub mod Halving
pub mod Ordered
pub mod Points
pub mod Rises
