pub mod Asked
pub mod Places
pub mod Rendered
pub mod Taken
pub mod ToldAlike
pub mod Unchanged
pub mod Working
