pub mod Work
pub mod Plans
pub mod Passes
pub mod Downs
pub mod InOrder
