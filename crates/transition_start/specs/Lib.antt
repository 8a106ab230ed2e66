pub mod Change
pub mod Functions
pub mod Phase
pub mod Results
pub mod Rules
pub mod Sampling
