pub mod Lists
pub mod Runs
pub mod Sound
pub mod Complete
pub mod Selectors
pub mod Climbs
pub mod Fitting
