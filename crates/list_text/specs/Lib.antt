pub mod Easings
pub mod ItemReading
pub mod Lists
pub mod Numbers
pub mod Reading
