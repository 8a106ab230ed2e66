pub mod ColorReading
pub mod Colors
pub mod NumberReading
pub mod Numbers
pub mod Reading
pub mod Sizes
pub mod Spelling
