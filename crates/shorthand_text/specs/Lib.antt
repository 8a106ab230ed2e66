pub mod KnownNames
pub mod Longhands
pub mod Outcomes
pub mod Sides
pub mod Components
pub mod TimingItems
pub mod Declaring
pub mod Targets
