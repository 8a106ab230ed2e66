pub mod ByIndex
pub mod DeclarationLemmas
pub mod EveryProperty
pub mod ListLemmas
pub mod Lookups
pub mod StyleLemmas
pub mod Tables
