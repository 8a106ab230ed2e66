pub mod BetweenLemmas
pub mod EqualityLemmas
pub mod NumberLemmas
pub mod ValidityLemmas
