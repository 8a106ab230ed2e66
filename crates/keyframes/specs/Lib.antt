pub mod EffectValues
pub mod Last
pub mod PropertyKeyframes
pub mod SampleLists
pub mod SampleProps
pub mod SamplesIn
pub mod Validity
