pub mod ByNumber
pub mod CascadeLemmas
pub mod Validity
