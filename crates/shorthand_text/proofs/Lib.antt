pub mod ComponentLemmas
pub mod DeclaredLemmas
pub mod ItemLemmas
pub mod NameLemmas
pub mod OutcomeLemmas
pub mod SideLemmas
pub mod TargetLemmas
pub mod TimingLemmas
