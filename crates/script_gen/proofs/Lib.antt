mod AddLemmas
mod ChangeLemmas
mod DrawLemmas
pub mod FormLemmas
mod LengthLemmas
pub mod ReadBackLemmas
mod RoundLemmas
pub mod ScriptLemmas
mod TextLemmas
