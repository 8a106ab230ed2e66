pub mod AcceptedLemmas
mod CommandLemmas
mod GrownLemmas
pub mod ScriptLemmas
mod SheetLemmas
mod WordLemmas
