-- What a world keeps, and what it stands for.
use Rattle.std.specs.Prelude.{◌≡◌, ℕ, nat_eq, All, IsTrue, List, [], Option, Some}
use Rattle.std.specs.List.{flat_map, list_all}
use Rattle.doc_tree.specs.Element.{is_used}
use Rattle.doc_tree.specs.declared.fault.TreeFault.{TreeFault}
use Rattle.doc_tree.specs.declared.fault.TreeFault.TheVariants as tree
use Rattle.indexmap.specs.IndexSet.{insert_key}
use Rattle.script_text.specs.declared.refusal.Refusal.{Refusal}
use Rattle.script_text.specs.declared.refusal.Refusal.TheVariants as refusal
use Rattle.sheet_rules.specs.declared.fault.CssFault.{CssFault}
use Rattle.sheet_rules.specs.declared.fault.CssFault.TheVariants as css
use Rattle.style_data.specs.Entries.{EntryParts}
use Rattle.style_data.specs.Transitions.{IsMoment}
use Rattle.style_data.specs.declared.gone.Gone.{Gone}
use Rattle.restyle.specs.Distinct.{IsWorld}
use Rattle.restyle.specs.Edits.{refusal_of_tree}
use Rattle.restyle.specs.Quiet.{IsLeftByFrame}
use Rattle.restyle.specs.Worlds.{WorldParts, all_departed_of, entries_of, world_parts}
use Rattle.restyle.specs.declared.edit_fault.EditFault.{EditFault}
use Rattle.restyle.specs.declared.edit_fault.EditFault.TheVariants.{Refused, NoMemory}
use Rattle.restyle.specs.declared.state.Removed.{Removed}
use Rattle.restyle.specs.declared.state.WorldState.{WorldState}

-- what the removed elements had, by their entries
abbrev pub departed_in : List (ℕ × EntryParts) → List Removed → List (ℕ × Gone)
departed_in entries removed = flat_map (λ r. all_departed_of entries r.time r.numbers.items) removed

-- the world that is kept so: an element that has no entry yet has one that no frame has styled, and what is removed is cancelled where it is needed
abbrev pub world_of : WorldState → WorldParts
world_of s = world_parts s.tree s.last_sheets s.sheets (entries_of s.tree s.entries) (departed_in s.entries s.removed.items) s.time s.frames

-- no element that is new has an entry, and what says that it is quiet is what a frame left, but for the time and for what was touched
pub record IsKeptState (s : WorldState) : Type 0 where
  pub world : IsWorld (world_of s)
  pub time : IsMoment s.time.0
  pub removed : All (λ r. IsMoment r.time.0) s.removed.items
  pub used : IsTrue (list_all (λ e. is_used e.0 s.tree) s.entries)
  pub quiet : IsTrue s.quiet → IsLeftByFrame s.touched.keys (world_of s)

-- after the tick of a frame nothing waits of removed elements, and the document, its sheets and the time are as they were
pub record HasSameRest (before after : WorldState) : Type 0 where
  pub tree : after.tree ≡ before.tree
  pub time : after.time ≡ before.time
  pub frames : after.frames ≡ before.frames
  pub quiet : after.quiet ≡ before.quiet
  pub touched : after.touched ≡ before.touched
  pub removed : after.removed.items ≡ []

-- element n counts as touched too, or nothing as quiet, and all else stays
pub record IsTouched (before : WorldState) (n : ℕ) (after : WorldState) : Type 0 where
  pub rest : after ≡ record before { quiet = after.quiet; touched = after.touched }
  pub quiet : IsTrue after.quiet → IsTrue before.quiet
  pub touched : IsTrue after.quiet → after.touched.keys ≡ insert_key nat_eq before.touched.keys n

-- what an edit answers where the tree has this fault
abbrev pub edit_fault_of_tree : TreeFault → EditFault
edit_fault_of_tree tree.NoMemory = NoMemory
edit_fault_of_tree fault = Refused (refusal_of_tree fault)

-- and where a text has this one
abbrev pub edit_fault_of_css : CssFault → EditFault
edit_fault_of_css css.NoMemory = NoMemory
edit_fault_of_css fault = Refused (refusal.Css fault)

-- an edit fails for this refusal, or for want of memory
abbrev pub IsFaultOf : Option Refusal → EditFault → Type 0
IsFaultOf refusal (Refused r) = refusal ≡ Some r
IsFaultOf refusal NoMemory = Unit {0}
