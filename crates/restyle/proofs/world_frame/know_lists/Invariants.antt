use Rattle.std.proofs.Common.{ℕ, ◌<◌, get_or}
use Rattle.style_data.specs.Entries.{AreAscending, EntryParts}
use Rattle.style_data.specs.TransitionSets.{AreTransitions}
use Rattle.restyle.proofs.world_frame.know_lists.Given as goal

-- so of each entry so far
abbrev pub invariant-loop-entry : goal.invariant-loop-entry
invariant-loop-entry l = record {
  transitions : (i : ℕ) (d : ℕ × EntryParts) → i < l.entry-index → AreTransitions (get_or l.list i d).1.effects.transitions;
  animations : (i : ℕ) (d : ℕ × EntryParts) → i < l.entry-index → AreAscending (get_or l.list i d).1.effects.animations;
}
