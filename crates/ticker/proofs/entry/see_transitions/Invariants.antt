use Rattle.std.proofs.Common.{◌≡◌, length}
use Rattle.ticker.proofs.Changes.{changed_first}
use Rattle.ticker.proofs.entry.see_transitions.Given as goal
use Rattle.ticker.specs.Ticks.{seen_with_property, with_running}

abbrev pub invariant-loop-i : goal.invariant-loop-i
invariant-loop-i l = record {
  count : l.i-end ≡ length l.initial.entry.effects.transitions.running;
  entry : l.entry ≡ with_running l.initial.entry (changed_first (seen_with_property l.t.0) l.initial.entry.effects.transitions.running l.i);
}
