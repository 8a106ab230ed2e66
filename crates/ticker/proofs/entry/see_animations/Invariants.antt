use Rattle.std.proofs.Common.{◌≡◌, length}
use Rattle.ticker.proofs.Changes.{changed_first}
use Rattle.ticker.proofs.entry.see_animations.Given as goal
use Rattle.ticker.specs.Ticks.{ticked_animation, with_animations}

abbrev pub invariant-loop-i : goal.invariant-loop-i
invariant-loop-i l = record {
  count : l.i-end ≡ length l.initial.entry.effects.animations;
  entry : l.entry ≡ with_animations l.initial.entry (changed_first (ticked_animation l.t.0) l.initial.entry.effects.animations l.i);
}
