use Rattle.std.specs.Prelude.{option_copied}
use Rattle.computed_style.specs.ComputedStyles.{style_sources}
use Rattle.mini_cascade.specs.Sources.{AreInitial, computed_values}
use Rattle.mini_cascade.proofs.style.next_changed.Given as goal

-- the values so far are initial
abbrev pub invariant-loop-i : goal.invariant-loop-i
invariant-loop-i g l = AreInitial (computed_values (style_sources l.d (g.A.Sampling.animated_value l.anims) l.transitions (option_copied l.parent))) l.fn.from l.i
