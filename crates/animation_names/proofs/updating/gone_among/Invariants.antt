use Rattle.std.proofs.Common.{◌≡◌}
use Rattle.animation_names.specs.Numbered.{given_below}
use Rattle.animation_names.specs.Updates.{gone_at}
use Rattle.animation_names.proofs.updating.gone_among.Given as goal

-- those of the animations so far
abbrev pub invariant-loop-j : goal.invariant-loop-j
invariant-loop-j l = l.gone.items ≡ given_below (gone_at l.t l.old l.animations) l.j
