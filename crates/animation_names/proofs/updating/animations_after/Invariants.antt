use Rattle.std.proofs.Common.{◌≡◌}
use Rattle.animation_names.specs.NameLists.{names_update}
use Rattle.animation_names.specs.Numbered.{given_below}
use Rattle.animation_names.specs.Updates.{animation_at}
use Rattle.animation_names.proofs.updating.animations_after.Given as goal

-- the animations of the places so far
abbrev pub invariant-loop-i : goal.invariant-loop-i
invariant-loop-i l = l.animations.items ≡ given_below (animation_at (names_update l.old l.lists l.sheets l.t l.generation l.position)) l.i
