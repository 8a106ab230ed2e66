use Rattle.std.proofs.Common.{◌≡◌, take}
use Rattle.style_data.proofs.effects.copy_animations.Given as goal

abbrev pub invariant-loop-animation : goal.invariant-loop-animation
invariant-loop-animation l = l.copies.items ≡ take l.animation-index l.animations
