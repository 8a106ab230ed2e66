use Rattle.std.proofs.Common.{◌≡◌, ◌++◌, map, take}
use Rattle.animation_names.specs.Continuing.{cancelled_animation}
use Rattle.restyle.proofs.departed.push_animations.Given as goal

abbrev pub invariant-loop-animation : goal.invariant-loop-animation
invariant-loop-animation l = l.departed.items ≡ l.initial.departed.items ++ map (λ a. (l.n, cancelled_animation l.t a)) (take l.animation-index l.animations)
