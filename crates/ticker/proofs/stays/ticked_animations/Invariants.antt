use Rattle.std.proofs.Common.{◌≡◌, map, take}
use Rattle.ticker.specs.Ticks.{ticked_animation}
use Rattle.ticker.proofs.stays.ticked_animations.Given as goal

abbrev pub invariant-loop-a : goal.invariant-loop-a
invariant-loop-a l = l.ticked.items ≡ map (ticked_animation l.t.0) (take l.a-index l.animations)
