use Rattle.std.proofs.Common.{◌≡◌, ◌++◌, take}
use Rattle.std.specs.List.{flat_map}
use Rattle.ticker.specs.Ticks.{animation_events}
use Rattle.ticker.proofs.animation.push_animations.Given as goal

abbrev pub invariant-loop-a : goal.invariant-loop-a
invariant-loop-a l = l.events.items ≡ l.initial.events.items ++ flat_map (animation_events l.element l.position l.t.0) (take l.a-index l.animations)
