use Rattle.std.proofs.Common.{◌≡◌, ◌++◌, take}
use Rattle.std.specs.List.{flat_map}
use Rattle.ticker.specs.Ticks.{transition_events}
use Rattle.ticker.proofs.transition.push_transitions.Given as goal

abbrev pub invariant-loop-item : goal.invariant-loop-item
invariant-loop-item l = l.events.items ≡ l.initial.events.items ++ flat_map (transition_events l.element l.position l.t.0) (take l.item-index l.running)
