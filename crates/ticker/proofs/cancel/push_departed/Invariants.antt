use Rattle.std.proofs.Common.{◌≡◌, ◌++◌, take}
use Rattle.std.specs.List.{flat_map}
use Rattle.ticker.specs.Ticks.{cancel_events}
use Rattle.ticker.proofs.cancel.push_departed.Given as goal

abbrev pub invariant-loop-item : goal.invariant-loop-item
invariant-loop-item l = l.events.items ≡ l.initial.events.items ++ flat_map (λ d. cancel_events d.0 d.1) (take l.item-index l.departed)
