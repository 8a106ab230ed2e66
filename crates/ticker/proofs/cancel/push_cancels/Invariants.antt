use Rattle.std.proofs.Common.{◌≡◌, ◌++◌, take}
use Rattle.std.specs.List.{flat_map}
use Rattle.ticker.specs.Ticks.{cancel_events}
use Rattle.ticker.proofs.cancel.push_cancels.Given as goal

abbrev pub invariant-loop-gone : goal.invariant-loop-gone
invariant-loop-gone l = l.events.items ≡ l.initial.events.items ++ flat_map (cancel_events l.element) (take l.gone-index l.items)
