use Rattle.std.proofs.Common.{◌≡◌, take}
use Rattle.std.specs.List.{flat_map}
use Rattle.ticker.proofs.Changes.{changed_first}
use Rattle.ticker.proofs.ticks.tick.Given as goal
use Rattle.ticker.specs.Ticks.{entry_events, ticked_entry}

abbrev pub invariant-loop-item : goal.invariant-loop-item
invariant-loop-item l = record {
  entries : l.item-items ≡ changed_first (ticked_entry l.t.0) l.fn.entries.items l.item-index;
  events : l.events.items ≡ flat_map (entry_events l.tree l.t.0) (take l.item-index l.fn.entries.items);
}
