use Rattle.std.proofs.Common.{◌≡◌, ◌++◌, length}
use Rattle.std.specs.Prelude.{flat_map}
use Rattle.std.specs.Vec.Iter.{into_iter_items, into_iter_len}
use Rattle.event_order.proofs.order.joined.Given as goal

-- the events of the lists so far; the others are still to come
abbrev pub invariant-loop-list : goal.invariant-loop-list
invariant-loop-list l = record {
  lists : l.yielded ++ into_iter_items l.list-iterator ≡ into_iter_items l.initial.list-iterator;
  events : l.events.items ≡ flat_map (λ list. list.items) l.yielded;
  count : into_iter_len l.list-iterator ≡ length (into_iter_items l.list-iterator);
}
