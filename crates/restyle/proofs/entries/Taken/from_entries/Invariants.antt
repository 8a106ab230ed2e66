use Rattle.std.proofs.Common.{◌≡◌, ◌++◌, length, map}
use Rattle.std.specs.Prelude.{Some}
use Rattle.std.specs.Vec.Iter.{into_iter_items, into_iter_len}
use Rattle.restyle.proofs.entries.Taken.from_entries.Given as goal

-- the entries so far are left; the others are still to come
abbrev pub invariant-loop-entry : goal.invariant-loop-entry
invariant-loop-entry l = record {
  lists : l.yielded ++ into_iter_items l.entry-iterator ≡ into_iter_items l.initial.entry-iterator;
  left : l.left.items ≡ map (λ x. Some x.1) l.yielded;
  count : into_iter_len l.entry-iterator ≡ length (into_iter_items l.entry-iterator);
}
