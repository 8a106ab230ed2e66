use Rattle.std.proofs.Common.{◌≡◌, ◌+◌, drop, length}
use Rattle.std.specs.Vec.Iter.{into_iter_items, into_iter_len}
use Rattle.work_split.specs.Steps.{put_all, reached}
use Rattle.work_split.proofs.merge.put_piece.Given as goal

-- the rest of the outcomes, put to the seats that are left, gives what all of them give
abbrev pub invariant-loop-step : goal.invariant-loop-step
invariant-loop-step g l = record {
  rest : put_all (drop l.next l.level) (into_iter_items l.step-iterator) (reached l.entries.items l.downs.items)
      ≡ put_all (drop l.from l.level) (into_iter_items l.initial.step-iterator) (reached l.initial.entries.items l.initial.downs.items);
  next : l.next + length (into_iter_items l.step-iterator) ≡ l.from + length (into_iter_items l.initial.step-iterator);
  count : into_iter_len l.step-iterator ≡ length (into_iter_items l.step-iterator);
  rows : length l.entries.items ≡ length l.initial.entries.items;
  slots : length l.downs.items ≡ length l.initial.downs.items;
}
