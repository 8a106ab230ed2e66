use Rattle.std.proofs.Common.{◌≡◌, ◌+◌, drop, length}
use Rattle.std.specs.List.{flat_map}
use Rattle.std.specs.Vec.Iter.{into_iter_items, into_iter_len}
use Rattle.work_split.specs.Steps.{put_all, reached}
use Rattle.work_split.proofs.merge.put_pieces.Given as goal

-- the rest of the pieces, put to the seats that are left, gives what all of them give
abbrev pub invariant-loop-piece : goal.invariant-loop-piece
invariant-loop-piece g l = record {
  rest : put_all (drop l.next l.level) (flat_map (λ v. v.items) (into_iter_items l.piece-iterator)) (reached l.entries.items l.downs.items)
      ≡ put_all l.level (flat_map (λ v. v.items) (into_iter_items l.initial.piece-iterator)) (reached l.initial.entries.items l.initial.downs.items);
  next : l.next + length (flat_map (λ v. v.items) (into_iter_items l.piece-iterator)) ≡ length l.level;
  count : into_iter_len l.piece-iterator ≡ length (into_iter_items l.piece-iterator);
  rows : length l.entries.items ≡ length l.initial.entries.items;
  slots : length l.downs.items ≡ length l.initial.downs.items;
}
