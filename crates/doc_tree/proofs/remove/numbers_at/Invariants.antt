use Rattle.std.proofs.Common.{◌≡◌, ◌++◌, map, drop, slice_index_or}
use Rattle.doc_tree.proofs.remove.numbers_at.Given as goal

abbrev pub invariant-loop-slot : goal.invariant-loop-slot
invariant-loop-slot l = l.numbers.items ++ map (λ s. slice_index_or l.keys s 0) (drop l.slot-index l.slots) ≡ map (λ s. slice_index_or l.keys s 0) l.slots
