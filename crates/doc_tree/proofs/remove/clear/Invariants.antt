use Rattle.std.proofs.Common.{◌≡◌, length, drop}
use Rattle.doc_tree.specs.Marks.{cleared}
use Rattle.doc_tree.proofs.remove.clear.Given as goal

abbrev pub invariant-loop-slot : goal.invariant-loop-slot
invariant-loop-slot l = record {
  told : cleared l.nodes.items (drop l.slot-index l.slots) ≡ cleared l.fn.nodes.items l.slots;
  same : length l.nodes.items ≡ length l.fn.nodes.items;
}
