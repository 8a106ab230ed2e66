use Rattle.std.proofs.Common.{◌≡◌, ◌<◌, ◌≤◌, ◌+◌, ◌-◌, length}
use Rattle.doc_tree.specs.Marks.{marks_until, slots_of, with_order, with_ranks}
use Rattle.doc_tree.proofs.order.put_ranks.Given as goal

abbrev pub invariant-loop-step : goal.invariant-loop-step
invariant-loop-step l = record {
  ranks : with_ranks (marks_until l.next 1 (l.most - l._step) l.mark) l.rank l.ranks.items ≡ with_ranks (marks_until l.next 1 l.most l.first) 0 l.fn.ranks.items;
  order : with_order (marks_until l.next 1 (l.most - l._step) l.mark) l.rank l.order.items ≡ with_order (marks_until l.next 1 l.most l.first) 0 l.fn.order.items;
  marks : length l.ranks.items ≡ length l.next;
  slots : length l.order.items ≡ length l.fn.order.items;
  within : l.mark < length l.next;
  room : l.rank + length (slots_of (marks_until l.next 1 (l.most - l._step) l.mark)) ≤ length l.fn.order.items;
}
