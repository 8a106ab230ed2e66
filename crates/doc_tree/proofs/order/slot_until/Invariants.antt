use Rattle.std.proofs.Common.{◌≡◌, ◌<◌, ◌-◌, length, slice_get}
use Rattle.doc_tree.specs.Marks.{marks_until, slots_of}
use Rattle.doc_tree.proofs.order.slot_until.Given as goal

abbrev pub invariant-loop-step : goal.invariant-loop-step
invariant-loop-step l = record {
  told : slice_get (slots_of (marks_until l.next 1 (l.most - l._step) l.mark)) l.left ≡ slice_get (slots_of (marks_until l.next 1 l.most l.first)) l.place;
  within : l.mark < length l.next;
}
