use Rattle.std.proofs.Common.{◌≡◌, ◌<◌, ◌≤◌, ◌+◌, ◌-◌, length}
use Rattle.doc_tree.specs.Marks.{marks_until, slots_of}
use Rattle.doc_tree.proofs.order.opened_until.Given as goal

abbrev pub invariant-loop-step : goal.invariant-loop-step
invariant-loop-step l = record {
  told : l.count + length (slots_of (marks_until l.next l.last (l.most - l._step) l.mark)) ≡ length (slots_of (marks_until l.next l.last l.most l.first));
  few : l.count ≤ l._step;
  within : l.mark < length l.next;
}
