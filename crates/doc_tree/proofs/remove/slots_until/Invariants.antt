use Rattle.std.proofs.Common.{◌≡◌, ◌<◌, ◌-◌, ◌∷◌, ◌++◌, length}
use Rattle.doc_tree.specs.Marks.{marks_until, slots_of}
use Rattle.doc_tree.proofs.remove.slots_until.Given as goal

abbrev pub invariant-loop-step : goal.invariant-loop-step
invariant-loop-step l = record {
  told : l.slots.items ++ slots_of (marks_until l.next l.last (l.most - l._step) l.mark) ≡ l.slot ∷ slots_of (marks_until l.next l.last l.most l.first);
  within : l.mark < length l.next;
}
