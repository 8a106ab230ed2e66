use Rattle.std.proofs.Common.{◌≢◌, ◌≡◌, ◌%◌, sym, ap, ◌∙◌, ℕ, List, ◌-◌, ◌+◌, get_or, slice_get}
use Rattle.doc_tree.specs.Marks.{marks_until, slots_of}
use Rattle.doc_tree.proofs.Numbers.{below-at}
use Rattle.doc_tree.proofs.Walks.{until-step, place-step}
use Rattle.doc_tree.proofs.order.slot_until.Goals.{else-mark-eq0-via-then-mark-eq0+else-left-eq0, else-mark-eq0-via-else-mark-eq0}
use Rattle.doc_tree.proofs.order.slot_until.Goals as goal

pub loop-step-preserved : goal.loop-step-preserved
loop-step-preserved c =
    let mark = c.loop-step.mark in
    let left = c.loop-step.left in
    let rest = marks_until c.args.next.now 1 (c.args.most - (c.loop-step._step + 1)) (get_or c.args.next.now mark 0) in
    let later : mark % 2 ≡ 0 → left ≢ 0 =
    elim c.else-mark-eq0.branch [ else-mark-eq0-via-then-mark-eq0+else-left-eq0 w ↦ (λ _. w.if-left-eq0.false) | else-mark-eq0-via-else-mark-eq0 w ↦ (λ is. absurd (w.if-mark-eq0.false is)) ] in
    let step = until-step c.args.next.now 1 c.args.most c.loop-step._step mark c.loop-step-test.true c.if-mark-eq-END.false in
    record {
      told = sym (place-step mark rest left (left - c.opened_at-left.result) later (ap (λ (n : ℕ). left - n) c.opened_at-left.ensures.count)) ∙ (sym (ap (λ (ms : List ℕ). slice_get (slots_of ms) left) step) ∙ c.loop-step.invariant.told);
      within = below-at c.args.next.now mark _ c.loop-step.invariant.within c.requires.links;
    }
