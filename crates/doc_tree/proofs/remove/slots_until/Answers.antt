use Rattle.std.proofs.Common.{◌≡◌, ◌∙◌, ◌-◌, ◌++◌, [], ◌∷◌, ℕ, List, sym, ap}
use Rattle.std.proofs.lemmas.List.{append-nil}
use Rattle.doc_tree.specs.Marks.{marks_until, slots_of}
use Rattle.doc_tree.proofs.Numbers.{below-at}
use Rattle.doc_tree.proofs.Walks.{collect-step, until-end, until-over}
use Rattle.doc_tree.proofs.remove.slots_until.Goals.{else-loop-step-test, then-loop-step-test+then-mark-last}
use Rattle.doc_tree.proofs.remove.slots_until.Goals as goal

pub loop-step-preserved : goal.loop-step-preserved
loop-step-preserved c = record {
  told = collect-step c.args.next.now c.args.last c.args.most c.loop-step._step c.loop-step.mark c.loop-step.slots.items c.push_opened.new.slots.items (c.args.slot ∷ slots_of (marks_until c.args.next.now c.args.last c.args.most c.args.first)) c.loop-step-test.true c.if-mark-last.false c.in_ok-push_opened.ensures
      c.loop-step.invariant.told;
  within = below-at c.args.next.now c.loop-step.mark _ c.loop-step.invariant.within c.requires.links;
}

pub returns : goal.returns
returns c =
    let none : marks_until c.args.next.now c.args.last (c.args.most - c.loop-step._step) c.loop-step.mark ≡ [] =
    elim c.loop-step-test.branch [
      | else-loop-step-test w ↦ until-over c.args.next.now c.args.last c.args.most c.loop-step._step c.loop-step.mark w.loop-step-test.false
      | then-loop-step-test+then-mark-last w ↦ until-end c.args.next.now c.args.last (c.args.most - c.loop-step._step) c.loop-step.mark w.if-mark-last.true
    ] in
    sym (ap (λ (ms : List ℕ). c.loop-step.slots.items ++ slots_of ms) none ∙ append-nil c.loop-step.slots.items) ∙ c.loop-step.invariant.told
