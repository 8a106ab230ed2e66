use Rattle.std.proofs.Common.{◌≡◌, ◌∙◌, ap, subst, sym}
use Rattle.std.specs.Prelude.{IfOk}
use Rattle.doc_tree.specs.Element.{is_in}
use Rattle.pass_core.specs.Work.{asked}
use Rattle.pass_core.specs.declared.step.Step.TheVariants.{Kept}
use Rattle.element_step.specs.Works.{DocumentEvent, outcome_with}
use Rattle.element_step.proofs.Working.{outside_is}
use Rattle.element_step.proofs.work.update_unedited.Goals as goal

pub returns-then-not-contains : goal.returns-then-not-contains
returns-then-not-contains c =
    ap Kept c.handed_on.ensures
    ∙ ap (asked c.args.leaf)
    (sym (outside_is c.args.work.now c.args.element c.args.entry.now c.args.entry.now.declared c.args.down.now
    (sym (ap (λ (v : DocumentEvent). is_in c.args.element v.document.elements) c.work.view_is) ∙ sym c.contains.ensures ∙ c.if-not-contains.true)))

pub returns : goal.returns
returns c =
    subst (λ d. IfOk c.update_declaring.result (λ step. step ≡ asked c.args.leaf (outcome_with c.args.work.now c.args.element c.args.entry.now d c.args.down.now)))
    (c.in_ok-declared.ensures ∙ c.declared.ensures) c.update_declaring.ensures
