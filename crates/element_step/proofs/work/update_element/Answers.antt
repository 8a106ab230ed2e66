use Rattle.std.proofs.Common.{◌≡◌, ◌∙◌, ap, subst, sym}
use Rattle.std.specs.Prelude.{IfOk}
use Rattle.cascade_sort.specs.Winning.{declared_of}
use Rattle.doc_tree.specs.Element.{is_in}
use Rattle.pass_core.specs.Work.{asked}
use Rattle.pass_core.specs.declared.step.Step.TheVariants.{Kept}
use Rattle.element_step.specs.Works.{DocumentEvent, element_declarations, outcome_with}
use Rattle.element_step.proofs.Working.{outcome_is, outside_is}
use Rattle.element_step.proofs.work.update_element.Goals as goal

pub returns-then-not-contains : goal.returns-then-not-contains
returns-then-not-contains c =
    ap Kept c.handed_on.ensures
    ∙ ap (asked c.args.leaf)
    (sym (outside_is c.args.work.now c.args.element c.args.entry.now (element_declarations c.args.work.now c.args.element) c.args.down.now
    (sym (ap (λ (v : DocumentEvent). is_in c.args.element v.document.elements) c.work.view_is) ∙ sym c.contains.ensures ∙ c.if-not-contains.true))
    ∙ outcome_is c.args.work.now c.args.element c.args.entry.now c.args.down.now)

pub returns : goal.returns
returns c =
    let w = c.args.work.now in
    let n = c.args.element in
    subst (λ s. IfOk c.update_declaring.result (λ step. step ≡ asked c.args.leaf s))
    (ap (λ d. outcome_with w n c.args.entry.now d c.args.down.now)
    (c.in_ok-declared.ensures.value ∙ ap (λ (v : DocumentEvent). declared_of v.sheets v.document.elements n) c.work.view_is)
    ∙ outcome_is w n c.args.entry.now c.args.down.now)
    c.update_declaring.ensures
