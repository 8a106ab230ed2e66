use Rattle.std.proofs.Common.{◌≡◌, ◌∙◌, ap, subst, sym}
use Rattle.std.specs.Prelude.{IfOk}
use Rattle.pass_core.specs.Work.{asked}
use Rattle.element_step.specs.Quiet.{declared_in}
use Rattle.element_step.specs.Works.{outcome_with}
use Rattle.element_step.proofs.Working.{outcome_is}
use Rattle.element_step.proofs.quiet.update_in.Goals as goal

pub returns-else-untouched : goal.returns-else-untouched
returns-else-untouched c =
    let w = c.args.work.now in
    let n = c.args.element in
    let entry = c.args.entry.now in
    subst (λ s. IfOk c.update_element.result (λ step. step ≡ asked c.args.leaf s))
    (sym (outcome_is w n entry c.args.down.now) ∙ ap (λ b. outcome_with w n entry (declared_in b w n entry) c.args.down.now) (sym c.if-untouched.false)) c.update_element.ensures
