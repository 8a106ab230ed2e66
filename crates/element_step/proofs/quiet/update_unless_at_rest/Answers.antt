use Rattle.std.proofs.Common.{◌∙◌, ◌&&◌, ap, subst, sym, true, Some}
use Rattle.std.specs.Prelude.{IfSome, unwrap_or}
use Rattle.pass_core.specs.Work.{asked, IsSibling}
use Rattle.pass_core.specs.declared.step.Step.TheVariants.{Kept, Updated}
use Rattle.element_step.specs.Quiet.{declared_in, handed_at_rest, is_at_rest, moving_told, outcome_where, quiet_down, quiet_meaning}
use Rattle.element_step.specs.Updates.{unless_leaf}
use Rattle.element_step.specs.Works.{outcome_with, top_down}
use Rattle.element_step.proofs.Asked.{moving_asked, sibling_tells}
use Rattle.element_step.proofs.Taken.{taken_over}
use Rattle.element_step.proofs.Working.{at_rest_is, in_motion_is}
use Rattle.element_step.proofs.quiet.update_unless_at_rest.Goals as goal

pub returns-then-is_passed_over : goal.returns-then-is_passed_over
returns-then-is_passed_over c =
    let w = c.args.work.now.work in
    let n = c.args.element in
    let entry = c.args.entry.now in
    let leaf = c.args.leaf in
    ap Kept c.resting_down.ensures ∙ ap (λ p. Kept (unless_leaf leaf (quiet_down (Some (handed_at_rest entry p)) true true))) c.as_ref.ensures.value
    ∙ ap (asked leaf)
    (at_rest_is c.is_untouched-untouched.result w n entry c.args.down.now (sym c.is_passed_over.ensures ∙ c.if-is_passed_over.true)
    ∙ ap (λ u. outcome_where u w n entry c.args.down.now) c.is_untouched-untouched.ensures)

pub returns : goal.returns
returns c =
    let w = c.args.work.now.work in
    let n = c.args.element in
    let entry = c.args.entry.now in
    let untouched = c.is_untouched-untouched.result in
    let leaf = c.args.leaf in
    c.moving_step.ensures
    ∙ ap (moving_told untouched)
    (c.in_ok-step.ensures ∙ ap (λ p. asked leaf (outcome_with w n entry (declared_in untouched w n entry) (unwrap_or p top_down))) c.as_ref-parent.ensures.value)
    ∙ moving_asked leaf untouched (outcome_with w n entry (declared_in untouched w n entry) (unwrap_or c.args.down.now.parent top_down))
    ∙ ap (asked leaf)
    (in_motion_is untouched w n entry c.args.down.now (sym c.is_passed_over.ensures ∙ c.if-is_passed_over.false)
    ∙ ap (λ u. outcome_where u w n entry c.args.down.now) c.is_untouched-untouched.ensures)

pub returns-then-gives_the_same : goal.returns-then-gives_the_same
returns-then-gives_the_same c =
    let work = c.args.work.now in
    let entry = c.args.entry.now in
    let down = c.args.down.now in
    let s = c.in-Some.sibling in
    let same = c.if-gives_the_same.ensures in
    let moves = ap (λ u. u && down.rests && is_at_rest entry) (sym c.is_untouched-untouched.ensures) ∙ sym c.is_passed_over.ensures ∙ c.if-is_passed_over.false in
    let is = subst (λ o. IfSome o (IsSibling (quiet_meaning work.quiet work.touched.keys work.work) down)) c.in-Some.is c.requires in
    let leaf = c.args.leaf in
    ap (λ after. Updated after c.taken_down.result) c.in_ok-after.ensures
    ∙ ap (Updated s.after.now) (c.taken_down.ensures ∙ sibling_tells leaf s.down is.handed is.handed_is (sym c.tells_enough.ensures ∙ c.if-tells_enough.true))
    ∙ ap (asked leaf)
    (taken_over work.touched.keys work.work c.args.element s.element entry s.before.now s.after.now down is.handed same.elements same.entries same.touched_alike
    same.no_effects_after moves is.outcome_is)
