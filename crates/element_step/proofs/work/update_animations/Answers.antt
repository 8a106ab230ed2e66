use Rattle.std.proofs.Common.{◌≡◌, ◌∙◌, ap, refl, sym, subst, []}
use Rattle.std.specs.Prelude.{IfOk, unwrap_or}
use Rattle.animation_names.specs.Updates.{PairedLists}
use Rattle.timing_types.specs.TimingLists.{initial_animations}
use Rattle.element_step.proofs.Working.{empty_of, nothing_paired, paired_is}
use Rattle.element_step.proofs.work.update_animations.Goals as goal

pub returns-in-Some-clause-animations : goal.returns-in-Some-clause-animations
returns-in-Some-clause-animations c =
    subst (λ (v : PairedLists). IfOk c.pair.result (λ p. p.animations.items ≡ v.animations))
    (paired_is c.args.work.now c.args.event c.args.rendered c.args.entry.now c.args.declared.now c.animations_before-before.result.now c.get.result.now c.work.inside.sheets
    c.animations_before-before.ensures (c.get.ensures ∙ sym (ap (λ o. unwrap_or o initial_animations) c.in-Some.is) ∙ c.in_ok-lists.ensures) (ap (λ w. w.sheets) c.work.view_is))
    c.pair.ensures.animations

pub returns-in-Some-clause-gone : goal.returns-in-Some-clause-gone
returns-in-Some-clause-gone c =
    subst (λ (v : PairedLists). IfOk c.pair.result (λ p. p.gone.items ≡ v.gone))
    (paired_is c.args.work.now c.args.event c.args.rendered c.args.entry.now c.args.declared.now c.animations_before-before.result.now c.get.result.now c.work.inside.sheets
    c.animations_before-before.ensures (c.get.ensures ∙ sym (ap (λ o. unwrap_or o initial_animations) c.in-Some.is) ∙ c.in_ok-lists.ensures) (ap (λ w. w.sheets) c.work.view_is))
    c.pair.ensures.gone

pub returns-in-None-clause-animations : goal.returns-in-None-clause-animations
returns-in-None-clause-animations c =
    c.none.ensures.animations
    ∙ ap (λ (v : PairedLists). v.animations) (sym (nothing_paired c.args.work.now.sheets c.args.event.time c.args.event.generation c.args.event.position)
    ∙ paired_is c.args.work.now c.args.event c.args.rendered c.args.entry.now c.args.declared.now [] initial_animations c.args.work.now.sheets
    (sym (empty_of c.animations_before-before.result.now (sym c.is_empty.ensures ∙ c.if-is_empty.true)) ∙ c.animations_before-before.ensures)
    (sym (ap (λ o. unwrap_or o initial_animations) c.in-None.is) ∙ c.in_ok-lists.ensures) refl)

pub returns-in-None-clause-gone : goal.returns-in-None-clause-gone
returns-in-None-clause-gone c =
    c.none.ensures.gone
    ∙ ap (λ (v : PairedLists). v.gone) (sym (nothing_paired c.args.work.now.sheets c.args.event.time c.args.event.generation c.args.event.position)
    ∙ paired_is c.args.work.now c.args.event c.args.rendered c.args.entry.now c.args.declared.now [] initial_animations c.args.work.now.sheets
    (sym (empty_of c.animations_before-before.result.now (sym c.is_empty.ensures ∙ c.if-is_empty.true)) ∙ c.animations_before-before.ensures)
    (sym (ap (λ o. unwrap_or o initial_animations) c.in-None.is) ∙ c.in_ok-lists.ensures) refl)

pub returns-in_ok-lists-in-None-2-clause-animations : goal.returns-in_ok-lists-in-None-2-clause-animations
returns-in_ok-lists-in-None-2-clause-animations c =
    subst (λ (v : PairedLists). IfOk c.pair-in-None-2.result (λ p. p.animations.items ≡ v.animations))
    (paired_is c.args.work.now c.args.event c.args.rendered c.args.entry.now c.args.declared.now c.animations_before-before.result.now c.in_ok-lists-in-None-2.lists c.work.inside.sheets
    c.animations_before-before.ensures
    (c.in_ok-lists-in-None-2.ensures ∙ sym (ap (λ o. unwrap_or o initial_animations) c.in-None-2.is) ∙ c.in_ok-lists.ensures) (ap (λ w. w.sheets) c.work.view_is))
    c.pair-in-None-2.ensures.animations

pub returns-in_ok-lists-in-None-2-clause-gone : goal.returns-in_ok-lists-in-None-2-clause-gone
returns-in_ok-lists-in-None-2-clause-gone c =
    subst (λ (v : PairedLists). IfOk c.pair-in-None-2.result (λ p. p.gone.items ≡ v.gone))
    (paired_is c.args.work.now c.args.event c.args.rendered c.args.entry.now c.args.declared.now c.animations_before-before.result.now c.in_ok-lists-in-None-2.lists c.work.inside.sheets
    c.animations_before-before.ensures
    (c.in_ok-lists-in-None-2.ensures ∙ sym (ap (λ o. unwrap_or o initial_animations) c.in-None-2.is) ∙ c.in_ok-lists.ensures) (ap (λ w. w.sheets) c.work.view_is))
    c.pair-in-None-2.ensures.gone
