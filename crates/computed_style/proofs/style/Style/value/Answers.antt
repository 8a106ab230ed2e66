use Rattle.std.proofs.Common.{sym, ap, refl, subst, ◌∙◌}
use Rattle.std.specs.Prelude.{Option, IfSome, unwrap_or}
use Rattle.value_types.specs.Validity.{IsValid}
use Rattle.value_types.specs.declared.value.Value.{Value}
use Rattle.computed_style.specs.ByProperty.{kept_for}
use Rattle.computed_style.specs.Styles.{initial_values, value_at}
use Rattle.computed_style.proofs.Lookups.{found_has}
use Rattle.computed_style.proofs.StyleLemmas.{AreValid-values_with, value_at-values_with}
use Rattle.computed_style.proofs.style.Style.value.Goals as goal

pub returns-in-Some-clause-value : goal.returns-in-Some-clause-value
returns-in-Some-clause-value c =
    rw (← c.self.view_is)
    (sym (value_at-values_with (unwrap_or c.self.inside.base initial_values) c.self.inside.given.items c.args.p c.hold_values.ensures.count
    ∙ ap (λ (o : Option Value). unwrap_or o (value_at (unwrap_or c.self.inside.base initial_values) c.args.p))
    (ap (kept_for c.args.p) (sym c.as_slice.ensures) ∙ sym c.given_for.ensures ∙ c.in-Some.is)))

pub returns-in-Some-clause-valid : goal.returns-in-Some-clause-valid
returns-in-Some-clause-valid c =
    subst (λ (o : Option Value). IfSome o (IsValid c.args.p)) (ap (kept_for c.args.p) (sym c.as_slice.ensures) ∙ sym c.given_for.ensures ∙ c.in-Some.is)
    (found_has IsValid c.self.inside.given.items c.args.p (kept_for c.args.p c.self.inside.given.items) refl c.self.invariant)

pub returns-in-Some-clause-all : goal.returns-in-Some-clause-all
returns-in-Some-clause-all c =
    rw (← c.self.view_is)
    (AreValid-values_with (unwrap_or c.self.inside.base initial_values) c.self.inside.given.items c.hold_values.ensures c.self.invariant)

pub returns-in-None-clause-value : goal.returns-in-None-clause-value
returns-in-None-clause-value c =
    rw (← c.self.view_is, c.base_value.ensures.value)
    (sym (value_at-values_with (unwrap_or c.self.inside.base initial_values) c.self.inside.given.items c.args.p c.base_value.ensures.all.count
    ∙ ap (λ (o : Option Value). unwrap_or o (value_at (unwrap_or c.self.inside.base initial_values) c.args.p))
    (ap (kept_for c.args.p) (sym c.as_slice.ensures) ∙ sym c.given_for.ensures ∙ c.in-None.is)))

pub returns-in-None-clause-all : goal.returns-in-None-clause-all
returns-in-None-clause-all c =
    rw (← c.self.view_is)
    (AreValid-values_with (unwrap_or c.self.inside.base initial_values) c.self.inside.given.items c.base_value.ensures.all c.self.invariant)
