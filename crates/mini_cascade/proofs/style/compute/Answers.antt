use Rattle.std.proofs.Common.{◌+◌, ◌≤◌, ◌∙◌, refl, subst}
use Rattle.std.specs.Prelude.{ℕ, [], ◌∷◌, option_copied, unwrap_or}
use Rattle.timing_types.specs.TimingLists.{initial_animations}
use Rattle.value_types.specs.Properties.{number_of}
use Rattle.value_types.specs.TransitionLists.{initial_transitions}
use Rattle.computed_style.specs.ComputedStyles.{StyleSources, animation_lists_of, computed_style, style_sources, transition_lists_of}
use Rattle.computed_style.specs.Styles.{initial_values, style_of_values, values_with}
use Rattle.computed_style.proofs.Tables.{number_small}
use Rattle.mini_cascade.specs.Sources.{AreInitial, computed_values}
use Rattle.mini_cascade.proofs.ByNumber.{computed_count, none_changed, none_then, one_changed, two_changed}
use Rattle.mini_cascade.proofs.CascadeLemmas.{ok_then, style_of_parts}
use Rattle.mini_cascade.proofs.style.compute.Goals as goal

pub returns-in_default : goal.returns-in_default
returns-in_default g c =
    let x : StyleSources = style_sources c.args.d.now (g.A.Sampling.animated_value c.args.anims.now) c.args.transitions.now (option_copied c.args.parent) in
    ok_then c.with_few.result (style_of_values initial_values (transition_lists_of c.args.d.now) (animation_lists_of c.args.d.now)) (computed_style x)
    (style_of_parts x initial_values (transition_lists_of c.args.d.now) (animation_lists_of c.args.d.now)
    (none_changed (computed_values x) (computed_count x) c.in_default.ensures.none) refl refl)
    c.with_few.ensures

pub returns-in_default-next_changed : goal.returns-in_default-next_changed
returns-in_default-next_changed g c =
    let x : StyleSources = style_sources c.args.d.now (g.A.Sampling.animated_value c.args.anims.now) c.args.transitions.now (option_copied c.args.parent) in
    let first = c.in-Some.first in
    let found = c.in-Some.ensures.found in
    ok_then c.with_few-in_default-next_changed.result
    (style_of_values (values_with initial_values (first ∷ [])) (transition_lists_of c.args.d.now) (animation_lists_of c.args.d.now)) (computed_style x)
    (style_of_parts x (values_with initial_values (first ∷ [])) (transition_lists_of c.args.d.now) (animation_lists_of c.args.d.now)
    (one_changed (computed_values x) (number_of first.0) 24 first (computed_count x) (number_small first.0) refl refl found.value found.initial
    (subst (λ (n : ℕ). AreInitial (computed_values x) (n + 1) 24) c.number.ensures.value c.in_default-next_changed.ensures.none))
    refl refl)
    c.with_few-in_default-next_changed.ensures

pub returns-then-is_none : goal.returns-then-is_none
returns-then-is_none g c =
    let x : StyleSources = style_sources c.args.d.now (g.A.Sampling.animated_value c.args.anims.now) c.args.transitions.now (option_copied c.args.parent) in
    let first = c.in-Some.first in
    let found = c.in-Some.ensures.found in
    let second = c.in-Some-next_changed.second in
    let then = c.in-Some-next_changed.ensures.found in
    ok_then c.with_few-then-is_none.result
    (style_of_values (values_with initial_values (first ∷ second ∷ [])) (transition_lists_of c.args.d.now) (animation_lists_of c.args.d.now)) (computed_style x)
    (style_of_parts x (values_with initial_values (first ∷ second ∷ [])) (transition_lists_of c.args.d.now) (animation_lists_of c.args.d.now)
    (two_changed (computed_values x) (number_of first.0) (number_of second.0) 24 first second (computed_count x)
    (subst (λ (n : ℕ). n + 1 ≤ number_of second.0) c.number.ensures.value then.after) (number_small second.0) refl
    refl found.value refl then.value found.initial
    (subst (λ (n : ℕ). AreInitial (computed_values x) (n + 1) (number_of second.0)) c.number.ensures.value then.initial)
    (subst (λ (n : ℕ). AreInitial (computed_values x) (n + 1) 24) c.number-2.ensures.value (none_then c.next_changed-3.result c.if-is_none.ensures c.next_changed-3.ensures.none)))
    refl refl)
    c.with_few-then-is_none.ensures

pub returns : goal.returns
returns g c =
    let x : StyleSources = style_sources c.args.d.now (g.A.Sampling.animated_value c.args.anims.now) c.args.transitions.now (option_copied c.args.parent) in
    ok_then c.new.result
    (style_of_values c.computed_values-values.result (unwrap_or c.in_ok-transition_lists.field-0 initial_transitions) (unwrap_or c.in_ok-animation_lists.field-0 initial_animations))
    (computed_style x)
    (style_of_parts x c.computed_values-values.result (unwrap_or c.in_ok-transition_lists.field-0 initial_transitions) (unwrap_or c.in_ok-animation_lists.field-0 initial_animations)
    c.computed_values-values.ensures.value c.in_ok-transition_lists.ensures c.in_ok-animation_lists.ensures)
    c.new.ensures
