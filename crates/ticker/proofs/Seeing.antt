-- Entries of which the first transitions, or the first animations, are seen anew.
use Rattle.std.proofs.Common.{◌≡◌, ℕ, ◌+◌, ◌<◌, sym, ◌∙◌, ap, add-one, get_or, length}
use Rattle.std.specs.Prelude.{ℤ}
use Rattle.style_data.specs.Entries.{EntryParts, animation_seen_at}
use Rattle.style_data.specs.TransitionSets.{with_seen}
use Rattle.style_data.specs.declared.animation.AnimationState.{AnimationState}
use Rattle.style_data.specs.declared.transition.Phase.{Phase}
use Rattle.style_data.specs.declared.transition.Transition.{Transition}
use Rattle.transition_start.specs.Phase.{phase_of}
use Rattle.value_types.specs.declared.property.PropertyId.{PropertyId}
use Rattle.ticker.proofs.Changes.{at_changed_first, changed_first, next_changed}
use Rattle.ticker.specs.AnimationEvents.{animation_phase, iteration_now}
use Rattle.ticker.specs.Ticks.{seen_with_property, ticked_animation, with_animations, with_running}

pub next_transition_seen : (t : ℤ) (e now : EntryParts) (i : ℕ) (d : PropertyId × Transition) (seen : Phase)
    → now ≡ with_running e (changed_first (seen_with_property t) e.effects.transitions.running i)
    → seen ≡ phase_of (get_or now.effects.transitions.running i d).1 t → i < length e.effects.transitions.running
    → record now { effects = record now.effects { transitions = with_seen now.effects.transitions i seen } }
    ≡ with_running e (changed_first (seen_with_property t) e.effects.transitions.running (i + 1))
next_transition_seen t e now i d seen so_far phase less =
    let xs = e.effects.transitions.running in
    let y = get_or xs i d in
    let same : get_or now.effects.transitions.running i d ≡ y =
    ap (λ (n : EntryParts). get_or n.effects.transitions.running i d) so_far ∙ at_changed_first (seen_with_property t) xs i d in
    ap (λ (n : EntryParts). record n { effects = record n.effects { transitions = with_seen n.effects.transitions i seen } }) so_far
    ∙ ap (with_running e)
    (next_changed (λ r. (r.0, record r.1 { seen = seen })) (seen_with_property t) xs i d
    (ap (λ s. (y.0, record y.1 { seen = s })) (phase ∙ ap (λ (z : PropertyId × Transition). phase_of z.1 t) same)) less
    ∙ ap (changed_first (seen_with_property t) xs) (sym (add-one i)))

pub next_animation_seen : (t : ℤ) (e now : EntryParts) (i : ℕ) (a : AnimationState) (seen : Phase) (iteration : ℕ)
    → now ≡ with_animations e (changed_first (ticked_animation t) e.effects.animations i)
    → a ≡ get_or now.effects.animations i a → seen ≡ animation_phase a t → iteration ≡ iteration_now a t → i < length e.effects.animations
    → record now { effects = record now.effects { animations = animation_seen_at now.effects.animations i seen iteration } }
    ≡ with_animations e (changed_first (ticked_animation t) e.effects.animations (i + 1))
next_animation_seen t e now i a seen iteration so_far at phase number less =
    let xs = e.effects.animations in
    let b = get_or xs i a in
    let same : a ≡ b = at ∙ ap (λ (n : EntryParts). get_or n.effects.animations i a) so_far ∙ at_changed_first (ticked_animation t) xs i a in
    ap (λ (n : EntryParts). record n { effects = record n.effects { animations = animation_seen_at n.effects.animations i seen iteration } }) so_far
    ∙ ap (with_animations e)
    (next_changed (λ z. record z { seen = seen; iteration = iteration }) (ticked_animation t) xs i a
    (ap (λ s. record b { seen = s; iteration = iteration }) (phase ∙ ap (λ z. animation_phase z t) same)
    ∙ ap (λ n. record b { seen = animation_phase b t; iteration = n }) (number ∙ ap (λ z. iteration_now z t) same)) less
    ∙ ap (changed_first (ticked_animation t) xs) (sym (add-one i)))
