-- A tick after a tick at the same time.
use Rattle.std.proofs.Common.{◌≡◌, ◌∙◌, ℕ, refl, ap, arith, map, rules}
use Rattle.std.specs.Prelude.{ℤ, int_le, nat_eq, Bool, true, false, List, [], ◌∷◌, ◌++◌, Option, None, Some, option_and_then, option_map, if◌then◌else◌}
use Rattle.std.specs.List.{cons_option, filter_map, flat_map}
use Rattle.std.specs.Option.{option_map_or}
use Rattle.anim_timing.specs.Progresses.{progress_at}
use Rattle.anim_timing.specs.declared.progress.Progress.{Progress}
use Rattle.style_data.specs.Entries.{EffectLists}
use Rattle.style_data.specs.TransitionSets.{TransitionSet, running_of}
use Rattle.style_data.specs.declared.animation.AnimationState.{AnimationState}
use Rattle.style_data.specs.declared.gone.Subject.TheVariants.{Property, Animation}
use Rattle.style_data.specs.declared.transition.Phase.{Phase}
use Rattle.style_data.specs.declared.transition.Phase.TheVariants.{Idle, Before, Active, After}
use Rattle.style_data.specs.declared.transition.Transition.{Transition}
use Rattle.transition_start.specs.Phase.{phase_of}
use Rattle.value_types.specs.Properties.{all_properties}
use Rattle.value_types.specs.declared.property.PropertyId.{PropertyId}
use Rattle.ticker.specs.AnimationEvents.{animation_occurrences, animation_phase, animationiteration, iteration_now}
use Rattle.ticker.specs.Events.{animation_standing, told_event, transition_standing}
use Rattle.ticker.specs.Ticks.{animation_events, effect_events, running_after, seen_in, ticked_animation, ticked_effects, transition_events}
use Rattle.ticker.specs.TransitionEvents.{transition_occurrences}

same_phase : (r : Transition) (x : Phase) → transition_occurrences r x x ≡ []
same_phase r Idle = refl
same_phase r Before = refl
same_phase r Active = refl
same_phase r After = refl

seen_transition : (element position : ℕ) (t : ℤ) (p : PropertyId) (r : Transition) → transition_events element position t (p, seen_in t r) ≡ []
seen_transition element position t p r =
    ap (map (told_event element (Property p) (transition_standing position p (seen_in t r)))) (same_phase (seen_in t r) (phase_of r t))

seen_transitions : (element position : ℕ) (t : ℤ) (ts : TransitionSet) (ps : List PropertyId)
    → flat_map (transition_events element position t) (filter_map (λ p. option_map (λ r. (p, r)) (running_after t ts p)) ps) ≡ []
seen_transitions element position t ts [] = refl
seen_transitions element position t ts (p ∷ ps) = go (running_of ts p) (seen_transitions element position t ts ps) where
  later : List (PropertyId × Transition)
  later = filter_map (λ q. option_map (λ r. (q, r)) (running_after t ts q)) ps

  over : (r : Transition) (b : Bool) → flat_map (transition_events element position t) later ≡ []
      → flat_map (transition_events element position t) (cons_option (option_map (λ a. (p, a)) (if b then None else Some (seen_in t r))) later) ≡ []
  over r true rest = rest
  over r false rest = ap (λ l. l ++ flat_map (transition_events element position t) later) (seen_transition element position t p r) ∙ rest

  go : (o : Option Transition) → flat_map (transition_events element position t) later ≡ []
      → flat_map (transition_events element position t) (cons_option (option_map (λ a. (p, a)) (option_and_then (λ r. if int_le r.end.0 t then None else Some (seen_in t r)) o)) later) ≡ []
  go None rest = rest
  go (Some r) rest = over r (int_le r.end.0 t) rest

equal : (n : ℕ) → nat_eq n n ≡ true
equal n = grind (arith, rules)

seen_again : (o : Option Progress) (n : ℕ) → option_map_or (λ p. p.iteration) o (option_map_or (λ p. p.iteration) o n) ≡ option_map_or (λ p. p.iteration) o n
seen_again None n = refl
seen_again (Some p) n = refl

still : (a : AnimationState) (t : ℤ) (x : Phase) → iteration_now a t ≡ a.iteration → animation_occurrences a t x x ≡ []
still a t Idle same = refl
still a t Before same = refl
still a t Active same = ap (λ n. if nat_eq n a.iteration then [] else animationiteration a t n ∷ []) same ∙ ap (λ b. if b then [] else animationiteration a t a.iteration ∷ []) (equal a.iteration)
still a t After same = refl

seen_animations : (element position : ℕ) (t : ℤ) (xs : List AnimationState) → flat_map (animation_events element position t) (map (ticked_animation t) xs) ≡ []
seen_animations element position t [] = refl
seen_animations element position t (a ∷ xs) =
    ap (λ l. map (told_event element (Animation a.name) (animation_standing position (ticked_animation t a))) l ++ flat_map (animation_events element position t) (map (ticked_animation t) xs))
    (still (ticked_animation t a) t (animation_phase a t) (seen_again (progress_at a t) a.iteration))
    ∙ seen_animations element position t xs

pub tells_nothing : (element position : ℕ) (t : ℤ) (e : EffectLists) → effect_events element position t (ticked_effects t e) ≡ []
tells_nothing element position t e =
    ap (λ l. (l ++ flat_map (animation_events element position t) (map (ticked_animation t) e.animations)) ++ []) (seen_transitions element position t e.transitions all_properties)
    ∙ ap (λ l. l ++ []) (seen_animations element position t e.animations)
