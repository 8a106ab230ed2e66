-- How often a standing is the origin of an effect.
use Rattle.std.proofs.Common.{◌≡◌, ◌≢◌, ◌∙◌, ap, sym, refl, arith, ℕ, ◌+◌, ◌≤◌, List, [], ◌∷◌, ◌++◌, map, Bool, true, false, cond, Option, None, Some}
use Rattle.std.specs.Prelude.{find, nat_eq, option_map}
use Rattle.std.specs.List.{filter_map, flat_map}
use Rattle.std.proofs.lemmas.Bool.{eqb-true}
use Rattle.computed_style.specs.ByProperty.{kept_for}
use Rattle.style_data.specs.Entries.{EffectLists, EntryParts}
use Rattle.style_data.specs.declared.animation.AnimationState.{AnimationState}
use Rattle.style_data.specs.declared.gone.Gone.{Gone}
use Rattle.style_data.specs.declared.transition.Transition.{Transition}
use Rattle.ticker.specs.Events.{standing}
use Rattle.ticker.specs.declared.event.Standing.{Standing}
use Rattle.value_types.proofs.PropertyLemmas.{counts_up}
use Rattle.value_types.specs.Properties.{all_properties, number_of}
use Rattle.value_types.specs.declared.property.PropertyId.{PropertyId}
use Rattle.restyle.specs.Distinct.{all_origins, origin_of_animation, origin_of_gone, origin_of_transition, origins_of}
use Rattle.restyle.proofs.OriginCounts.{CountUp, count_of, given, is_one, none_of_other, total, total-append, total-filter_map, total-flat_map, total-map, total-one, total-same}

-- 1 where it is the origin of this transition, this animation, this cancelled item
abbrev pub transition_count : Standing → PropertyId × Transition → ℕ
transition_count s x = is_one s (origin_of_transition x)

abbrev pub animation_count : Standing → AnimationState → ℕ
animation_count s a = is_one s (origin_of_animation a)

abbrev pub gone_count : Standing → Gone → ℕ
gone_count s g = is_one s (origin_of_gone g)

-- how often it is one of an element's effects
abbrev pub effect_count : Standing → EffectLists → ℕ
effect_count s e = total (transition_count s) e.transitions.running + total (animation_count s) e.animations + total (gone_count s) e.gone

-- of these entries, and of what departed
abbrev pub entry_count : Standing → List (ℕ × EntryParts) → ℕ
entry_count s entries = total (λ e. effect_count s e.1.effects) entries

abbrev pub departed_count : Standing → List (ℕ × Gone) → ℕ
departed_count s departed = total (λ d. gone_count s d.1) departed

pub effects_counted : (s : Standing) (e : EffectLists) → count_of s (origins_of e) ≡ effect_count s e
effects_counted s e =
    total-append (is_one s) (map origin_of_transition e.transitions.running ++ map origin_of_animation e.animations) (map origin_of_gone e.gone)
    ∙ ap (λ n. n + count_of s (map origin_of_gone e.gone)) (total-append (is_one s) (map origin_of_transition e.transitions.running) (map origin_of_animation e.animations))
    ∙ ap (λ n. n + count_of s (map origin_of_animation e.animations) + count_of s (map origin_of_gone e.gone)) (total-map (is_one s) origin_of_transition e.transitions.running)
    ∙ ap (λ n. total (transition_count s) e.transitions.running + n + count_of s (map origin_of_gone e.gone)) (total-map (is_one s) origin_of_animation e.animations)
    ∙ ap (λ n. total (transition_count s) e.transitions.running + total (animation_count s) e.animations + n) (total-map (is_one s) origin_of_gone e.gone)

pub all_counted : (s : Standing) (entries : List (ℕ × EntryParts)) (departed : List (ℕ × Gone))
    → count_of s (all_origins entries departed) ≡ entry_count s entries + departed_count s departed
all_counted s entries departed =
    total-append (is_one s) (flat_map (λ e. origins_of e.1.effects) entries) (map (λ d. origin_of_gone d.1) departed)
    ∙ ap (λ n. n + count_of s (map (λ d. origin_of_gone d.1) departed)) (total-flat_map (is_one s) (λ (e : ℕ × EntryParts). origins_of e.1.effects) entries
    ∙ total-same (λ (e : ℕ × EntryParts). count_of s (origins_of e.1.effects)) (λ e. effect_count s e.1.effects) entries (λ e. effects_counted s e.1.effects))
    ∙ ap (λ n. entry_count s entries + n) (total-map (is_one s) (λ (d : ℕ × Gone). origin_of_gone d.1) departed)

-- ---- property by property

-- 1 where it is the origin of this transition of the property
abbrev pub count_for : Standing → PropertyId → Option Transition → ℕ
count_for s p o = given (λ r. transition_count s (p, r)) o

-- what these properties have
abbrev pub of_these : {A : Type 0} → (PropertyId → Option A) → List PropertyId → List (PropertyId × A)
of_these has ps = filter_map (λ p. option_map (λ a. (p, a)) (has p)) ps

given_with_property : (s : Standing) (p : PropertyId) (o : Option Transition) → given (transition_count s) (option_map (λ r. (p, r)) o) ≡ count_for s p o
given_with_property s p None = refl
given_with_property s p (Some r) = refl

pub counted_by_property : (s : Standing) (has : PropertyId → Option Transition) (ps : List PropertyId)
    → total (transition_count s) (of_these has ps) ≡ total (λ p. count_for s p (has p)) ps
counted_by_property s has ps =
    total-filter_map (transition_count s) (λ p. option_map (λ r. (p, r)) (has p)) ps
    ∙ total-same (λ p. given (transition_count s) (option_map (λ r. (p, r)) (has p))) (λ p. count_for s p (has p)) ps (λ p. given_with_property s p (has p))

-- a transition of another property has another origin
pub other_property : (s : Standing) (p : PropertyId) (o : Option Transition) → number_of p ≢ s.third → count_for s p o ≡ 0
other_property s p None differ = refl
other_property s p (Some r) differ = none_of_other s (origin_of_transition (p, r)) (λ (same : s ≡ origin_of_transition (p, r)). differ (sym (ap (λ (o : Standing). o.third) same)))

-- what the list has for a property is in it
kept_at_most : (s : Standing) (p : PropertyId) (running : List (PropertyId × Transition)) → count_for s p (kept_for p running) ≤ total (transition_count s) running
unfolding total
kept_at_most s p [] = omega arith
kept_at_most s p (x ∷ running) = go (nat_eq (number_of x.0) (number_of p)) refl (kept_at_most s p running)
  where
    go : (b : Bool) → nat_eq (number_of x.0) (number_of p) ≡ b → count_for s p (kept_for p running) ≤ total (transition_count s) running
        → count_for s p (option_map (λ (k : PropertyId × Transition). k.1) (cond b (Some x) (find (λ (k : PropertyId × Transition). nat_eq (number_of k.0) (number_of p)) running)))
        ≤ transition_count s x + total (transition_count s) running
    go true same rest = omega (arith, ap (λ n. is_one s (standing 1 x.1.generation x.1.position n)) (eqb-true (number_of x.0) (number_of p) same))
    go false other rest = omega (arith, rest)

-- of properties whose numbers count up from 0
pub kept_no_more : (s : Standing) (running : List (PropertyId × Transition)) (ps : List PropertyId) → CountUp number_of 0 ps
    → total (λ p. count_for s p (kept_for p running)) ps ≤ total (transition_count s) running
kept_no_more s running ps up =
    total-one number_of (λ p. count_for s p (kept_for p running)) s.third (total (transition_count s) running) 0 ps up
    (λ p differ. other_property s p (kept_for p running) differ) (λ p. kept_at_most s p running)

pub properties_count_up : CountUp number_of 0 all_properties
properties_count_up = counts_up
