-- What the events of a frame tell of a transition: what its element's running transition of the property tells, and what its cancelled items do.
use Rattle.std.proofs.Common.{◌≡◌, ℕ, refl, ap, ◌∙◌, inl, inr, subst, Bool, true, false, Option, Some, None, List, [], ◌∷◌, ◌++◌, append-nil, filter, map, cond}
use Rattle.std.specs.Prelude.{ℤ, nat_eq, ◌&&◌, not, option_map, unwrap_or, if◌then◌else◌}
use Rattle.std.specs.List.{flat_map}
use Rattle.std.specs.Option.{option_to_list}
use Rattle.std.proofs.lemmas.Bool.{and_parts, cases_Bool, eq-eqb, eqb-true, false≢true, or_parts}
use Rattle.std.proofs.lemmas.List.{map-append}
use Rattle.std.proofs.lemmas.List.Elements.{filter-append}
use Rattle.computed_style.specs.ByProperty.{kept_for}
use Rattle.doc_tree.specs.Element.{Document}
use Rattle.pass_core.specs.Passes.{value_for}
use Rattle.style_data.specs.Entries.{EffectLists, EntryParts, fresh_entry}
use Rattle.style_data.specs.declared.animation.AnimationState.{AnimationState}
use Rattle.style_data.specs.declared.event.Event.{Event}
use Rattle.style_data.specs.declared.gone.Gone.{Gone}
use Rattle.style_data.specs.declared.gone.Subject.{Subject}
use Rattle.style_data.specs.declared.gone.Subject.TheVariants.{Property, Animation}
use Rattle.style_data.specs.declared.transition.Transition.{Transition}
use Rattle.ticker.specs.AnimationEvents.{animation_occurrences, animation_phase}
use Rattle.ticker.specs.Events.{animation_standing, cancel_occurrences, cancelled_standing, told_event, transition_standing}
use Rattle.ticker.specs.Ticks.{animation_events, cancel_events, effect_events, entry_events, position_in_tree, tick_events, transition_events}
use Rattle.ticker.specs.TransitionEvents.{transition_occurrences}
use Rattle.ticker.specs.declared.event.Standing.{Standing}
use Rattle.transition_start.specs.Phase.{phase_of}
use Rattle.value_types.specs.declared.property.PropertyId.{PropertyId}
use Rattle.restyle.specs.Entries.{are_apart, is_among}
use Rattle.restyle.specs.StyleChanges.{entry_for}
use Rattle.run_laws.specs.Occurrences.{Occurrence}
use Rattle.run_laws.specs.TransitionNames.{TransitionName, generation_in, is_event_of, is_of_property, occurrence_told, told_of}
use Rattle.run_laws.proofs.Filtered.{IsOnce, flat_without, is_for, none_flat, none_mapped, all_mapped, same_number}

-- ---- numbers that are apart

-- the items of a number, where numbers are apart
pub only_number : {X : Type 0} (n : ℕ) (xs : List (ℕ × X)) → are_apart (map (λ x. x.0) xs) ≡ true
    → filter (λ x. nat_eq x.0 n) xs ≡ option_to_list (option_map (λ a. (n, a)) (value_for xs n))
only_number n [] apart = refl
only_number {X} n (x ∷ xs) apart =
    let parts = and_parts (not (is_among x.0 (map (λ y. y.0) xs))) (are_apart (map (λ y. y.0) xs)) apart in
    elim (cases_Bool (nat_eq x.0 n)) [
      | inl same ↦
          rw same (ap (λ ys. x ∷ ys) (none_there xs (subst (λ m. is_among m (map (λ (y : ℕ × X). y.0) xs) ≡ false) (eqb-true x.0 n same) (not_true parts.0)))
          ∙ ap (λ m. (m, x.1) ∷ []) (eqb-true x.0 n same))
      | inr differ ↦ rw differ (only_number n xs parts.1)
    ]
  where
    not_true : {b : Bool} → not b ≡ true → b ≡ false
    not_true {b = true} h = absurd (false≢true h)
    not_true {b = false} h = refl

    none_there : (ys : List (ℕ × X)) → is_among n (map (λ y. y.0) ys) ≡ false → filter (λ y. nat_eq y.0 n) ys ≡ []
    none_there [] away = refl
    none_there (y ∷ ys) away =
        let parts = or_parts (nat_eq y.0 n) (is_among n (map (λ (z : ℕ × X). z.0) ys)) away in
        rw parts.0 (none_there ys parts.1)

module _ (x : TransitionName) where
  -- the cancelled item is of this transition
  abbrev pub is_gone_of : Gone → Bool
  is_gone_of g = is_of_property x.property g.subject && nat_eq g.generation x.generation

  -- what a tick tells of the running transition of the property
  abbrev pub told_running : ℤ → Option Transition → List Occurrence
  told_running t None = []
  told_running t (Some r) = if nat_eq r.generation x.generation then transition_occurrences r r.seen (phase_of r t) else []

  -- what cancelled items tell
  abbrev pub told_gone : List Gone → List Occurrence
  told_gone gone = flat_map cancel_occurrences gone

  -- what departed of this transition
  abbrev pub departed_items : List (ℕ × Gone) → List Gone
  departed_items departed = filter is_gone_of (map (λ d. d.1) (filter (λ d. nat_eq d.0 x.element) departed))

  -- ---- single events

  other_element : (n : ℕ) (s : Subject) (at : Standing) (o : Occurrence) → nat_eq n x.element ≡ false → is_event_of x (told_event n s at o) ≡ false
  unfolding is_event_of
  other_element n s at o differ =
      ap (λ b. b && (is_of_property x.property s && nat_eq (generation_in at.class at.first at.second) x.generation)) differ

  own_event : (s : Subject) (at : Standing) (o : Occurrence)
      → is_event_of x (told_event x.element s at o) ≡ (is_of_property x.property s && nat_eq (generation_in at.class at.first at.second) x.generation)
  unfolding is_event_of
  own_event s at o =
      ap (λ b. b && (is_of_property x.property s && nat_eq (generation_in at.class at.first at.second) x.generation)) (eq-eqb x.element x.element refl)

  -- ---- those of another element

  others_cancel : (n : ℕ) (g : Gone) → nat_eq n x.element ≡ false → filter (is_event_of x) (cancel_events n g) ≡ []
  others_cancel n g differ =
      none_mapped (is_event_of x) (told_event n g.subject (cancelled_standing g.subject g)) (cancel_occurrences g)
      (λ o. other_element n g.subject (cancelled_standing g.subject g) o differ)

  others_effects : (n position : ℕ) (t : ℤ) (e : EffectLists) → nat_eq n x.element ≡ false → filter (is_event_of x) (effect_events n position t e) ≡ []
  others_effects n position t e differ =
      filter-append (is_event_of x) (flat_map (transition_events n position t) e.transitions.running ++ flat_map (animation_events n position t) e.animations)
      (flat_map (cancel_events n) e.gone)
      ∙ ap (λ es. es ++ filter (is_event_of x) (flat_map (cancel_events n) e.gone))
      (filter-append (is_event_of x) (flat_map (transition_events n position t) e.transitions.running) (flat_map (animation_events n position t) e.animations)
      ∙ ap (λ es. es ++ filter (is_event_of x) (flat_map (animation_events n position t) e.animations))
      (none_flat (is_event_of x) (transition_events n position t) e.transitions.running (λ r.
      none_mapped (is_event_of x) (told_event n (Property r.0) (transition_standing position r.0 r.1)) (transition_occurrences r.1 r.1.seen (phase_of r.1 t))
      (λ o. other_element n (Property r.0) (transition_standing position r.0 r.1) o differ)))
      ∙ none_flat (is_event_of x) (animation_events n position t) e.animations (λ a.
      none_mapped (is_event_of x) (told_event n (Animation a.name) (animation_standing position a)) (animation_occurrences a t a.seen (animation_phase a t))
      (λ o. other_element n (Animation a.name) (animation_standing position a) o differ)))
      ∙ none_flat (is_event_of x) (cancel_events n) e.gone (λ g. others_cancel n g differ)

  -- ---- those of the element

  own_cancel : (g : Gone) (s : Subject) (o : Occurrence)
      → is_event_of x (told_event x.element s (cancelled_standing s g) o) ≡ (is_of_property x.property s && nat_eq g.generation x.generation)
  own_cancel g (Property p) o = own_event (Property p) (cancelled_standing (Property p) g) o
  own_cancel g (Animation name) o = own_event (Animation name) (cancelled_standing (Animation name) g) o

  own_cancels : (g : Gone) (b : Bool) → is_gone_of g ≡ b → filter (is_event_of x) (cancel_events x.element g) ≡ (if b then cancel_events x.element g else [])
  own_cancels g true is =
      all_mapped (is_event_of x) (told_event x.element g.subject (cancelled_standing g.subject g)) (cancel_occurrences g) (λ o. own_cancel g g.subject o ∙ is)
  own_cancels g false is =
      none_mapped (is_event_of x) (told_event x.element g.subject (cancelled_standing g.subject g)) (cancel_occurrences g) (λ o. own_cancel g g.subject o ∙ is)

  -- the events of cancelled items
  abbrev pub gone_events : List Gone → List Event
  gone_events gone = flat_map (cancel_events x.element) gone

  own_gone : (gone : List Gone) → filter (is_event_of x) (gone_events gone) ≡ gone_events (filter is_gone_of gone)
  own_gone [] = refl
  own_gone (g ∷ gone) =
      filter-append (is_event_of x) (cancel_events x.element g) (gone_events gone)
      ∙ ap (λ es. filter (is_event_of x) (cancel_events x.element g) ++ es) (own_gone gone)
      ∙ go (is_gone_of g) refl
    where
      go : (b : Bool) → is_gone_of g ≡ b
          → filter (is_event_of x) (cancel_events x.element g) ++ gone_events (filter is_gone_of gone) ≡ gone_events (filter is_gone_of (g ∷ gone))
      go true is = rw is (ap (λ es. es ++ gone_events (filter is_gone_of gone)) (own_cancels g true is))
      go false is = rw is (ap (λ es. es ++ gone_events (filter is_gone_of gone)) (own_cancels g false is))

  own_running : (position : ℕ) (r : Transition) (o : Occurrence)
      → is_event_of x (told_event x.element (Property x.property) (transition_standing position x.property r) o) ≡ nat_eq r.generation x.generation
  own_running position r o =
      own_event (Property x.property) (transition_standing position x.property r) o ∙ ap (λ b. b && nat_eq r.generation x.generation) (same_number x.property)

  other_running : (position : ℕ) (y : PropertyId × Transition) (o : Occurrence) → is_for x.property y ≡ false
      → is_event_of x (told_event x.element (Property y.0) (transition_standing position y.0 y.1) o) ≡ false
  other_running position y o differ =
      own_event (Property y.0) (transition_standing position y.0 y.1) o ∙ ap (λ b. b && nat_eq y.1.generation x.generation) differ

  own_transition : (position : ℕ) (t : ℤ) (r : Transition) (b : Bool) → nat_eq r.generation x.generation ≡ b
      → filter (is_event_of x) (transition_events x.element position t (x.property, r)) ≡ (if b then transition_events x.element position t (x.property, r) else [])
  own_transition position t r true is =
      all_mapped (is_event_of x) (told_event x.element (Property x.property) (transition_standing position x.property r))
      (transition_occurrences r r.seen (phase_of r t)) (λ o. own_running position r o ∙ is)
  own_transition position t r false is =
      none_mapped (is_event_of x) (told_event x.element (Property x.property) (transition_standing position x.property r))
      (transition_occurrences r r.seen (phase_of r t)) (λ o. own_running position r o ∙ is)

  -- the events of the running transition of the property, of an element at this position
  abbrev pub running_events : ℕ → ℤ → Option Transition → List Event
  running_events position t None = []
  running_events position t (Some r) = if nat_eq r.generation x.generation then transition_events x.element position t (x.property, r) else []

  all_running : (position : ℕ) (t : ℤ) (running : List (PropertyId × Transition)) → IsOnce x.property running
      → filter (is_event_of x) (flat_map (transition_events x.element position t) running) ≡ running_events position t (kept_for x.property running)
  all_running position t running once =
      flat_without (is_event_of x) (transition_events x.element position t) (is_for x.property) running (λ y differ.
      none_mapped (is_event_of x) (told_event x.element (Property y.0) (transition_standing position y.0 y.1)) (transition_occurrences y.1 y.1.seen (phase_of y.1 t))
      (λ o. other_running position y o differ))
      ∙ ap (λ ys. filter (is_event_of x) (flat_map (transition_events x.element position t) ys)) once
      ∙ kept (kept_for x.property running)
    where
      kept : (o : Option Transition)
          → filter (is_event_of x) (flat_map (transition_events x.element position t) (option_to_list (option_map (λ r. (x.property, r)) o))) ≡ running_events position t o
      kept None = refl
      kept (Some r) =
          ap (filter (is_event_of x)) (append-nil (transition_events x.element position t (x.property, r)))
          ∙ own_transition position t r (nat_eq r.generation x.generation) refl

  no_animation : (position : ℕ) (t : ℤ) (animations : List AnimationState) → filter (is_event_of x) (flat_map (animation_events x.element position t) animations) ≡ []
  no_animation position t animations =
      none_flat (is_event_of x) (animation_events x.element position t) animations (λ a.
      none_mapped (is_event_of x) (told_event x.element (Animation a.name) (animation_standing position a)) (animation_occurrences a t a.seen (animation_phase a t))
      (λ o. own_event (Animation a.name) (animation_standing position a) o))

  own_effects : (position : ℕ) (t : ℤ) (e : EffectLists) → IsOnce x.property e.transitions.running
      → filter (is_event_of x) (effect_events x.element position t e)
      ≡ running_events position t (kept_for x.property e.transitions.running) ++ gone_events (filter is_gone_of e.gone)
  own_effects position t e once =
      filter-append (is_event_of x) (flat_map (transition_events x.element position t) e.transitions.running ++ flat_map (animation_events x.element position t) e.animations)
      (gone_events e.gone)
      ∙ ap (λ es. es ++ filter (is_event_of x) (gone_events e.gone))
      (filter-append (is_event_of x) (flat_map (transition_events x.element position t) e.transitions.running) (flat_map (animation_events x.element position t) e.animations)
      ∙ ap (λ es. filter (is_event_of x) (flat_map (transition_events x.element position t) e.transitions.running) ++ es) (no_animation position t e.animations)
      ∙ append-nil (filter (is_event_of x) (flat_map (transition_events x.element position t) e.transitions.running))
      ∙ all_running position t e.transitions.running once)
      ∙ ap (λ es. running_events position t (kept_for x.property e.transitions.running) ++ es) (own_gone e.gone)

  -- ---- those of a tick

  -- those of an entry
  abbrev pub own_events : ℕ → ℤ → EntryParts → List Event
  own_events position t e = running_events position t (kept_for x.property e.effects.transitions.running) ++ gone_events (filter is_gone_of e.effects.gone)

  of_entries : (d : Document) (t : ℤ) (entries : List (ℕ × EntryParts)) → are_apart (map (λ e. e.0) entries) ≡ true
      → IsOnce x.property (entry_for entries x.element).effects.transitions.running
      → filter (is_event_of x) (flat_map (entry_events d t) entries) ≡ own_events (position_in_tree d x.element) t (entry_for entries x.element)
  of_entries d t entries apart once =
      flat_without (is_event_of x) (entry_events d t) (λ e. nat_eq e.0 x.element) entries
      (λ e differ. others_effects e.0 (position_in_tree d e.0) t e.1.effects differ)
      ∙ ap (λ es. filter (is_event_of x) (flat_map (entry_events d t) es)) (only_number x.element entries apart)
      ∙ by_value (value_for entries x.element) once
    where
      by_value : (o : Option EntryParts) → IsOnce x.property (unwrap_or o fresh_entry).effects.transitions.running
          → filter (is_event_of x) (flat_map (entry_events d t) (option_to_list (option_map (λ e. (x.element, e)) o)))
          ≡ own_events (position_in_tree d x.element) t (unwrap_or o fresh_entry)
      by_value None once = refl
      by_value (Some e) once =
          ap (filter (is_event_of x)) (append-nil (effect_events x.element (position_in_tree d x.element) t e.effects))
          ∙ own_effects (position_in_tree d x.element) t e.effects once

  of_departed : (departed : List (ℕ × Gone)) → filter (is_event_of x) (flat_map (λ d. cancel_events d.0 d.1) departed) ≡ gone_events (departed_items departed)
  of_departed [] = refl
  of_departed (d ∷ departed) =
      filter-append (is_event_of x) (cancel_events d.0 d.1) (flat_map (λ d. cancel_events d.0 d.1) departed)
      ∙ ap (λ es. filter (is_event_of x) (cancel_events d.0 d.1) ++ es) (of_departed departed)
      ∙ elim (cases_Bool (nat_eq d.0 x.element)) [
        | inl same ↦
            rw same (ap (λ n. filter (is_event_of x) (cancel_events n d.1) ++ gone_events (departed_items departed)) (eqb-true d.0 x.element same) ∙ here (is_gone_of d.1) refl)
        | inr differ ↦ rw differ (ap (λ es. es ++ gone_events (departed_items departed)) (others_cancel d.0 d.1 differ))
      ]
    where
      here : (b : Bool) → is_gone_of d.1 ≡ b
          → filter (is_event_of x) (cancel_events x.element d.1) ++ gone_events (departed_items departed)
          ≡ gone_events (cond b (d.1 ∷ departed_items departed) (departed_items departed))
      here true is = ap (λ es. es ++ gone_events (departed_items departed)) (own_cancels d.1 true is)
      here false is = ap (λ es. es ++ gone_events (departed_items departed)) (own_cancels d.1 false is)

  pub of_tick : (d : Document) (t : ℤ) (entries : List (ℕ × EntryParts)) (departed : List (ℕ × Gone)) → are_apart (map (λ e. e.0) entries) ≡ true
      → IsOnce x.property (entry_for entries x.element).effects.transitions.running
      → filter (is_event_of x) (tick_events d t entries departed)
      ≡ own_events (position_in_tree d x.element) t (entry_for entries x.element) ++ gone_events (departed_items departed)
  of_tick d t entries departed apart once =
      filter-append (is_event_of x) (flat_map (entry_events d t) entries) (flat_map (λ d. cancel_events d.0 d.1) departed)
      ∙ ap (λ es. es ++ filter (is_event_of x) (flat_map (λ d. cancel_events d.0 d.1) departed)) (of_entries d t entries apart once)
      ∙ ap (λ es. own_events (position_in_tree d x.element) t (entry_for entries x.element) ++ es) (of_departed departed)

  -- ---- what they tell

  told_again : (n : ℕ) (s : Subject) (at : Standing) (os : List Occurrence) → map occurrence_told (map (told_event n s at) os) ≡ os
  told_again n s at [] = refl
  told_again n s at (o ∷ os) = ap (λ ps. o ∷ ps) (told_again n s at os)

  running_tells : (position : ℕ) (t : ℤ) (o : Option Transition) → map occurrence_told (running_events position t o) ≡ told_running t o
  running_tells position t None = refl
  running_tells position t (Some r) = go (nat_eq r.generation x.generation)
    where
      go : (b : Bool)
          → map occurrence_told (if b then transition_events x.element position t (x.property, r) else []) ≡ (if b then transition_occurrences r r.seen (phase_of r t) else [])
      go true = told_again x.element (Property x.property) (transition_standing position x.property r) (transition_occurrences r r.seen (phase_of r t))
      go false = refl

  gone_tell : (gone : List Gone) → map occurrence_told (gone_events gone) ≡ told_gone gone
  gone_tell [] = refl
  gone_tell (g ∷ gone) =
      map-append occurrence_told (cancel_events x.element g) (gone_events gone)
      ∙ ap (λ os. os ++ map occurrence_told (gone_events gone)) (told_again x.element g.subject (cancelled_standing g.subject g) (cancel_occurrences g))
      ∙ ap (λ os. cancel_occurrences g ++ os) (gone_tell gone)

  -- what an entry tells
  abbrev pub told_by_entry : ℤ → EntryParts → List Occurrence
  told_by_entry t e = told_running t (kept_for x.property e.effects.transitions.running) ++ told_gone (filter is_gone_of e.effects.gone)

  entry_tells : (position : ℕ) (t : ℤ) (e : EntryParts) → map occurrence_told (own_events position t e) ≡ told_by_entry t e
  entry_tells position t e =
      map-append occurrence_told (running_events position t (kept_for x.property e.effects.transitions.running)) (gone_events (filter is_gone_of e.effects.gone))
      ∙ ap (λ os. os ++ map occurrence_told (gone_events (filter is_gone_of e.effects.gone))) (running_tells position t (kept_for x.property e.effects.transitions.running))
      ∙ ap (λ os. told_running t (kept_for x.property e.effects.transitions.running) ++ os) (gone_tell (filter is_gone_of e.effects.gone))

  pub tick_told : (d : Document) (t : ℤ) (entries : List (ℕ × EntryParts)) (departed : List (ℕ × Gone)) → are_apart (map (λ e. e.0) entries) ≡ true
      → IsOnce x.property (entry_for entries x.element).effects.transitions.running
      → told_of x (tick_events d t entries departed) ≡ told_by_entry t (entry_for entries x.element) ++ told_gone (departed_items departed)
  tick_told d t entries departed apart once =
      let e = entry_for entries x.element in
      let position = position_in_tree d x.element in
      ap (map occurrence_told) (of_tick d t entries departed apart once)
      ∙ map-append occurrence_told (own_events position t e) (gone_events (departed_items departed))
      ∙ ap (λ os. os ++ map occurrence_told (gone_events (departed_items departed))) (entry_tells position t e)
      ∙ ap (λ os. told_by_entry t e ++ os) (gone_tell (departed_items departed))
