-- A tick at which no transition ends and nothing was cancelled.
use Rattle.std.proofs.Common.{◌≡◌, refl, sym, ◌∙◌, ap}
use Rattle.std.specs.Prelude.{ℤ, int_le, nat_eq, Bool, true, false, cond, ◌||◌, List, [], ◌∷◌, find, map, None, Some, option_and_then, option_map, if◌then◌else◌}
use Rattle.std.specs.List.{list_any}
use Rattle.std.specs.Option.{option_or}
use Rattle.computed_style.specs.ByProperty.{IsBefore, kept_for}
use Rattle.style_data.specs.Entries.{EntryParts, effect_lists}
use Rattle.style_data.specs.TransitionSets.{AreTransitions, TransitionSet, completed_of, transition_set}
use Rattle.style_data.specs.declared.gone.Gone.{Gone}
use Rattle.style_data.specs.declared.transition.Transition.{Transition}
use Rattle.transition_update.specs.Updates.{by_property}
use Rattle.value_types.specs.Properties.{number_of}
use Rattle.value_types.specs.declared.property.PropertyId.{PropertyId}
use Rattle.ticker.proofs.Changes.{AllPairs-map}
use Rattle.ticker.proofs.Rebuilt.{by_property_is, kept_map}
use Rattle.ticker.specs.Ticks.{completed_after, completed_by, running_after, seen_in, seen_with_property, still_running, ticked_animation, ticked_effects, ticked_transitions, with_animations, with_running}

abbrev pub ends_by : ℤ → PropertyId × Transition → Bool
ends_by t x = int_le x.1.end.0 t

left_false : (a b : Bool) → (a || b) ≡ false → a ≡ false
left_false true b e = absurd (cc)
left_false false b e = refl

right_false : (a b : Bool) → (a || b) ≡ false → b ≡ false
right_false true b e = absurd (cc)
right_false false b e = e

-- all that run go on
go_on : (t : ℤ) (p : PropertyId) (xs : List (PropertyId × Transition)) → list_any (ends_by t) xs ≡ false
    → option_and_then (still_running t) (kept_for p xs) ≡ option_map (seen_in t) (kept_for p xs)
go_on t p [] none = refl
go_on t p (x ∷ xs) none = go (nat_eq (number_of x.0) (number_of p)) (go_on t p xs (right_false (ends_by t x) (list_any (ends_by t) xs) none)) where
  go : (b : Bool) → option_and_then (still_running t) (kept_for p xs) ≡ option_map (seen_in t) (kept_for p xs)
      → option_and_then (still_running t) (option_map (λ k. k.1) (cond b (Some x) (find (λ k. nat_eq (number_of k.0) (number_of p)) xs)))
      ≡ option_map (seen_in t) (option_map (λ k. k.1) (cond b (Some x) (find (λ k. nat_eq (number_of k.0) (number_of p)) xs)))
  go true rest = ap (λ b. if b then None else Some (seen_in t x.1)) (left_false (ends_by t x) (list_any (ends_by t) xs) none)
  go false rest = rest

-- none completes
none_completes : (t : ℤ) (p : PropertyId) (xs : List (PropertyId × Transition)) → list_any (ends_by t) xs ≡ false
    → option_and_then (completed_by t) (kept_for p xs) ≡ None
none_completes t p [] none = refl
none_completes t p (x ∷ xs) none = go (nat_eq (number_of x.0) (number_of p)) (none_completes t p xs (right_false (ends_by t x) (list_any (ends_by t) xs) none)) where
  go : (b : Bool) → option_and_then (completed_by t) (kept_for p xs) ≡ None
      → option_and_then (completed_by t) (option_map (λ k. k.1) (cond b (Some x) (find (λ k. nat_eq (number_of k.0) (number_of p)) xs))) ≡ None
  go true rest = ap (λ b. if b then Some (record { to = x.1.to }) else None) (left_false (ends_by t x) (list_any (ends_by t) xs) none)
  go false rest = rest

pub transitions_in_place : (t : ℤ) (ts : TransitionSet) → AreTransitions ts → list_any (ends_by t) ts.running ≡ false
    → ticked_transitions t ts ≡ transition_set (map (seen_with_property t) ts.running) ts.completed
transitions_in_place t ts are none =
    ap (λ l. transition_set l (by_property (completed_after t ts)))
    (by_property_is (running_after t ts) (map (seen_with_property t) ts.running)
    (AllPairs-map (seen_with_property t) IsBefore (λ x y less. less) ts.running are.running_ascend)
    (λ p. go_on t p ts.running none ∙ sym (kept_map (seen_in t) p ts.running)))
    ∙ ap (λ l. transition_set (map (seen_with_property t) ts.running) l)
    (by_property_is (completed_after t ts) ts.completed are.completed_ascend
    (λ p. ap (λ o. option_or o (completed_of ts p)) (none_completes t p ts.running none)))

pub entry_in_place : (t : ℤ) (e one two : EntryParts) → AreTransitions e.effects.transitions → e.effects.gone ≡ [] → list_any (ends_by t) e.effects.transitions.running ≡ false
    → one ≡ with_running e (map (seen_with_property t) e.effects.transitions.running)
    → two ≡ with_animations one (map (ticked_animation t) one.effects.animations)
    → two ≡ record e { effects = ticked_effects t e.effects }
entry_in_place t e one two are nothing none one_is two_is =
    two_is ∙ ap (λ (n : EntryParts). with_animations n (map (ticked_animation t) n.effects.animations)) one_is
    ∙ ap (λ (ts : TransitionSet). record e { effects = effect_lists ts (map (ticked_animation t) e.effects.animations) e.effects.gone })
    (sym (transitions_in_place t e.effects.transitions are none))
    ∙ ap (λ (gone : List Gone). record e { effects = effect_lists (ticked_transitions t e.effects.transitions) (map (ticked_animation t) e.effects.animations) gone }) nothing
