-- Transitions that a style change event leaves as they are.
use Rattle.std.proofs.Common.{◌≡◌, ℕ, ◌+◌, ◌<◌, ◌≤◌, zero, suc, refl, sym, ◌∙◌, ap, arith, inl, inr, get_or}
use Rattle.std.specs.Prelude.{◌⊎◌, true, cond, nat_eq, List, [], ◌∷◌, length, All, AllPairs, Option, None, Some, IfSome, IsNone, IsSome, option_map, find, is_some}
use Rattle.std.specs.List.{cons_option, list_all}
use Rattle.std.proofs.lemmas.Bool.{and_parts, cases_eq}
use Rattle.std.proofs.lemmas.List.Elements.{All-head, All-tail}
use Rattle.std.proofs.lemmas.List.Sums.{AllPass-from_list_all}
use Rattle.computed_style.proofs.Lookups.{found_has}
use Rattle.computed_style.proofs.Tables.{number_small, same_property}
use Rattle.computed_style.specs.ByProperty.{IsBefore, kept_for}
use Rattle.computed_style.specs.Styles.{ComputedStyle, value_of}
use Rattle.interpolation.proofs.EqualityLemmas.{same_tells}
use Rattle.interpolation.specs.Equality.{is_same}
use Rattle.style_data.proofs.Lookups.{one_of_both}
use Rattle.style_data.specs.TransitionSets.{AreTransitions, TransitionSet, completed_of, no_transitions, running_of, transition_set}
use Rattle.style_data.specs.declared.decision.Decision.{Decision}
use Rattle.style_data.specs.declared.transition.Completed.{Completed}
use Rattle.style_data.specs.declared.transition.Transition.{Transition}
use Rattle.transition_list.specs.Matching.{match_of}
use Rattle.transition_list.specs.declared.matched.MatchedItem.{MatchedItem}
use Rattle.transition_start.proofs.Cases.{completed_there, none_is, nothing_there, runs_there}
use Rattle.transition_start.specs.Change.{change_at, property_change}
use Rattle.transition_start.specs.Functions.{decision_of}
use Rattle.transition_start.specs.Results.{decision_with}
use Rattle.transition_start.specs.declared.change.PropertyChange.{PropertyChange}
use Rattle.value_types.proofs.PropertyLemmas.{CountsUp, counts_up}
use Rattle.value_types.specs.Properties.{all_properties, number_of}
use Rattle.value_types.specs.declared.property.PropertyId.{PropertyId}
use Rattle.value_types.specs.declared.value.Value.{Value}
use Rattle.transition_update.proofs.ByProperty.{like, of_these, unlike}
use Rattle.transition_update.proofs.Given.{nothing_given}
use Rattle.transition_update.proofs.Quiet.{none_after, none_cancelled}
use Rattle.transition_update.specs.Idle.{AreOthersSame}
use Rattle.transition_update.specs.Staying.{AllStay, all_end_there, ends_there}
use Rattle.transition_update.specs.Updates.{StyleChange, by_property, cancelled_by, decision_for, style_change, transitions_after}

-- ---- a list of what properties have, built again property by property

-- the look-up of a property of another number passes the first item over
looked_past : {A : Type 0} (r : PropertyId × A) (rs : List (PropertyId × A)) (p : PropertyId) → (number_of r.0 ≡ number_of p → ⊥) → kept_for p (r ∷ rs) ≡ kept_for p rs
looked_past r rs p apart =
    ap (λ b. option_map (λ k. k.1) (cond b (Some r) (find (λ k. nat_eq (number_of k.0) (number_of p)) rs))) (unlike (number_of r.0) (number_of p) apart)

-- that of the same number finds it
looked_up : {A : Type 0} (r : PropertyId × A) (rs : List (PropertyId × A)) (p : PropertyId) → number_of r.0 ≡ number_of p → kept_for p (r ∷ rs) ≡ Some r.1
looked_up r rs p same =
    ap (λ b. option_map (λ k. k.1) (cond b (Some r) (find (λ k. nat_eq (number_of k.0) (number_of p)) rs))) (like (number_of r.0) (number_of p) same)

-- greater numbers have nothing for a property
none_above : {A : Type 0} (l : List (PropertyId × A)) (p : PropertyId) → All (λ r. number_of p < number_of r.0) l → kept_for p l ≡ None
none_above [] p above = refl
none_above (r ∷ rs) p above =
    let first = All-head (λ r. number_of p < number_of r.0) r rs above in
    looked_past r rs p (λ e. omega (arith, e, first)) ∙ none_above rs p (All-tail (λ r. number_of p < number_of r.0) r rs above)

-- numbers that are at least k, and not k at the first place, are above k
above_first : {A : Type 0} (r : PropertyId × A) (rs : List (PropertyId × A)) (k : ℕ) → AllPairs IsBefore (r ∷ rs) → k < number_of r.0 → All (λ x. k < number_of x.0) (r ∷ rs)
above_first r rs k ascend above zero d l = above
above_first r rs k ascend above (suc i) d l = let later = ascend zero (suc i) d (omega arith) l in omega (arith, above, later)

-- what properties that count up have of an ascending list, where the list is of them alone, is the list
built_again : {A : Type 0} (has : PropertyId → Option A) (ps : List PropertyId) (k : ℕ) (l : List (PropertyId × A)) → CountsUp k ps → AllPairs IsBefore l
    → All (λ r. k ≤ number_of r.0) l → All (λ r. number_of r.0 < k + length ps) l → ((p : PropertyId) → k ≤ number_of p → has p ≡ kept_for p l) → of_these has ps ≡ l
built_again has [] k [] counts ascend low high is = refl
built_again has [] k (r ∷ rs) counts ascend low high is =
    let at_least = All-head (λ r. k ≤ number_of r.0) r rs low in
    let below = All-head (λ r. number_of r.0 < k + 0) r rs high in
    absurd (omega (arith, at_least, below))
built_again has (q ∷ qs) k [] counts ascend low high is =
    ap (λ o. cons_option (option_map (λ a. (q, a)) o) (of_these has qs)) (is q (omega (arith, counts.0)))
    ∙ built_again has qs (k + 1) [] counts.1 ascend (λ i d l. absurd (omega (arith, l))) (λ i d l. absurd (omega (arith, l))) (λ p more. is p (omega (arith, more)))
built_again {A} has (q ∷ qs) k (r ∷ rs) counts ascend low high is = elim (cases_eq (number_of r.0) k) [
  | inl same ↦
      let named : number_of r.0 ≡ number_of q = omega (arith, same, counts.0) in
      let rest : AllPairs IsBefore rs = λ i j d less short. ascend (suc i) (suc j) d (omega arith) (omega arith) in
      let later : All (λ x. k + 1 ≤ number_of x.0) rs = λ i d l. let more = ascend zero (suc i) d (omega arith) (omega (arith, l)) in omega (arith, more, same) in
      let below : All (λ x. number_of x.0 < k + 1 + length qs) rs = λ i d l. let less = high (suc i) d (omega (arith, l)) in omega (arith, less) in
      ap (λ o. cons_option (option_map (λ a. (q, a)) o) (of_these has qs)) (is q (omega (arith, counts.0)) ∙ looked_up r rs q named)
      ∙ ap (λ xs. (q, r.1) ∷ xs)
      (built_again has qs (k + 1) rs counts.1 rest later below (λ p more. is p (omega (arith, more)) ∙ looked_past r rs p (λ e. omega (arith, e, same, more))))
      ∙ ap (λ (p : PropertyId). (p, r.1) ∷ rs) (sym (same_property r.0 q named))
  | inr apart ↦
      let at_least = All-head (λ r. k ≤ number_of r.0) r rs low in
      let above = above_first r rs k ascend (omega (arith, at_least, apart)) in
      let later : All (λ x. k + 1 ≤ number_of x.0) (r ∷ rs) = λ i d l. let more = above i d l in omega (arith, more) in
      let below : All (λ x. number_of x.0 < k + 1 + length qs) (r ∷ rs) = λ i d l. let less = high i d l in omega (arith, less) in
      let greater : All (λ x. number_of q < number_of x.0) (r ∷ rs) = λ i d l. let more = above i d l in omega (arith, more, counts.0) in
      ap (λ o. cons_option (option_map (λ a. (q, a)) o) (of_these has qs)) (is q (omega (arith, counts.0)) ∙ none_above (r ∷ rs) q greater)
      ∙ built_again has qs (k + 1) (r ∷ rs) counts.1 ascend later below (λ p more. is p (omega (arith, more)))
]

-- what each property has of an ascending list is the list
by_property_again : {A : Type 0} (has : PropertyId → Option A) (l : List (PropertyId × A)) → AllPairs IsBefore l → ((p : PropertyId) → has p ≡ kept_for p l) → by_property has ≡ l
by_property_again has l ascend is =
    built_again has all_properties 0 l counts_up ascend (λ i d less. omega arith) (λ i d less. number_small (get_or l i d).0) (λ p _. is p)

-- ---- the decision for each property

-- what runs to the after-change value, or has completed there, stays where there is a match, and so does a property without either
-- that has the same value before
kept_by : (e : PropertyChange) (r : Option Transition) (c : Option Completed) (m : Option MatchedItem) → IsNone r ⊎ IsNone c → IfSome r (λ r. (r.to ≡ e.after) × IsSome m)
    → IfSome c (λ c. (c.to ≡ e.after) × IsSome m) → (IsNone r → IsNone c → e.before ≡ e.after) → decision_of (change_at e r c m) ≡ decision_with r c None
kept_by e None None m one runs done same = nothing_there e m (same refl refl)
kept_by e (Some r) None (Some m) one (there, some) done same = runs_there e r m there
kept_by e (Some r) None None one (there, some) done same = cc
kept_by e None (Some c) (Some m) one runs (there, some) same = completed_there e c m there
kept_by e None (Some c) None one runs (there, some) same = cc
kept_by e (Some r) (Some c) m (inl none) runs done same = cc
kept_by e (Some r) (Some c) m (inr none) runs done same = cc

there : (after : ComputedStyle) (p : PropertyId) (to : Value) → ends_there after p to ≡ true → (to ≡ value_of after p) × IsSome (match_of after.transitions p)
there after p to ends =
    let (same, some) = and_parts (is_same to (value_of after p)) (is_some (match_of after.transitions p)) ends in
    ((same_tells to (value_of after p)).0 same, some)

decision_stays : (x : StyleChange) (ts : TransitionSet) (p : PropertyId) → AreTransitions ts → all_end_there x.after ts ≡ true → AreOthersSame x.before x.after ts
    → decision_for x ts p ≡ decision_with (running_of ts p) (completed_of ts p) None
unfolding decision_for
decision_stays x ts p are all others =
    let (runs, done) = and_parts (list_all (λ r. ends_there x.after r.0 r.1.to) ts.running) (list_all (λ c. ends_there x.after c.0 c.1.to) ts.completed) all in
    kept_by (property_change p (value_of x.before p) (value_of x.after p) x.event.time.0 x.event.generation x.event.position) (running_of ts p) (completed_of ts p)
    (match_of x.after.transitions p) (one_of_both ts p are)
    (found_has (λ q (r : Transition). (r.to ≡ value_of x.after q) × IsSome (match_of x.after.transitions q)) ts.running p (running_of ts p) refl
    (λ i d l. there x.after (get_or ts.running i d).0 (get_or ts.running i d).1.to (AllPass-from_list_all (λ r. ends_there x.after r.0 r.1.to) ts.running runs i d l)))
    (found_has (λ q (c : Completed). (c.to ≡ value_of x.after q) × IsSome (match_of x.after.transitions q)) ts.completed p (completed_of ts p) refl
    (λ i d l. there x.after (get_or ts.completed i d).0 (get_or ts.completed i d).1.to (AllPass-from_list_all (λ c. ends_there x.after c.0 c.1.to) ts.completed done i d l)))
    (λ none_runs none_done. others p (record { running = none_is (running_of ts p) none_runs; completed = none_is (completed_of ts p) none_done }))

-- ---- all of them

all_after : (x : StyleChange) (ts : TransitionSet) → AreTransitions ts → all_end_there x.after ts ≡ true → AreOthersSame x.before x.after ts → transitions_after x ts ≡ ts
all_after x ts are all others =
    ap (λ l. transition_set l (by_property (λ p. (decision_for x ts p).completed)))
    (by_property_again (λ p. (decision_for x ts p).running) ts.running are.running_ascend (λ p. ap (λ (d : Decision). d.running) (decision_stays x ts p are all others)))
    ∙ ap (transition_set ts.running)
    (by_property_again (λ p. (decision_for x ts p).completed) ts.completed are.completed_ascend (λ p. ap (λ (d : Decision). d.completed) (decision_stays x ts p are all others)))

none_gone : (x : StyleChange) (ts : TransitionSet) → AreTransitions ts → all_end_there x.after ts ≡ true → AreOthersSame x.before x.after ts → cancelled_by x ts ≡ []
none_gone x ts are all others =
    nothing_given (λ p. (decision_for x ts p).gone) all_properties (λ p. ap (λ (d : Decision). d.gone) (decision_stays x ts p are all others))

pub all_stay : (after : ComputedStyle) (ts : TransitionSet) → AreTransitions ts → all_end_there after ts ≡ true → AllStay after ts
all_stay after ts are all = record {
  transitions = λ before event others. all_after (style_change before after event) ts are all others;
  cancelled = λ before event others. none_gone (style_change before after event) ts are all others;
}

-- so do none
pub none_stay : (after : ComputedStyle) → AllStay after no_transitions
none_stay after = record {
  transitions = λ before event others. none_after (style_change before after event) (λ p. others p (record { running = refl; completed = refl }));
  cancelled = λ before event others. none_cancelled (style_change before after event) (λ p. others p (record { running = refl; completed = refl }));
}
