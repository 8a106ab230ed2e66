-- Other orders.
use Rattle.std.proofs.Common.{◌≡◌, ℕ, eqb, refl, ap, subst, sym, ◌∙◌, List, ◌∷◌, [], map, Bool, true, false, not, Option, Some, None, eq-eqb}
use Rattle.std.specs.Prelude.{is_some, option_map, slice_get}
use Rattle.std.proofs.lemmas.Bool.{eqb-true}
use Rattle.pass_core.specs.Work.{Meaning, down_of, entry_after}
use Rattle.pass_core.specs.Plans.{is_proper, planned_place}
use Rattle.pass_core.specs.Passes.{IsPassOutcome, IsResult, LeaveSame, PassState, after_event, after_events, are_allowed, are_distinct, event_element, handed_to, have_entries, is_allowed, is_done, is_done_at, may_come, outcome_at, update_all, value_for, with_outcome, with_value}
use Rattle.pass_core.specs.Passes as passes
use Rattle.pass_core.specs.declared.event.CoreEvent.{CoreEvent}
use Rattle.pass_core.specs.declared.plan.Place.{Place}
use Rattle.pass_core.specs.declared.step.Step.{Step}
use Rattle.pass_core.proofs.Planned.{both_true, some_none}
use Rattle.pass_core.proofs.Schedules.{whole_outcome}

-- ---- results

same_entry : {E : Type 0} (o : Option E) (x y : E) → o ≡ Some x → o ≡ Some y → x ≡ y
same_entry o x y a b = let e : Some x ≡ Some y = sym a ∙ b in cc

pub results_agree : {E D : Type 0} {m : Meaning E D} {places : List Place} {opening : List (ℕ × E)} {p : Place} {s t : Step E D}
    → IsResult m places opening p s → IsResult m places opening p t → s ≡ t
results_agree {m = m} {opening = opening} (passes.at_top p x none entry) (passes.at_top _ y none' other) =
    ap (λ z. m.outcome p.element z m.top) (same_entry (value_for opening p.element) x y entry other)
results_agree (passes.at_top p x none entry) (passes.below _ q i y s parent at above other) = absurd (some_none p.parent i parent none)
results_agree (passes.below p q i x s parent at above entry) (passes.at_top _ y none other) = absurd (some_none p.parent i parent none)
results_agree {m = m} {places = places} {opening = opening} (passes.below p q i x s parent at above entry) (passes.below _ r j y t parent' at' above' other) =
    let i_is : Some i ≡ Some j = sym parent ∙ parent' in
    let same_i : i ≡ j = cc in
    let q_is : Some q ≡ Some r = sym at ∙ ap (slice_get places) same_i ∙ at' in
    let same_q : q ≡ r = cc in
    let steps = results_agree (subst (λ z. IsResult m places opening z s) same_q above) above' in
    ap (λ z. m.outcome p.element z (down_of s)) (same_entry (value_for opening p.element) x y entry other) ∙ ap (λ z. m.outcome p.element y (down_of z)) steps

-- ---- lists with the same values

absent_by_elements : {X : Type 0} (xs ys : List (ℕ × X)) (e : ℕ) → map (λ x. x.0) xs ≡ map (λ x. x.0) ys → value_for xs e ≡ None → value_for ys e ≡ None
absent_by_elements [] [] e same none = refl
absent_by_elements [] (y ∷ ys) e same none = absurd (cc)
absent_by_elements (x ∷ xs) [] e same none = absurd (cc)
absent_by_elements (x ∷ xs) (y ∷ ys) e same none =
    let heads : x.0 ≡ y.0 = cc in let tails : map (λ x. x.0) xs ≡ map (λ x. x.0) ys = cc in
    at_first (eqb x.0 e) refl heads (absent_by_elements xs ys e tails)
  where
    at_first : (b : Bool) → eqb x.0 e ≡ b → x.0 ≡ y.0 → (value_for xs e ≡ None → value_for ys e ≡ None) → value_for (y ∷ ys) e ≡ None
    at_first true is heads rest = let here : value_for (x ∷ xs) e ≡ Some x.1 = rw is refl in absurd (some_none (value_for (x ∷ xs) e) x.1 here none)
    at_first false is heads rest =
        let here : value_for (x ∷ xs) e ≡ value_for xs e = rw is refl in
        let there : eqb y.0 e ≡ false = ap (λ n. eqb n e) (sym heads) ∙ is in
        rw there (rest (sym here ∙ none))

not_some : {X : Type 0} (o : Option X) → not (is_some o) ≡ true → o ≡ None
not_some None is = refl
not_some (Some x) is = absurd (cc)

value-here : {X : Type 0} (x : ℕ × X) (xs : List (ℕ × X)) → value_for (x ∷ xs) x.0 ≡ Some x.1
value-here x xs = rw (eq-eqb x.0 x.0 refl) refl

value-there : {X : Type 0} (x : ℕ × X) (xs : List (ℕ × X)) (e : ℕ) → eqb x.0 e ≡ false → value_for (x ∷ xs) e ≡ value_for xs e
value-there x xs e other = rw other refl

pub same_by_values : {X : Type 0} (xs ys : List (ℕ × X)) → are_distinct xs ≡ true → map (λ x. x.0) xs ≡ map (λ x. x.0) ys
    → ((e : ℕ) → value_for xs e ≡ value_for ys e) → xs ≡ ys
same_by_values [] [] distinct elements values = refl
same_by_values [] (y ∷ ys) distinct elements values = absurd (cc)
same_by_values (x ∷ xs) [] distinct elements values = absurd (cc)
same_by_values {X} (x ∷ xs) (y ∷ ys) distinct elements values =
    let heads : x.0 ≡ y.0 = cc in let tails : map (λ x. x.0) xs ≡ map (λ x. x.0) ys = cc in
    let parts = both_true (not (is_some (value_for xs x.0))) (are_distinct xs) distinct in
    let none = not_some (value_for xs x.0) parts.0 in
    let seconds : Some x.1 ≡ Some y.1 = sym (value-here x xs) ∙ values x.0 ∙ ap (value_for (y ∷ ys)) heads ∙ value-here y ys in
    let second : x.1 ≡ y.1 = cc in
    let first : x ≡ y = λ i. (heads i, second i) in
    let rest = same_by_values xs ys parts.1 tails (λ e. by_number e (eqb x.0 e) refl heads tails none) in
    ap (λ z. z ∷ xs) first ∙ ap (λ l. y ∷ l) rest
  where
    by_number : (e : ℕ) (b : Bool) → eqb x.0 e ≡ b → x.0 ≡ y.0 → map (λ x. x.0) xs ≡ map (λ x. x.0) ys → value_for xs x.0 ≡ None → value_for xs e ≡ value_for ys e
    by_number e true is heads tails none =
        let e_is = eqb-true x.0 e is in
        let here : value_for xs e ≡ None = ap (value_for xs) (sym e_is) ∙ none in
        here ∙ sym (absent_by_elements xs ys e tails here)
    by_number e false is heads tails none = sym (value-there x xs e is) ∙ values e ∙ value-there y ys e (ap (λ n. eqb n e) (sym heads) ∙ is)

-- ---- whole schedules

outcomes_agree : {E D : Type 0} (m : Meaning E D) (places : List Place) (opening a b : List (ℕ × E)) → are_distinct a ≡ true
    → IsPassOutcome m places opening a → IsPassOutcome m places opening b → a ≡ b
outcomes_agree m places opening a b distinct x y =
    same_by_values a b distinct (x.elements ∙ sym y.elements) (λ e. at_element e (planned_place places e) refl)
  where
    at_element : (e : ℕ) (o : Option Place) → planned_place places e ≡ o → value_for a e ≡ value_for b e
    at_element e None none = x.others e none ∙ sym (y.others e none)
    at_element e (Some p) is =
        let s = x.planned e p is in let t = y.planned e p is in
        s.2 ∙ ap (λ r. option_map (entry_after r) (value_for opening e)) (results_agree s.1 t.1) ∙ sym t.2

distinct_by_elements : {X : Type 0} (xs ys : List (ℕ × X)) → map (λ x. x.0) xs ≡ map (λ x. x.0) ys → are_distinct xs ≡ true → are_distinct ys ≡ true
distinct_by_elements [] [] same distinct = refl
distinct_by_elements [] (y ∷ ys) same distinct = refl_of same
  where
    refl_of : [] ≡ y.0 ∷ map (λ x. x.0) ys → are_distinct (y ∷ ys) ≡ true
    refl_of is = absurd (cc)
distinct_by_elements (x ∷ xs) [] same distinct = refl
distinct_by_elements (x ∷ xs) (y ∷ ys) same distinct =
    let heads : x.0 ≡ y.0 = cc in let tails : map (λ x. x.0) xs ≡ map (λ x. x.0) ys = cc in
    let parts = both_true (not (is_some (value_for xs x.0))) (are_distinct xs) distinct in
    let none = absent_by_elements xs ys x.0 tails (not_some (value_for xs x.0) parts.0) in
    rw (ap (value_for ys) (sym heads) ∙ none, distinct_by_elements xs ys tails parts.1) refl

pub schedules_same : {E D : Type 0} (m : Meaning E D) (places : List Place) (st : PassState E D) (events others : List CoreEvent) → is_proper places ≡ true
    → have_entries places st.entries ≡ true → are_distinct st.entries ≡ true → st.done ≡ [] → are_allowed m places st events ≡ true → are_allowed m places st others ≡ true
    → update_all places events ≡ true → update_all places others ≡ true → (after_events m places st events).entries ≡ (after_events m places st others).entries
schedules_same m places st events others proper have distinct nothing may may' all all' =
    let x = whole_outcome m places st events proper have may nothing all in
    let y = whole_outcome m places st others proper have may' nothing all' in
    outcomes_agree m places st.entries (after_events m places st events).entries (after_events m places st others).entries
    (distinct_by_elements st.entries (after_events m places st events).entries (sym x.elements) distinct) x y
