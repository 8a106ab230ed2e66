-- Two events in either order.
use Rattle.std.proofs.Common.{◌≡◌, ℕ, eqb, refl, ap, subst, sym, ◌∙◌, List, ◌∷◌, [], ◌++◌, Bool, true, false, Option, Some, None, append_assoc}
use Rattle.std.specs.Prelude.{option_map, slice_get}
use Rattle.std.specs.Option.{option_and_then, option_map_or}
use Rattle.std.proofs.lemmas.Bool.{eqb-true}
use Rattle.pass_core.specs.Work.{Meaning}
use Rattle.pass_core.specs.Plans.{planned_place}
use Rattle.pass_core.specs.Passes.{LeaveSame, PassState, after_event, after_events, are_allowed, event_element, handed_to, is_allowed, is_done, is_done_at, may_come, outcome_at, value_for, with_outcome, with_value}
use Rattle.pass_core.specs.declared.event.CoreEvent.{CoreEvent}
use Rattle.pass_core.specs.declared.event.CoreEvent.TheVariants.{Update, Refuse}
use Rattle.pass_core.specs.declared.plan.Place.{Place}
use Rattle.pass_core.specs.declared.step.Step.{Step}
use Rattle.pass_core.specs.declared.step.Step.TheVariants.{Updated, Kept}
use Rattle.pass_core.proofs.ListsByElement.{value_for-append_none, value_for-append_some, value_for-with_value_other}
use Rattle.pass_core.proofs.Planned.{both_true}
use Rattle.pass_core.proofs.Passing.{as_may_come, done_some, mapped_true}

-- ---- entries

with_value-swap : {X : Type 0} (xs : List (ℕ × X)) (e n : ℕ) (v w : X) → (e ≡ n → ⊥) → with_value (with_value xs e v) n w ≡ with_value (with_value xs n w) e v
with_value-swap [] e n v w differ = refl
with_value-swap (x ∷ xs) e n v w differ = at_first (eqb x.0 e) (eqb x.0 n) refl refl (with_value-swap xs e n v w differ)
  where
    at_first : (a b : Bool) → eqb x.0 e ≡ a → eqb x.0 n ≡ b → with_value (with_value xs e v) n w ≡ with_value (with_value xs n w) e v
        → with_value (with_value (x ∷ xs) e v) n w ≡ with_value (with_value (x ∷ xs) n w) e v
    at_first true true is is' rest = absurd (differ (sym (eqb-true x.0 e is) ∙ eqb-true x.0 n is'))
    at_first true false is is' rest = rw is (rw is' (rw is refl))
    at_first false true is is' rest = rw is (rw is' (rw is refl))
    at_first false false is is' rest = rw is (rw is' (rw is (ap (λ l. x ∷ l) rest)))

-- ---- what is handed down

pair-swap : {X : Type 0} (a b : ℕ × X) (e : ℕ) → (a.0 ≡ b.0 → ⊥) → value_for (a ∷ b ∷ []) e ≡ value_for (b ∷ a ∷ []) e
pair-swap a b e differ = by_numbers (eqb a.0 e) (eqb b.0 e) refl refl
  where
    by_numbers : (x y : Bool) → eqb a.0 e ≡ x → eqb b.0 e ≡ y → value_for (a ∷ b ∷ []) e ≡ value_for (b ∷ a ∷ []) e
    by_numbers true true is is' = absurd (differ (eqb-true a.0 e is ∙ sym (eqb-true b.0 e is')))
    by_numbers true false is is' = rw (is, is') refl
    by_numbers false true is is' = rw (is, is') refl
    by_numbers false false is is' = rw (is, is') refl

value_for-swap : {X : Type 0} (xs : List (ℕ × X)) (a b : ℕ × X) (e : ℕ) → (a.0 ≡ b.0 → ⊥)
    → value_for ((xs ++ a ∷ []) ++ b ∷ []) e ≡ value_for ((xs ++ b ∷ []) ++ a ∷ []) e
value_for-swap xs a b e differ = by_value (value_for xs e) refl
  where
    by_value : (o : Option _) → value_for xs e ≡ o → value_for ((xs ++ a ∷ []) ++ b ∷ []) e ≡ value_for ((xs ++ b ∷ []) ++ a ∷ []) e
    by_value (Some v) is =
        value_for-append_some (xs ++ a ∷ []) (b ∷ []) e v (value_for-append_some xs (a ∷ []) e v is)
        ∙ sym (value_for-append_some (xs ++ b ∷ []) (a ∷ []) e v (value_for-append_some xs (b ∷ []) e v is))
    by_value None is =
        ap (λ l. value_for l e) (append_assoc xs (a ∷ []) (b ∷ [])) ∙ value_for-append_none xs (a ∷ b ∷ []) e is ∙ pair-swap a b e differ
        ∙ sym (value_for-append_none xs (b ∷ a ∷ []) e is) ∙ ap (λ l. value_for l e) (sym (append_assoc xs (b ∷ []) (a ∷ [])))

-- ---- outcomes

handed_more : {E D : Type 0} (m : Meaning E D) (places : List Place) (done more : List (ℕ × D)) (p : Place) (o : Option ℕ) → p.parent ≡ o
    → option_map_or (is_done_at places done) o true ≡ true → handed_to m places (done ++ more) p ≡ handed_to m places done p
handed_more m places done more p None parent is =
    ap (λ o. option_map_or (λ i. option_and_then (λ (q : Place). value_for (done ++ more) q.element) (slice_get places i)) o (Some m.top)) parent
    ∙ sym (ap (λ o. option_map_or (λ i. option_and_then (λ (q : Place). value_for done q.element) (slice_get places i)) o (Some m.top)) parent)
handed_more m places done more p (Some i) parent is =
    let there = mapped_true (λ (q : Place). is_done done q.element) (slice_get places i) is in
    let q = there.0 in
    let down = done_some (value_for done q.element) there.2 in
    ap (λ o. option_map_or (λ i. option_and_then (λ (q : Place). value_for (done ++ more) q.element) (slice_get places i)) o (Some m.top)) parent
    ∙ ap (λ o. option_and_then (λ (q : Place). value_for (done ++ more) q.element) o) there.1
    ∙ value_for-append_some done more q.element down.0 down.1 ∙ sym down.1
    ∙ sym (ap (λ o. option_and_then (λ (q : Place). value_for done q.element) o) there.1)
    ∙ sym (ap (λ o. option_map_or (λ i. option_and_then (λ (q : Place). value_for done q.element) (slice_get places i)) o (Some m.top)) parent)

outcome_as : {E D : Type 0} (m : Meaning E D) (places : List Place) (entries : List (ℕ × E)) (done : List (ℕ × D)) (e : ℕ) (p : Place) → planned_place places e ≡ Some p
    → outcome_at m places (record { entries = entries; done = done }) e ≡ option_and_then (λ x. option_map (λ d. m.outcome e x d) (handed_to m places done p)) (value_for entries e)
outcome_as m places entries done e p planned =
    ap (λ o. option_and_then (λ x. option_and_then (λ p. option_map (λ d. m.outcome e x d) (handed_to m places done p)) o) (value_for entries e)) planned

outcome_same : {E D : Type 0} (m : Meaning E D) (places : List Place) (st : PassState E D) (entries : List (ℕ × E)) (more : List (ℕ × D)) (e : ℕ)
    → may_come places st.done e ≡ true → value_for entries e ≡ value_for st.entries e
    → outcome_at m places (record { entries = entries; done = st.done ++ more }) e ≡ outcome_at m places st e
outcome_same m places st entries more e may same =
    let can = as_may_come places st.done e may in
    outcome_as m places entries (st.done ++ more) e can.place can.planned
    ∙ ap (λ o. option_and_then (λ x. option_map (λ d. m.outcome e x d) (handed_to m places (st.done ++ more) can.place)) o) same
    ∙ ap (λ o. option_and_then (λ x. option_map (λ d. m.outcome e x d) o) (value_for st.entries e)) (handed_more m places st.done more can.place (can.place).parent refl can.after_parent)
    ∙ sym (outcome_as m places st.entries st.done e can.place can.planned)

outcome_after : {E D : Type 0} (m : Meaning E D) (places : List Place) (st : PassState E D) (n : ℕ) (o : Option (Step E D)) (e : ℕ) → (n ≡ e → ⊥)
    → may_come places st.done e ≡ true → outcome_at m places (option_map_or (with_outcome st n) o st) e ≡ outcome_at m places st e
outcome_after m places st n None e differ may = refl
outcome_after m places st n (Some (Updated x d)) e differ may =
    outcome_same m places st (with_value st.entries n x) ((n, d) ∷ []) e may (value_for-with_value_other st.entries n e x differ)
outcome_after m places st n (Some (Kept d)) e differ may = outcome_same m places st st.entries ((n, d) ∷ []) e may refl

-- ---- states

-- with the two outcomes in either order
pass_with : {E D : Type 0} → PassState E D → ℕ → Option (Step E D) → PassState E D
pass_with st e o = option_map_or (with_outcome st e) o st

outcomes_swap : {E D : Type 0} (st : PassState E D) (e n : ℕ) (a b : Option (Step E D)) → (e ≡ n → ⊥)
    → LeaveSame (pass_with (pass_with st e a) n b) (pass_with (pass_with st n b) e a)
unfolding pass_with
outcomes_swap st e n None b differ = record { entries = refl; downs = λ k. refl }
outcomes_swap st e n (Some s) None differ = record { entries = refl; downs = λ k. refl }
outcomes_swap st e n (Some (Updated x d)) (Some (Updated y c)) differ =
    record { entries = with_value-swap st.entries e n x y differ; downs = λ k. value_for-swap st.done (e, d) (n, c) k differ }
outcomes_swap st e n (Some (Updated x d)) (Some (Kept c)) differ = record { entries = refl; downs = λ k. value_for-swap st.done (e, d) (n, c) k differ }
outcomes_swap st e n (Some (Kept d)) (Some (Updated y c)) differ = record { entries = refl; downs = λ k. value_for-swap st.done (e, d) (n, c) k differ }
outcomes_swap st e n (Some (Kept d)) (Some (Kept c)) differ = record { entries = refl; downs = λ k. value_for-swap st.done (e, d) (n, c) k differ }

updates_swap : {E D : Type 0} (m : Meaning E D) (places : List Place) (st : PassState E D) (e n : ℕ) → (e ≡ n → ⊥) → may_come places st.done e ≡ true
    → may_come places st.done n ≡ true
    → LeaveSame (after_event m places (after_event m places st (Update e)) (Update n)) (after_event m places (after_event m places st (Update n)) (Update e))
unfolding pass_with
updates_swap m places st e n differ may may' =
    let a = outcome_at m places st e in let b = outcome_at m places st n in
    let second = outcome_after m places st e a n differ may' in
    let first = outcome_after m places st n b e (λ is. differ (sym is)) may in
    subst (λ o. LeaveSame (pass_with (pass_with st e a) n o) (after_event m places (after_event m places st (Update n)) (Update e))) (sym second)
    (subst (λ o. LeaveSame (pass_with (pass_with st e a) n b) (pass_with (pass_with st n b) e o)) (sym first) (outcomes_swap st e n a b differ))

pub events_swap : {E D : Type 0} (m : Meaning E D) (places : List Place) (st : PassState E D) (a b : CoreEvent) → (event_element a ≡ event_element b → ⊥)
    → are_allowed m places st (a ∷ b ∷ []) ≡ true → are_allowed m places st (b ∷ a ∷ []) ≡ true
    → LeaveSame (after_events m places st (a ∷ b ∷ [])) (after_events m places st (b ∷ a ∷ []))
events_swap m places st (Refuse e) b differ may may' = record { entries = refl; downs = λ k. refl }
events_swap m places st (Update e) (Refuse n) differ may may' = record { entries = refl; downs = λ k. refl }
events_swap m places st (Update e) (Update n) differ may may' =
    updates_swap m places st e n differ
    (both_true (is_allowed places st.done (Update e)) (are_allowed m places (after_event m places st (Update e)) (Update n ∷ [])) may).0
    (both_true (is_allowed places st.done (Update n)) (are_allowed m places (after_event m places st (Update n)) (Update e ∷ [])) may').0
