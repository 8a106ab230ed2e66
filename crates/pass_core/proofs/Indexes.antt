-- Elements by their indexes.
use Rattle.std.proofs.Common.{◌≡◌, ℕ, zero, suc, ◌<◌, ◌≤◌, refl, ap, sym, ◌∙◌, arith, List, ◌∷◌, [], ◌++◌, length, get_or, set, take, map, Bool, true, false, not, ◌&&◌, Option, Some, None, eqb, eq-eqb, ne_eqb}
use Rattle.std.specs.Prelude.{is_some, if◌then◌else◌, slice_get, option_map}
use Rattle.std.specs.List.{list_any}
use Rattle.std.proofs.lemmas.Bool.{eqb-false, eqb-true}
use Rattle.std.proofs.lemmas.List.Folds.{list_any_at}
use Rattle.pass_core.proofs.ListsByElement.{value_for-append_none, value_for-lone_other, value_for-with_value_other}
use Rattle.pass_core.proofs.Planned.{both_true, some_none}
use Rattle.pass_core.specs.Passes.{are_distinct, value_for, with_value}
use Rattle.pass_core.specs.Plans.{differ}
use Rattle.pass_core.specs.declared.plan.Place.{Place}

none_there : {X : Type 0} (o : Option X) → not (is_some o) ≡ true → o ≡ None
none_there None is = refl
none_there (Some x) is = absurd (cc)

-- the element at an index of a list without repetitions stands for itself
pub record StandsAt {X : Type 0} (xs : List (ℕ × X)) (i e : ℕ) (d : ℕ × X) : Type 0 where
  pub value : value_for xs e ≡ Some (get_or xs i d).1
  pub writes : (v : X) → with_value xs e v ≡ set xs i (e, v)

pub stands_at : {X : Type 0} (xs : List (ℕ × X)) (i e : ℕ) (d : ℕ × X) → are_distinct xs ≡ true → i < length xs → (get_or xs i d).0 ≡ e → StandsAt xs i e d
stands_at [] i e d distinct within here = absurd (omega (arith, within))
stands_at (x ∷ xs) zero e d distinct within here = record {
  value = rw (eq-eqb x.0 e here) refl;
  writes = λ v. rw (eq-eqb x.0 e here) (ap (λ n. (n, v) ∷ xs) here);
}
stands_at (x ∷ xs) (suc i) e d distinct within here =
    let parts = both_true (not (is_some (value_for xs x.0))) (are_distinct xs) distinct in
    let rest = stands_at xs i e d parts.1 (omega (arith, within)) here in
    let other : x.0 ≡ e → ⊥ =
    λ same. some_none (value_for xs e) (get_or xs i d).1 rest.value (ap (value_for xs) (sym same) ∙ none_there (value_for xs x.0) parts.0) in
    record {
      value = rw (ne_eqb x.0 e other) rest.value;
      writes = λ v. rw (ne_eqb x.0 e other) (ap (λ l. x ∷ l) (rest.writes v));
    }

-- ---- lists without repetitions that grow or change

-- by the answer of a test of two elements
by_test : {P : Type 0} (a b : ℕ) → (a ≡ b → P) → ((a ≡ b → ⊥) → P) → P
by_test {P} a b same other = go (eqb a b) refl where
  go : (t : Bool) → eqb a b ≡ t → P
  go true e = same (eqb-true a b e)
  go false e = other (eqb-false a b e)

pub distinct_push : {X : Type 0} (xs : List (ℕ × X)) (e : ℕ) (v : X) → are_distinct xs ≡ true → value_for xs e ≡ None → are_distinct (xs ++ (e, v) ∷ []) ≡ true
distinct_push [] e v distinct none = refl
distinct_push (x ∷ xs) e v distinct none =
    let parts = both_true (not (is_some (value_for xs x.0))) (are_distinct xs) distinct in
    by_test x.0 e
    (λ same. absurd (some_none (value_for (x ∷ xs) e) x.1 (rw (eq-eqb x.0 e same) refl) none))
    (λ other.
    let rest : value_for xs e ≡ None = ap (λ b. if b then Some x.1 else value_for xs e) (sym (ne_eqb x.0 e other)) ∙ none in
    let unlike : value_for (xs ++ (e, v) ∷ []) x.0 ≡ None =
    value_for-append_none xs ((e, v) ∷ []) x.0 (none_there (value_for xs x.0) parts.0) ∙ value_for-lone_other e x.0 v (λ back. other (sym back)) in
    ap (λ o. not (is_some o) && are_distinct (xs ++ (e, v) ∷ [])) unlike ∙ distinct_push xs e v parts.1 rest)

pub distinct_with_value : {X : Type 0} (xs : List (ℕ × X)) (e : ℕ) (v : X) → are_distinct (with_value xs e v) ≡ are_distinct xs
distinct_with_value [] e v = refl
distinct_with_value (x ∷ xs) e v =
    by_test x.0 e (λ same. rw (eq-eqb x.0 e same) refl)
    (λ other.
    ap (λ b. are_distinct (if b then (x.0, v) ∷ xs else x ∷ with_value xs e v)) (ne_eqb x.0 e other)
    ∙ ap (λ o. not (is_some o) && are_distinct (with_value xs e v)) (value_for-with_value_other xs e x.0 v (λ back. other (sym back)))
    ∙ ap (λ b. not (is_some (value_for xs x.0)) && b) (distinct_with_value xs e v))

-- ---- the places that are done, in the order of the plan

-- an element after the first ones isn't among them
pub undone_at : {X : Type 0} (places : List Place) (ds : List (ℕ × X)) (i : ℕ) (d : Place) → differ places ≡ true → i < length places
    → map (λ x. x.0) ds ≡ map (λ p. p.element) (take i places) → value_for ds (get_or places i d).element ≡ None
undone_at [] ds i d differs within elements = absurd (omega (arith, within))
undone_at (q ∷ qs) [] i d differs within elements = refl
undone_at (q ∷ qs) (x ∷ xs) zero d differs within elements = absurd (cc)
undone_at (q ∷ qs) (x ∷ xs) (suc i) d differs within elements =
    let parts = both_true (not (list_any (λ r. eqb r.element q.element) qs)) (differ qs) differs in
    let head : x.0 ≡ q.element = cc in
    let tail : map (λ y. y.0) xs ≡ map (λ p. p.element) (take i qs) = cc in
    let e = (get_or qs i d).element in
    let other : x.0 ≡ e → ⊥ =
    λ same. both_ways (list_any (λ r. eqb r.element q.element) qs) parts.0
    (list_any_at (λ r. eqb r.element q.element) qs i d (omega (arith, within)) (eq-eqb e q.element (sym same ∙ head))) in
    ap (λ b. if b then Some x.1 else value_for xs e) (ne_eqb x.0 e other) ∙ undone_at qs xs i d parts.1 (omega (arith, within)) tail
  where
    both_ways : (b : Bool) → not b ≡ true → b ≡ true → ⊥
    both_ways true a e = cc
    both_ways false a e = cc

-- what a done place hands down stands at its index and for its element
pub record DoneAt {X : Type 0} (places : List Place) (ds : List (ℕ × X)) (j : ℕ) (d : Place) : Type 0 where
  pub down : X
  pub here : option_map (λ y. y.1) (slice_get ds j) ≡ Some down
  pub element : value_for ds (get_or places j d).element ≡ Some down

pub done_at : {X : Type 0} (places : List Place) (ds : List (ℕ × X)) (i j : ℕ) (d : Place) → are_distinct ds ≡ true → j < i → i ≤ length places
    → map (λ x. x.0) ds ≡ map (λ p. p.element) (take i places) → DoneAt places ds j d
done_at [] ds i j d distinct before within elements = absurd (omega (arith, before, within))
done_at (q ∷ qs) ds zero j d distinct before within elements = absurd (omega (arith, before))
done_at (q ∷ qs) [] (suc i) j d distinct before within elements = absurd (cc)
done_at (q ∷ qs) (x ∷ xs) (suc i) zero d distinct before within elements =
    let head : x.0 ≡ q.element = cc in
    record { down = x.1; here = refl; element = rw (eq-eqb x.0 q.element head) refl }
done_at (q ∷ qs) (x ∷ xs) (suc i) (suc j) d distinct before within elements =
    let parts = both_true (not (is_some (value_for xs x.0))) (are_distinct xs) distinct in
    let tail : map (λ y. y.0) xs ≡ map (λ p. p.element) (take i qs) = cc in
    let rest = done_at qs xs i j d parts.1 (omega (arith, before)) (omega (arith, within)) tail in
    let e = (get_or qs j d).element in
    let other : x.0 ≡ e → ⊥ =
    λ same. some_none (value_for xs e) rest.down rest.element (ap (value_for xs) (sym same) ∙ none_there (value_for xs x.0) parts.0) in
    record {
      down = rest.down;
      here = rest.here;
      element = ap (λ b. if b then Some x.1 else value_for xs e) (ne_eqb x.0 e other) ∙ rest.element;
    }
