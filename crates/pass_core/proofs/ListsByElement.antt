-- Lists by elements.
use Rattle.std.proofs.Common.{◌≡◌, ℕ, ◌+◌, ◌<◌, ◌≤◌, eqb, refl, ap, sym, ◌∙◌, List, ◌∷◌, [], ◌++◌, length, take, drop, get_or, set, map, Bool, true, false, Some, None, append-nil, add-one, append_assoc, ne_eqb, eq-eqb}
use Rattle.std.specs.Prelude.{if◌then◌else◌}
use Rattle.std.proofs.lemmas.Bool.{eqb-true}
use Rattle.std.proofs.lemmas.List.{drop_more, set_split, take_all, drop_all, take_more}
use Rattle.pass_core.specs.Passes.{value_for, with_value}

-- ---- the first one

value_for-other : {X : Type 0} (x : ℕ × X) (xs : List (ℕ × X)) (e : ℕ) → (x.0 ≡ e → ⊥) → value_for (x ∷ xs) e ≡ value_for xs e
value_for-other x xs e other = rw (ne_eqb x.0 e other) refl

value_for-same : {X : Type 0} (x : ℕ × X) (xs : List (ℕ × X)) (e : ℕ) → x.0 ≡ e → value_for (x ∷ xs) e ≡ Some x.1
value_for-same x xs e same = rw (eq-eqb x.0 e same) refl

with_value-other : {X : Type 0} (x : ℕ × X) (xs : List (ℕ × X)) (e : ℕ) (v : X) → (x.0 ≡ e → ⊥) → with_value (x ∷ xs) e v ≡ x ∷ with_value xs e v
with_value-other x xs e v other = rw (ne_eqb x.0 e other) refl

with_value-same : {X : Type 0} (x : ℕ × X) (xs : List (ℕ × X)) (e : ℕ) (v : X) → x.0 ≡ e → with_value (x ∷ xs) e v ≡ (e, v) ∷ xs
with_value-same x xs e v same = rw (eq-eqb x.0 e same) (ap (λ n. (n, v) ∷ xs) same)

-- ---- at an index

pub found_at : {X : Type 0} (xs : List (ℕ × X)) (i e : ℕ) (d : ℕ × X) → i < length xs → (get_or xs i d).0 ≡ e → value_for (drop i xs) e ≡ Some (get_or xs i d).1
found_at xs i e d within same = ap (λ l. value_for l e) (drop_more xs i d within) ∙ value_for-same (get_or xs i d) (drop (i + 1) xs) e same

pub not_at : {X : Type 0} (xs : List (ℕ × X)) (i e : ℕ) (d : ℕ × X) → i < length xs → ((get_or xs i d).0 ≡ e → ⊥) → value_for (drop i xs) e ≡ value_for (drop (i + 1) xs) e
not_at xs i e d within other = ap (λ l. value_for l e) (drop_more xs i d within) ∙ value_for-other (get_or xs i d) (drop (i + 1) xs) e other

-- ---- the index of an element

-- none of the first i is of the element
pub record Behind {X : Type 0} (xs : List (ℕ × X)) (e i : ℕ) : Type 0 where
  pub writes : (v : X) → with_value xs e v ≡ take i xs ++ with_value (drop i xs) e v

pub after_more : {X : Type 0} (xs : List (ℕ × X)) (e i : ℕ) (d : ℕ × X) → i < length xs → ((get_or xs i d).0 ≡ e → ⊥) → Behind xs e i → Behind xs e (i + 1)
after_more xs e i d within other h = record {
  writes = λ v.
      h.writes v ∙ ap (λ l. take i xs ++ with_value l e v) (drop_more xs i d within)
      ∙ ap (λ l. take i xs ++ l) (with_value-other (get_or xs i d) (drop (i + 1) xs) e v other)
      ∙ sym (append_assoc (take i xs) (get_or xs i d ∷ []) (with_value (drop (i + 1) xs) e v))
      ∙ ap (λ l. l ++ with_value (drop (i + 1) xs) e v) (sym (take_more xs i d within));
}

pub after_found : {X : Type 0} (xs : List (ℕ × X)) (e i : ℕ) (d : ℕ × X) → i < length xs → (get_or xs i d).0 ≡ e → Behind xs e i
    → (v : X) → with_value xs e v ≡ set xs i (e, v)
after_found xs e i d within same h v =
    h.writes v ∙ ap (λ l. take i xs ++ with_value l e v) (drop_more xs i d within)
    ∙ ap (λ l. take i xs ++ l) (with_value-same (get_or xs i d) (drop (i + 1) xs) e v same) ∙ ap (λ l. take i xs ++ (e, v) ∷ l) (ap (λ n. drop n xs) (add-one i)) ∙ sym (set_split xs i (e, v) within)

pub after_all : {X : Type 0} (xs : List (ℕ × X)) (e i : ℕ) → length xs ≤ i → Behind xs e i → (v : X) → with_value xs e v ≡ xs
after_all xs e i all h v =
    h.writes v ∙ ap (λ l. take i xs ++ with_value l e v) (drop_all i xs all) ∙ append-nil (take i xs) ∙ take_all i xs all

pub found_as_read : {X : Type 0} (xs : List (ℕ × X)) (e i : ℕ) (x : ℕ × X) → i < length xs → x ≡ get_or xs i x → x.0 ≡ e → Behind xs e i
    → (v : X) → with_value xs e v ≡ set xs i (e, v)
found_as_read {X} xs e i x within is same h = after_found xs e i x within (sym (ap (λ (y : ℕ × X). y.0) is) ∙ same) h

-- ---- values after others

pub value_for-append_some : {X : Type 0} (xs ys : List (ℕ × X)) (e : ℕ) (v : X) → value_for xs e ≡ Some v → value_for (xs ++ ys) e ≡ Some v
value_for-append_some [] ys e v is = absurd (cc)
value_for-append_some (x ∷ xs) ys e v is = at_first (eqb x.0 e) refl (value_for-append_some xs ys e v)
  where
    at_first : (b : Bool) → eqb x.0 e ≡ b → (value_for xs e ≡ Some v → value_for (xs ++ ys) e ≡ Some v) → value_for (x ∷ (xs ++ ys)) e ≡ Some v
    at_first true same rest = let h : value_for (x ∷ xs) e ≡ Some x.1 = rw same refl in rw same (sym h ∙ is)
    at_first false same rest = let h : value_for (x ∷ xs) e ≡ value_for xs e = rw same refl in rw same (rest (sym h ∙ is))

pub value_for-append_none : {X : Type 0} (xs ys : List (ℕ × X)) (e : ℕ) → value_for xs e ≡ None → value_for (xs ++ ys) e ≡ value_for ys e
value_for-append_none [] ys e none = refl
value_for-append_none (x ∷ xs) ys e none = at_first (eqb x.0 e) refl (value_for-append_none xs ys e)
  where
    at_first : (b : Bool) → eqb x.0 e ≡ b → (value_for xs e ≡ None → value_for (xs ++ ys) e ≡ value_for ys e) → value_for (x ∷ (xs ++ ys)) e ≡ value_for ys e
    at_first true same rest = let h : value_for (x ∷ xs) e ≡ Some x.1 = rw same refl in absurd (none_some (sym h ∙ none))
      where
        none_some : Some x.1 ≡ None → ⊥
        none_some is' = cc
    at_first false same rest = let h : value_for (x ∷ xs) e ≡ value_for xs e = rw same refl in rw same (rest (sym h ∙ none))

pub value_for-lone : {X : Type 0} (e : ℕ) (v : X) → value_for ((e, v) ∷ []) e ≡ Some v
value_for-lone e v = value_for-same (e, v) [] e refl

pub value_for-lone_other : {X : Type 0} (e n : ℕ) (v : X) → (e ≡ n → ⊥) → value_for ((e, v) ∷ []) n ≡ None
value_for-lone_other e n v other = value_for-other (e, v) [] n other

-- ---- another value

pub value_for-with_value_same : {X : Type 0} (xs : List (ℕ × X)) (e : ℕ) (v old : X) → value_for xs e ≡ Some old → value_for (with_value xs e v) e ≡ Some v
value_for-with_value_same [] e v old is = absurd (cc)
value_for-with_value_same (x ∷ xs) e v old is = at_first (eqb x.0 e) refl (value_for-with_value_same xs e v old)
  where
    at_first : (b : Bool) → eqb x.0 e ≡ b → (value_for xs e ≡ Some old → value_for (with_value xs e v) e ≡ Some v) → value_for (with_value (x ∷ xs) e v) e ≡ Some v
    at_first true same rest = rw same (rw same refl)
    at_first false same rest = let h : value_for (x ∷ xs) e ≡ value_for xs e = rw same refl in rw same (rw same (rest (sym h ∙ is)))

pub value_for-with_value_other : {X : Type 0} (xs : List (ℕ × X)) (e n : ℕ) (v : X) → (e ≡ n → ⊥) → value_for (with_value xs e v) n ≡ value_for xs n
value_for-with_value_other [] e n v other = refl
value_for-with_value_other (x ∷ xs) e n v other = at_first (eqb x.0 e) refl (value_for-with_value_other xs e n v other)
  where
    at_first : (b : Bool) → eqb x.0 e ≡ b → value_for (with_value xs e v) n ≡ value_for xs n → value_for (with_value (x ∷ xs) e v) n ≡ value_for (x ∷ xs) n
    at_first true same rest =
        let differs : x.0 ≡ n → ⊥ = λ is'. other (sym (eqb-true x.0 e same) ∙ is') in
        let here : with_value (x ∷ xs) e v ≡ (x.0, v) ∷ xs = rw same refl in
        ap (λ l. value_for l n) here ∙ value_for-other (x.0, v) xs n differs ∙ sym (value_for-other x xs n differs)
    at_first false same rest =
        let here : with_value (x ∷ xs) e v ≡ x ∷ with_value xs e v = rw same refl in
        ap (λ l. value_for l n) here ∙ by_first (eqb x.0 n) refl rest
      where
        by_first : (b : Bool) → eqb x.0 n ≡ b → value_for (with_value xs e v) n ≡ value_for xs n → value_for (x ∷ with_value xs e v) n ≡ value_for (x ∷ xs) n
        by_first true is' rest = rw is' refl
        by_first false is' rest = ap (λ r. if eqb x.0 n then Some x.1 else r) rest

pub map-with_value : {X : Type 0} (xs : List (ℕ × X)) (e : ℕ) (v : X) → map (λ x. x.0) (with_value xs e v) ≡ map (λ x. x.0) xs
map-with_value [] e v = refl
map-with_value (x ∷ xs) e v = at_first (eqb x.0 e) refl (map-with_value xs e v)
  where
    at_first : (b : Bool) → eqb x.0 e ≡ b → map (λ x. x.0) (with_value xs e v) ≡ map (λ x. x.0) xs → map (λ x. x.0) (with_value (x ∷ xs) e v) ≡ x.0 ∷ map (λ x. x.0) xs
    at_first true same rest = rw same refl
    at_first false same rest = rw same (ap (λ l. x.0 ∷ l) rest)
