-- The chain of parents of an element: what it has, and that the chain of an ancestor ends it.
use Rattle.std.proofs.Common.{◌≡◌, ℕ, ◌≤◌, true, false, eqb, Option, Some, None, List, [], ◌∷◌, ◌++◌, length, refl, sym, ap, ◌∙◌, subst, inl, inr, arith, length-append}
use Rattle.std.specs.Option.{option_map_or}
use Rattle.std.proofs.lemmas.Bool.{cases_Bool, eqb-true, ne_eqb, or_cases, or_parts, or_left, or_right, false≢true}
use Rattle.std.proofs.lemmas.List.Folds.{list_any-append}
use Rattle.doc_tree.specs.Element.{Element, is_in, chain, reversed_onto}

-- element q is one of xs
abbrev pub Has : ℕ → List Element → Type 0
Has q xs = is_in q xs ≡ true

-- no number stands twice among the elements
abbrev pub Differ : List Element → Type 0
Differ [] = Unit {0}
Differ (e ∷ earlier) = (is_in e.number earlier ≡ false) × Differ earlier

-- xs ends ys
pub record Ends (xs ys : List Element) : Type 0 where
  pub front : List Element
  pub is : ys ≡ front ++ xs

-- the chain of the last element is itself and the chain of its parent
pub chain-here : (e : Element) (earlier : List Element) (n : ℕ) → eqb e.number n ≡ true → chain (e ∷ earlier) n ≡ e ∷ option_map_or (chain earlier) e.parent []
unfolding chain
chain-here e earlier n h = rw h

pub chain-past : (e : Element) (earlier : List Element) (n : ℕ) → eqb e.number n ≡ false → chain (e ∷ earlier) n ≡ chain earlier n
unfolding chain
chain-past e earlier n h = rw h

chain-nil : (n : ℕ) → chain [] n ≡ []
unfolding chain
chain-nil n = refl

-- later elements of other numbers change no chain
pub chain-past_all : (es earlier : List Element) (n : ℕ) → is_in n es ≡ false → chain (reversed_onto es earlier) n ≡ chain earlier n
chain-past_all [] earlier n h = refl
chain-past_all (e ∷ es) earlier n h =
    let parts = or_parts (eqb e.number n) (is_in n es) h in
    chain-past_all es (e ∷ earlier) n parts.1 ∙ chain-past e earlier n parts.0

-- an element that is there begins its chain
pub chain-has_self : (es : List Element) (n : ℕ) → is_in n es ≡ true → Has n (chain es n)
chain-has_self [] n h = absurd (false≢true h)
chain-has_self (e ∷ es) n h =
    elim (cases_Bool (eqb e.number n)) [ inl same ↦ rw (chain-here e es n same) (or_left _ _ same) | inr other ↦ rw (chain-past e es n other) (chain-has_self es n (elim (or_cases _ _ h) [ inl same ↦ absurd (false≢true (sym other ∙ same)) | inr within ↦ within ])) ]

has-above : (es : List Element) (q : ℕ) (parent : Option ℕ) → ((p : ℕ) → Has q (chain es p) → is_in q es ≡ true) → Has q (option_map_or (chain es) parent []) → is_in q es ≡ true
has-above es q None step h = absurd (false≢true h)
has-above es q (Some p) step h = step p h

-- a chain has numbers of elements alone
pub is_in-chain : (es : List Element) (q n : ℕ) → Has q (chain es n) → is_in q es ≡ true
is_in-chain [] q n h = absurd (false≢true (rw (chain-nil n) at h))
is_in-chain (e ∷ es) q n h =
    elim (cases_Bool (eqb e.number n)) [
      | inl same ↦ (elim (or_cases (eqb e.number q) _ (rw (chain-here e es n same) at h)) [
        | inl self ↦ or_left _ _ self
        | inr above ↦ or_right _ _ (has-above es q e.parent (λ p. is_in-chain es q p) above)
      ])
      | inr other ↦ or_right _ _ (is_in-chain es q n (rw (chain-past e es n other) at h))
    ]

-- a later element of a new number changes no chain of the earlier ones
pub chain-kept : (e : Element) (es : List Element) (q : ℕ) → is_in e.number es ≡ false → is_in q es ≡ true → chain (e ∷ es) q ≡ chain es q
chain-kept e es q fresh there =
    chain-past e es q (ne_eqb _ _ (λ same. false≢true (sym fresh ∙ subst (λ (x : ℕ). is_in x es ≡ true) (sym same) there)))

-- the chain of an ancestor ends the chain
ends-above : (es : List Element) (q : ℕ) (parent : Option ℕ) → ((p : ℕ) → Has q (chain es p) → Ends (chain es q) (chain es p)) → Has q (option_map_or (chain es) parent []) → Ends (chain es q) (option_map_or (chain es) parent [])
ends-above es q None step h = absurd (false≢true h)
ends-above es q (Some p) step h = step p h

pub chain-ends : (es : List Element) (q n : ℕ) → Differ es → Has q (chain es n) → Ends (chain es q) (chain es n)
chain-ends [] q n d h = absurd (false≢true (rw (chain-nil n) at h))
chain-ends (e ∷ es) q n d h =
    elim (cases_Bool (eqb e.number n)) [
      | inl same ↦ (elim (or_cases (eqb e.number q) _ (rw (chain-here e es n same) at h)) [
        | inl self ↦ record { front = []; is = ap (chain (e ∷ es)) (sym (eqb-true _ _ same) ∙ eqb-true _ _ self) }
        | inr above ↦
            let up = ends-above es q e.parent (λ p. chain-ends es q p d.1) above in
            let kept = chain-kept e es q d.0 (has-above es q e.parent (λ p. is_in-chain es q p) above) in
            record { front = e ∷ up.front; is = chain-here e es n same ∙ ap (λ (xs : List Element). e ∷ xs) (up.is ∙ ap (λ (xs : List Element). up.front ++ xs) (sym kept)) }
      ])
      | inr other ↦
          let within : Has q (chain es n) = rw (chain-past e es n other) at h in
          let up = chain-ends es q n d.1 within in
          let kept = chain-kept e es q d.0 (is_in-chain es q n within) in
          record { front = up.front; is = chain-past e es n other ∙ (up.is ∙ ap (λ (xs : List Element). up.front ++ xs) (sym kept)) }
    ]

-- of two ends of one list the shorter ends the longer
shorter_ends : (xs ys a b : List Element) → xs ++ a ≡ ys ++ b → length a ≤ length b → Ends a b
shorter_ends [] [] a b e short = record { front = []; is = sym e }
shorter_ends [] (y ∷ ys) a b e short = absurd (omega (arith, ap length e, length-append (y ∷ ys) b))
shorter_ends (x ∷ xs) [] a b e short = record { front = x ∷ xs; is = sym e }
shorter_ends (x ∷ xs) (y ∷ ys) a b e short = shorter_ends xs ys a b (cc) short

pub has-end : (q : ℕ) (xs ys : List Element) → Ends xs ys → Has q xs → Has q ys
has-end q xs ys ends h = rw (ends.is, list_any-append) (or_right _ _ h)

pub length-end : (xs ys : List Element) → Ends xs ys → length xs ≤ length ys
length-end xs ys ends = omega (arith, ap length ends.is, length-append ends.front xs)

-- of two ancestors of an element the one that lies no deeper is an ancestor of the other, or the same
pub chain-linear : (es : List Element) (p q n : ℕ) → Differ es → Has p (chain es n) → Has q (chain es n) → length (chain es p) ≤ length (chain es q) → Has p (chain es q)
chain-linear es p q n d hp hq short =
    let ends_p = chain-ends es p n d hp in
    let ends_q = chain-ends es q n d hq in
    has-end p _ _ (shorter_ends ends_p.front ends_q.front (chain es p) (chain es q) (sym ends_p.is ∙ ends_q.is) short) (chain-has_self es p (is_in-chain es p n hp))

-- an ancestor lies no deeper
pub chain-shorter : (es : List Element) (p q : ℕ) → Differ es → Has p (chain es q) → length (chain es p) ≤ length (chain es q)
chain-shorter es p q d h = length-end _ _ (chain-ends es p q d h)
