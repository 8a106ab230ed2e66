-- How many of a list's items that pass a test stand after one of them.
use Rattle.std.proofs.Common.{◌≡◌, ◌∙◌, ℕ, zero, suc, ◌+◌, ◌<◌, ◌≤◌, drop, length, refl, sym, ap, subst, arith, length-append, add-one, inl, inr}
use Rattle.std.specs.Prelude.{◌==◌, ◌⊎◌, Bool, true, false, cond, ◌&&◌, List, [], ◌∷◌, ◌++◌, count_by, filter, reverse, slice_get, Option, None, Some, option_map, if◌then◌else◌}
use Rattle.std.specs.Option.{option_and_then}
use Rattle.std.proofs.lemmas.Bool.{cases_lt, cases_Bool, eqb-true, eqb-false, cases_order}
use Rattle.std.proofs.lemmas.List.{append-nil, reverse-append}
use Rattle.std.proofs.lemmas.List.Elements.{filter-append}
use Rattle.std.proofs.lemmas.List.Sums.{sum_by-cons}

pub count-cons : {X : Type 0} (p : X → Bool) (x : X) (xs : List X) → count_by p (x ∷ xs) ≡ cond (p x) 1 0 + count_by p xs
count-cons p x xs = sum_by-cons (λ y. cond (p y) 1 0) x xs

pub count-yes : {X : Type 0} (p : X → Bool) (x : X) (xs : List X) → p x ≡ true → count_by p (x ∷ xs) ≡ 1 + count_by p xs
count-yes p x xs e = count-cons p x xs ∙ ap (λ b. cond b 1 0 + count_by p xs) e

pub count-no : {X : Type 0} (p : X → Bool) (x : X) (xs : List X) → p x ≡ false → count_by p (x ∷ xs) ≡ count_by p xs
count-no p x xs e = let same : count_by p (x ∷ xs) ≡ 0 + count_by p xs = count-cons p x xs ∙ ap (λ b. cond b 1 0 + count_by p xs) e in omega arith

count-more : {X : Type 0} (p : X → Bool) (x : X) (xs : List X) → count_by p xs ≤ count_by p (x ∷ xs)
count-more p x xs = omega (arith, count-cons p x xs)

-- how many items after the one at the index pass
unfoldable pub rank : {X : Type 0} → (X → Bool) → List X → ℕ → ℕ
rank p [] j = 0
rank p (x ∷ xs) zero = count_by p xs
rank p (x ∷ xs) (suc j) = rank p xs j

pub rank-drop : {X : Type 0} (p : X → Bool) (xs : List X) (j : ℕ) → count_by p (drop (j + 1) xs) ≡ rank p xs j
unfolding rank
rank-drop p xs j = rw (add-one j) (go p xs j) where
  go : {X : Type 0} (p : X → Bool) (xs : List X) (j : ℕ) → count_by p (drop (suc j) xs) ≡ rank p xs j
  go p [] j = refl
  go p (x ∷ xs) zero = refl
  go p (x ∷ []) (suc j) = refl
  go p (x ∷ y ∷ xs) (suc j) = go p (y ∷ xs) j

pub rank_most : {X : Type 0} (p : X → Bool) (xs : List X) (j : ℕ) → rank p xs j ≤ count_by p xs
unfolding rank
rank_most p [] j = omega arith
rank_most p (x ∷ xs) zero = count-more p x xs
rank_most p (x ∷ xs) (suc j) = omega (arith, rank_most p xs j, count-more p x xs)

pub rank_below : {X : Type 0} (p : X → Bool) (xs : List X) (j : ℕ) (x : X) → slice_get xs j ≡ Some x → p x ≡ true → rank p xs j < count_by p xs
unfolding rank
rank_below p [] j x e f = cc
rank_below p (y ∷ xs) zero x e f = let same : y ≡ x = cc in omega (arith, count-yes p y xs (ap p same ∙ f))
rank_below p (y ∷ xs) (suc j) x e f = omega (arith, rank_below p xs j x e f, count-more p y xs)

-- of two that pass the later one has fewer after it
pub rank_falls : {X : Type 0} (p : X → Bool) (xs : List X) (i k : ℕ) (x : X) → i < k → slice_get xs k ≡ Some x → p x ≡ true → rank p xs k < rank p xs i
unfolding rank
rank_falls p [] i k x less e f = cc
rank_falls p (y ∷ xs) i zero x less e f = absurd (omega arith)
rank_falls p (y ∷ xs) zero (suc k) x less e f = rank_below p xs k x e f
rank_falls p (y ∷ xs) (suc i) (suc k) x less e f = rank_falls p xs i k x (omega arith) e f

pub rank_level : {X : Type 0} (p : X → Bool) (xs : List X) (k i : ℕ) → k ≤ i → rank p xs i ≤ rank p xs k
unfolding rank
rank_level p [] k i less = omega arith
rank_level p (y ∷ xs) zero zero less = omega arith
rank_level p (y ∷ xs) zero (suc i) less = rank_most p xs i
rank_level p (y ∷ xs) (suc k) zero less = absurd (omega arith)
rank_level p (y ∷ xs) (suc k) (suc i) less = rank_level p xs k i (omega arith)

-- an item of the list that passes, with so many after it
pub record HasRank {X : Type 0} (p : X → Bool) (xs : List X) (k j : ℕ) : Type 0 where
  pub item : X
  pub stands : slice_get xs j ≡ Some item
  pub passes : p item ≡ true
  pub after : rank p xs j ≡ k

pub same_place : {X : Type 0} (p : X → Bool) (xs : List X) (k i j : ℕ) → HasRank p xs k i → HasRank p xs k j → i ≡ j
same_place p xs k i j a b = elim (cases_order i j) [
  | inl same ↦ same
  | inr unlike ↦ elim unlike [
    | inl less ↦ absurd (omega (arith, rank_falls p xs i j b.item less b.stands b.passes, a.after, b.after))
    | inr more ↦ absurd (omega (arith, rank_falls p xs j i a.item more a.stands a.passes, a.after, b.after))
  ]
]

pub filled : {X : Type 0} (p : X → Bool) (xs : List X) (k : ℕ) → k < count_by p xs → (j : ℕ) × HasRank p xs k j
unfolding rank
filled p [] k less = absurd (omega arith)
filled p (y ∷ xs) k less = go (cases_lt k (count_by p xs)) (filled p xs k) (cases_Bool (p y)) where
  go : (k < count_by p xs) ⊎ (count_by p xs ≤ k) → (k < count_by p xs → (j : ℕ) × HasRank p xs k j) → (p y ≡ true) ⊎ (p y ≡ false)
      → (j : ℕ) × HasRank p (y ∷ xs) k j
  go (inl fewer) rest f = let r = rest fewer in (suc r.0, record { item = r.1.item; stands = r.1.stands; passes = r.1.passes; after = r.1.after })
  go (inr more) rest (inl fits) = (zero, record { item = y; stands = refl; passes = fits; after = omega (arith, count-yes p y xs fits) })
  go (inr more) rest (inr fails) = absurd (omega (arith, count-no p y xs fails))

-- ---- the index of the item with so many after it

unfoldable pub index_with : {X : Type 0} → (X → Bool) → ℕ → List X → Option ℕ
index_with p k [] = None
index_with p k (x ∷ xs) = (if p x && (count_by p xs == k) then Some 0 else option_map (λ j. suc j) (index_with p k xs))

pub index_has : {X : Type 0} (p : X → Bool) (k : ℕ) (xs : List X) (j : ℕ) → index_with p k xs ≡ Some j → HasRank p xs k j
unfolding index_with rank
index_has p k [] j e = cc
index_has {X} p k (x ∷ xs) j e = go (p x) refl (count_by p xs == k) refl (index_with p k xs) refl e (index_has p k xs) where
  go : (a : Bool) → p x ≡ a → (b : Bool) → (count_by p xs == k) ≡ b → (o : Option ℕ) → index_with p k xs ≡ o
      → (if a && b then Some 0 else option_map (λ i. suc i) o) ≡ Some j
      → ((i : ℕ) → index_with p k xs ≡ Some i → HasRank p xs k i) → HasRank p (x ∷ xs) k j
  go true f true g o h e rest =
      let here : 0 ≡ j = cc in
      subst (λ n. HasRank p (x ∷ xs) k n) here (record { item = x; stands = refl; passes = f; after = eqb-true (count_by p xs) k g })
  go true f false g (Some i) h e rest = let r = rest i h in let there : suc i ≡ j = cc in
      subst (λ n. HasRank p (x ∷ xs) k n) there (record { item = r.item; stands = r.stands; passes = r.passes; after = r.after })
  go true f false g None h e rest = cc
  go false f b g (Some i) h e rest = let r = rest i h in let there : suc i ≡ j = cc in
      subst (λ n. HasRank p (x ∷ xs) k n) there (record { item = r.item; stands = r.stands; passes = r.passes; after = r.after })
  go false f b g None h e rest = cc

pub index_none : {X : Type 0} (p : X → Bool) (k : ℕ) (xs : List X) → index_with p k xs ≡ None → count_by p xs ≤ k
unfolding index_with
index_none p k [] e = omega arith
index_none {X} p k (x ∷ xs) e = go (p x) refl (count_by p xs == k) refl (index_with p k xs) refl e (index_none p k xs) where
  go : (a : Bool) → p x ≡ a → (b : Bool) → (count_by p xs == k) ≡ b → (o : Option ℕ) → index_with p k xs ≡ o
      → (if a && b then Some 0 else option_map (λ i. suc i) o) ≡ None
      → (index_with p k xs ≡ None → count_by p xs ≤ k) → count_by p (x ∷ xs) ≤ k
  go true f true g o h e rest = cc
  go true f false g (Some i) h e rest = cc
  go true f false g None h e rest =
      let unlike : count_by p xs ≡ k → ⊥ = eqb-false (count_by p xs) k g in
      omega (arith, rest h, count-yes p x xs f)
  go false f b g (Some i) h e rest = cc
  go false f b g None h e rest = omega (arith, rest h, count-no p x xs f)

pub index_at : {X : Type 0} (p : X → Bool) (k : ℕ) (xs : List X) (j : ℕ) → HasRank p xs k j → index_with p k xs ≡ Some j
index_at p k xs j h = go (index_with p k xs) refl where
  go : (o : Option ℕ) → index_with p k xs ≡ o → o ≡ Some j
  go None e = absurd (omega (arith, index_none p k xs e, rank_below p xs j h.item h.stands h.passes, h.after))
  go (Some i) e = ap Some (same_place p xs k i j (index_has p k xs i e) h)

-- ---- the same from the end

get-append : {X : Type 0} (xs : List X) (x : X) (k : ℕ) → (length xs ≡ k → ⊥) → slice_get (xs ++ x ∷ []) k ≡ slice_get xs k
get-append [] x zero unlike = absurd (unlike refl)
get-append [] x (suc k) unlike = refl
get-append (y ∷ xs) x zero unlike = refl
get-append (y ∷ xs) x (suc k) unlike = get-append xs x k (λ e. unlike (ap (λ n. suc n) e))

get-seam : {X : Type 0} (xs : List X) (x : X) (k : ℕ) → length xs ≡ k → slice_get (xs ++ x ∷ []) k ≡ Some x
get-seam [] x zero same = refl
get-seam [] x (suc k) same = absurd (omega arith)
get-seam (y ∷ xs) x zero same = absurd (omega arith)
get-seam (y ∷ xs) x (suc k) same = get-seam xs x k (omega arith)

there : {X : Type 0} (x : X) (xs : List X) (o : Option ℕ) → option_and_then (slice_get (x ∷ xs)) (option_map (λ j. suc j) o) ≡ option_and_then (slice_get xs) o
there x xs None = refl
there x xs (Some j) = refl

length-reverse_filter : {X : Type 0} (p : X → Bool) (xs : List X) → length (filter p (reverse xs)) ≡ count_by p xs
length-reverse_filter p [] = refl
length-reverse_filter {X} p (x ∷ xs) =
    ap (λ l. length (filter p l)) (reverse-append (x ∷ []) xs) ∙ ap length (filter-append p (reverse xs) (x ∷ []))
    ∙ length-append (filter p (reverse xs)) (filter p (x ∷ [])) ∙ go (length-reverse_filter p xs) (p x) refl where
      go : length (filter p (reverse xs)) ≡ count_by p xs → (b : Bool) → p x ≡ b
          → length (filter p (reverse xs)) + length (cond b (x ∷ []) []) ≡ count_by p (x ∷ xs)
      go long true e = omega (arith, count-yes p x xs e)
      go long false e = omega (arith, count-no p x xs e)

pub item-from_end : {X : Type 0} (p : X → Bool) (k : ℕ) (xs : List X) → slice_get (filter p (reverse xs)) k ≡ option_and_then (slice_get xs) (index_with p k xs)
unfolding index_with
item-from_end p k [] = refl
item-from_end {X} p k (x ∷ xs) =
    ap (λ l. slice_get (filter p l) k) (reverse-append (x ∷ []) xs) ∙ ap (λ l. slice_get l k) (filter-append p (reverse xs) (x ∷ []))
    ∙ go (item-from_end p k xs ∙ sym (there x xs (index_with p k xs))) (p x) (count_by p xs == k) refl where
      long : length (filter p (reverse xs)) ≡ count_by p xs
      long = length-reverse_filter p xs

      go : slice_get (filter p (reverse xs)) k ≡ option_and_then (slice_get (x ∷ xs)) (option_map (λ j. suc j) (index_with p k xs))
          → (a b : Bool) → (count_by p xs == k) ≡ b
          → slice_get (filter p (reverse xs) ++ cond a (x ∷ []) []) k ≡ option_and_then (slice_get (x ∷ xs)) (if a && b then Some 0 else option_map (λ j. suc j) (index_with p k xs))
      go rest true true g = get-seam (filter p (reverse xs)) x k (long ∙ eqb-true (count_by p xs) k g)
      go rest true false g = get-append (filter p (reverse xs)) x k (λ e. eqb-false (count_by p xs) k g (sym long ∙ e)) ∙ rest
      go rest false b g = ap (λ l. slice_get l k) (append-nil (filter p (reverse xs))) ∙ rest
