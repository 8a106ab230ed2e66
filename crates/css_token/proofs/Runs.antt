-- The longest run of a class at the front of a list.
use Rattle.std.proofs.Common.{◌≡◌, ℕ, ◌+◌, ◌<◌, ◌≤◌, suc, Bool, true, false, List, [], ◌∷◌, ◌++◌, length, get_or, take, drop, ap, inl, inr, refl, sym, ◌∙◌, subst, arith}
use Rattle.std.specs.List.{prefix_len, list_all}
use Rattle.std.proofs.lemmas.Bool.{and_parts, and_from, false≢true, cond-true, cond-false, cases_Bool, cases_lt}
use Rattle.std.proofs.lemmas.List.{drop_at, get_or_past, take_more}
use Rattle.std.proofs.lemmas.List.Folds.{length-prefix_len}
use Rattle.css_token.specs.Productions.{IsRun}

-- bytes of the class are within the run
pub run_reaches : (p : ℕ → Bool) (xs ys : List ℕ) → list_all p xs ≡ true → length xs ≤ prefix_len p (xs ++ ys)
run_reaches p [] ys all = omega arith
run_reaches p (x ∷ xs) ys all =
    let parts = and_parts (p x) (list_all p xs) all in
    let rest = run_reaches p xs ys parts.1 in
    let here : prefix_len p (x ∷ xs ++ ys) ≡ 1 + prefix_len p (xs ++ ys) = cond-true (p x) _ _ parts.0 in
    omega arith

-- the run ends before a byte that is not of the class
pub run_stops : (p : ℕ → Bool) (xs : List ℕ) (y : ℕ) (ys : List ℕ) → list_all p xs ≡ true → p y ≡ false → prefix_len p (xs ++ y ∷ ys) ≡ length xs
run_stops p [] y ys all stops = cond-false (p y) _ _ stops
run_stops p (x ∷ xs) y ys all stops =
    let parts = and_parts (p x) (list_all p xs) all in
    let rest = run_stops p xs y ys parts.1 stops in
    let here : prefix_len p (x ∷ xs ++ y ∷ ys) ≡ 1 + prefix_len p (xs ++ y ∷ ys) = cond-true (p x) _ _ parts.0 in
    omega arith

-- a run that does not begin has no bytes
pub no_run : (p : ℕ → Bool) (xs : List ℕ) → p 0 ≡ false → p (get_or xs 0 0) ≡ false → prefix_len p xs ≡ 0
no_run p [] none stops = refl
no_run p (x ∷ xs) none stops = cond-false (p x) _ _ stops

-- a run that begins has some
pub some_run : (p : ℕ → Bool) (xs : List ℕ) → p 0 ≡ false → p (get_or xs 0 0) ≡ true → 0 < prefix_len p xs
some_run p [] none begins = absurd (false≢true (sym none ∙ begins))
some_run p (x ∷ xs) none begins =
    let here : prefix_len p (x ∷ xs) ≡ 1 + prefix_len p xs = cond-true (p x) _ _ begins in
    omega arith

-- the run's bytes are of the class
pub run_all : (p : ℕ → Bool) (xs : List ℕ) → list_all p (take (prefix_len p xs) xs) ≡ true
run_all p [] = refl
run_all p (x ∷ xs) = elim (cases_Bool (p x)) [
  | inl is ↦
      let here : prefix_len p (x ∷ xs) ≡ suc (prefix_len p xs) = cond-true (p x) _ _ is ∙ omega arith in
      subst (λ n. list_all p (take n (x ∷ xs)) ≡ true) (sym here) (and_from (p x) _ is (run_all p xs))
  | inr isnt ↦
      let here : prefix_len p (x ∷ xs) ≡ 0 = cond-false (p x) _ _ isnt in
      subst (λ n. list_all p (take n (x ∷ xs)) ≡ true) (sym here) refl
]

-- what stands after a run that ends there
pub after_run : (p : ℕ → Bool) (xs : List ℕ) (y : ℕ) (ys : List ℕ) → list_all p xs ≡ true → p y ≡ false → drop (prefix_len p (xs ++ y ∷ ys)) (xs ++ y ∷ ys) ≡ y ∷ ys
after_run p xs y ys all stops = drop_at xs (y ∷ ys) _ (sym (run_stops p xs y ys all stops))

-- a class that has none of the bytes of another
pub apart_from : (p q : ℕ → Bool) (b : ℕ) → (q b ≡ true → p b ≡ false) → p b ≡ true → q b ≡ false
apart_from p q b apart passes = elim (cases_Bool (q b)) [ inl is ↦ absurd (false≢true (sym (apart is) ∙ passes)) | inr isnt ↦ isnt ]

-- what begins a run makes one
pub run_sound : (p : ℕ → Bool) (xs : List ℕ) → p 0 ≡ false → p (get_or xs 0 0) ≡ true → IsRun p (take (prefix_len p xs) xs)
run_sound p xs none begins = (omega (arith, length-prefix_len p xs, some_run p xs none begins), run_all p xs)

-- a byte that is there, and what stands after it
pub first_and_rest : (xs : List ℕ) (b : ℕ) → get_or xs 0 0 ≡ b → 0 < b → xs ≡ b ∷ drop 1 xs
first_and_rest [] b first some = absurd (omega arith)
first_and_rest (x ∷ xs) b first some = ap (λ y. y ∷ xs) first

-- a front with one byte more
pub take-one-more : (b n : ℕ) (xs : List ℕ) → take (1 + n) (b ∷ xs) ≡ b ∷ take n xs
take-one-more b n xs = let e : 1 + n ≡ suc n = omega arith in rw e refl

-- a byte that is no 0 is within the list
pub byte_within : (xs : List ℕ) (n b : ℕ) → get_or xs n 0 ≡ b → 0 < b → n < length xs
byte_within xs n b at some = elim (cases_lt n (length xs)) [
  | inl within ↦ within
  | inr past ↦ absurd (omega (arith, get_or_past xs n 0 past))
]

-- a front that ends with a byte
pub take_with_byte : (xs : List ℕ) (n b : ℕ) → get_or xs n 0 ≡ b → 0 < b → take (n + 1) xs ≡ take n xs ++ b ∷ []
take_with_byte xs n b at some = take_more xs n 0 (byte_within xs n b at some) ∙ ap (λ x. take n xs ++ x ∷ []) at
