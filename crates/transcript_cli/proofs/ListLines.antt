-- The lines of a list's items, one after the other.
use Rattle.std.proofs.Common.{◌≡◌, ℕ, ◌+◌, ◌<◌, ◌≤◌, refl, ap, sym, ◌∙◌, List, [], ◌∷◌, ◌++◌, append_assoc, append-nil, length, take, get_or, Bool, true, false}
use Rattle.std.specs.Prelude.{flat_map, filter, if◌then◌else◌}
use Rattle.std.proofs.lemmas.List.{take_all, take_more}
use Rattle.transcript_cli.specs.Listing.{line_if}

lines_joined : {A : Type 0} (f : A → List ℕ) (xs ys : List A) → flat_map f (xs ++ ys) ≡ flat_map f xs ++ flat_map f ys
lines_joined f [] ys = refl
lines_joined f (x ∷ xs) ys = ap (λ (text : List ℕ). f x ++ text) (lines_joined f xs ys) ∙ sym (append_assoc (f x) (flat_map f xs) (flat_map f ys))

-- one more item
pub line_added : {A : Type 0} (f : A → List ℕ) (xs : List A) (i : ℕ) (x : A) (start so_far now : List ℕ) → i < length xs → x ≡ get_or xs i x
    → so_far ≡ start ++ flat_map f (take i xs) → now ≡ so_far ++ f x → now ≡ start ++ flat_map f (take (i + 1) xs)
line_added f xs i x start so_far now below is before added =
    added
    ∙ ap (λ (text : List ℕ). text ++ f x) before
    ∙ append_assoc start (flat_map f (take i xs)) (f x)
    ∙ ap (λ (text : List ℕ). start ++ text)
    (ap (λ (text : List ℕ). flat_map f (take i xs) ++ text) (sym (append-nil (f x)) ∙ ap (λ y. f y ++ []) is)
    ∙ sym (lines_joined f (take i xs) (get_or xs i x ∷ []))
    ∙ ap (flat_map f) (sym (take_more xs i x below)))

-- those of the items that pass the test
pub lines_filtered : {A : Type 0} (test : A → Bool) (f : A → List ℕ) (xs : List A) → flat_map (line_if test f) xs ≡ flat_map f (filter test xs)
lines_filtered test f [] = refl
lines_filtered test f (x ∷ xs) = by_test (test x) (lines_filtered test f xs) where
  by_test : (b : Bool) → flat_map (line_if test f) xs ≡ flat_map f (filter test xs)
      → (if b then f x else []) ++ flat_map (line_if test f) xs ≡ flat_map f (if b then x ∷ filter test xs else filter test xs)
  by_test true rest = ap (λ (text : List ℕ). f x ++ text) rest
  by_test false rest = rest

-- at the end of the list
pub lines_of_all : {A : Type 0} (test : A → Bool) (f : A → List ℕ) (xs : List A) (i : ℕ) (start now : List ℕ) → length xs ≤ i → now ≡ start ++ flat_map (line_if test f) (take i xs)
    → now ≡ start ++ flat_map f (filter test xs)
lines_of_all test f xs i start now end so_far =
    so_far ∙ ap (λ (text : List ℕ). start ++ text) (ap (flat_map (line_if test f)) (take_all i xs end) ∙ lines_filtered test f xs)
