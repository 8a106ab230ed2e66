-- Words, and the spaces between them.
use Rattle.std.proofs.Common.{◌≡◌, ℕ, ◌<◌, Bool, true, false, cond, List, [], ◌∷◌, ◌++◌, length, drop, refl, ap, sym, ◌∙◌, inl, inr, arith}
use Rattle.std.specs.Prelude.{◌==◌, not, take_while, if◌then◌else◌}
use Rattle.std.specs.List.{list_all, onto_first}
use Rattle.std.proofs.lemmas.Bool.{and_parts, cases_Bool}
use Rattle.std.proofs.lemmas.Bool.Decides.{nat_tests}
use Rattle.std.proofs.lemmas.List.{drop_at}
use Rattle.std.proofs.lemmas.List.Sums.{take_while-cons}
use Rattle.script_text.specs.Words.{after_word, begins_with_space, begins_with_word, first_word, is_space_byte, is_word_byte, without_front, words_of}

-- ---- runs of bytes that pass a test

pub taken_first : (p : ℕ → Bool) (x : ℕ) (xs : List ℕ) → p x ≡ true → take_while p (x ∷ xs) ≡ x ∷ take_while p xs
taken_first p x xs t = take_while-cons p x xs ∙ ap (λ b. let none : List ℕ = [] in cond b (x ∷ take_while p xs) none) t

pub taken_none : (p : ℕ → Bool) (x : ℕ) (xs : List ℕ) → p x ≡ false → take_while p (x ∷ xs) ≡ []
taken_none p x xs f = take_while-cons p x xs ∙ ap (λ b. let none : List ℕ = [] in cond b (x ∷ take_while p xs) none) f

-- what follows a run
abbrev pub after_run : (ℕ → Bool) → List ℕ → List ℕ
after_run p xs = drop (length (take_while p xs)) xs

pub after_first : (p : ℕ → Bool) (x : ℕ) (xs : List ℕ) → p x ≡ true → after_run p (x ∷ xs) ≡ after_run p xs
after_first p x xs t = ap (λ run. drop (length run) (x ∷ xs)) (taken_first p x xs t)

pub after_none : (p : ℕ → Bool) (x : ℕ) (xs : List ℕ) → p x ≡ false → after_run p (x ∷ xs) ≡ x ∷ xs
after_none p x xs f = ap (λ run. drop (length run) (x ∷ xs)) (taken_none p x xs f)

-- the first byte, if there is one, fails the test
abbrev pub Fails : (ℕ → Bool) → List ℕ → Type 0
Fails p [] = Unit {0}
Fails p (x ∷ xs) = p x ≡ false

pub run_split : (p : ℕ → Bool) (xs : List ℕ) → take_while p xs ++ after_run p xs ≡ xs
run_split p [] = refl
run_split p (x ∷ xs) = elim (cases_Bool (p x)) [
  | inl t ↦ rw (after_first p x xs t, taken_first p x xs t) (ap (λ l. x ∷ l) (run_split p xs))
  | inr f ↦ rw (after_none p x xs f, taken_none p x xs f) refl
]

pub run_ends : (p : ℕ → Bool) (xs : List ℕ) → Fails p (after_run p xs)
run_ends p [] = tt
run_ends p (x ∷ xs) = elim (cases_Bool (p x)) [
  | inl t ↦ rw (after_first p x xs t) (run_ends p xs)
  | inr f ↦ rw (after_none p x xs f) f
]

pub run_passes : (p : ℕ → Bool) (xs : List ℕ) → list_all p (take_while p xs) ≡ true
run_passes p [] = refl
run_passes p (x ∷ xs) = elim (cases_Bool (p x)) [
  | inl t ↦ rw (taken_first p x xs t, t) (run_passes p xs)
  | inr f ↦ rw (taken_none p x xs f) refl
]

-- the run is the front that passes, where what follows fails
pub run_is : (p : ℕ → Bool) (xs ys : List ℕ) → list_all p xs ≡ true → Fails p ys → take_while p (xs ++ ys) ≡ xs
run_is p [] [] h f = refl
run_is p [] (y ∷ ys) h f = taken_none p y ys f
run_is p (x ∷ xs) ys h f = taken_first p x (xs ++ ys) (and_parts _ _ h).0 ∙ ap (λ l. x ∷ l) (run_is p xs ys (and_parts _ _ h).1 f)

pub rest_is : (p : ℕ → Bool) (xs ys : List ℕ) → list_all p xs ≡ true → Fails p ys → after_run p (xs ++ ys) ≡ ys
rest_is p xs ys h f = ap (λ run. drop (length run) (xs ++ ys)) (run_is p xs ys h f) ∙ drop_at xs ys (length xs) refl

-- ---- spaces in front

pub solid_front : (xs : List ℕ) → Fails is_space_byte xs → begins_with_space xs ≡ false
solid_front [] f = refl
solid_front (x ∷ xs) f = f

pub fails_space : (xs : List ℕ) → begins_with_space xs ≡ false → Fails is_space_byte xs
fails_space [] f = tt
fails_space (x ∷ xs) f = f

pub front_dropped : (xs : List ℕ) → begins_with_space (without_front xs) ≡ false
front_dropped xs = solid_front (without_front xs) (run_ends is_space_byte xs)

-- ---- every word

words_without_front : (xs : List ℕ) → words_of xs ≡ words_of (without_front xs)
words_without_front [] = refl
words_without_front (x ∷ xs) = elim (cases_Bool (is_space_byte x)) [
  | inl t ↦ rw (after_first is_space_byte x xs t, t) (words_without_front xs)
  | inr f ↦ rw (after_none is_space_byte x xs f) refl
]

pub word_byte : (x : ℕ) → is_space_byte x ≡ false → is_word_byte x ≡ true
word_byte x f = ap not f

pub no_word_byte : (x : ℕ) → is_space_byte x ≡ true → is_word_byte x ≡ false
no_word_byte x t = ap not t

pub first_word-cons : (x : ℕ) (xs : List ℕ) → is_space_byte x ≡ false → first_word (x ∷ xs) ≡ x ∷ first_word xs
first_word-cons x xs f = taken_first is_word_byte x xs (word_byte x f)

pub after_word-cons : (x : ℕ) (xs : List ℕ) → is_space_byte x ≡ false → after_word (x ∷ xs) ≡ after_word xs
after_word-cons x xs f = ap without_front (after_first is_word_byte x xs (word_byte x f))

-- the words where the first byte is of one
abbrev more_words : ℕ → List ℕ → Bool → List (List ℕ)
more_words x xs more = if more then onto_first x (words_of xs) else (x ∷ []) ∷ words_of xs

words_of-cons : (x : ℕ) (xs : List ℕ) → is_space_byte x ≡ false → words_of (x ∷ xs) ≡ more_words x xs (begins_with_word xs)
words_of-cons x xs f = ap (λ b. if b then words_of xs else more_words x xs (begins_with_word xs)) f

split-cons : (x : ℕ) (xs : List ℕ) → is_space_byte x ≡ false
    → first_word (x ∷ xs) ∷ words_of (after_word (x ∷ xs)) ≡ (x ∷ first_word xs) ∷ words_of (after_word xs)
split-cons x xs f =
    ap (λ w. w ∷ words_of (after_word (x ∷ xs))) (first_word-cons x xs f) ∙ ap (λ r. (x ∷ first_word xs) ∷ words_of r) (after_word-cons x xs f)

-- the words of a text that begins with one
pub words_split : (x : ℕ) (xs : List ℕ) → is_space_byte x ≡ false → words_of (x ∷ xs) ≡ first_word (x ∷ xs) ∷ words_of (after_word (x ∷ xs))
words_split x [] f = words_of-cons x [] f ∙ sym (split-cons x [] f)
words_split x (y ∷ ys) f = elim (cases_Bool (is_space_byte y)) [
  | inl t ↦
      let none : first_word (y ∷ ys) ≡ [] = taken_none is_word_byte y ys (no_word_byte y t) in
      let after : after_word (y ∷ ys) ≡ without_front (y ∷ ys) = ap without_front (after_none is_word_byte y ys (no_word_byte y t)) in
      words_of-cons x (y ∷ ys) f
      ∙ ap (more_words x (y ∷ ys)) (no_word_byte y t)
      ∙ ap (λ ws. (x ∷ []) ∷ ws) (words_without_front (y ∷ ys) ∙ ap words_of (sym after))
      ∙ ap (λ w. (x ∷ w) ∷ words_of (after_word (y ∷ ys))) (sym none)
      ∙ sym (split-cons x (y ∷ ys) f)
  | inr s ↦
      words_of-cons x (y ∷ ys) f
      ∙ ap (more_words x (y ∷ ys)) (word_byte y s)
      ∙ ap (onto_first x) (words_split y ys s)
      ∙ sym (split-cons x (y ∷ ys) f)
]

-- the same of a text that is not empty and begins with no space
pub words_first : (xs : List ℕ) → begins_with_space xs ≡ false → 0 < length xs → words_of xs ≡ first_word xs ∷ words_of (after_word xs)
words_first [] f some = absurd (omega arith)
words_first (x ∷ xs) f some = words_split x xs f

pub some_bytes : (xs : List ℕ) → (length xs == 0) ≡ false → 0 < length xs
some_bytes xs h = grind (arith, nat_tests)
