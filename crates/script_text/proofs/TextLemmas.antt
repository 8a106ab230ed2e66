-- Parts of a text that are texts.
use Rattle.std.proofs.Common.{◌≡◌, ℕ, ◌<◌, true, false, List, [], ◌∷◌, ◌++◌, length, get_or, refl, sym, subst, arith}
use Rattle.std.specs.Prelude.{take_while}
use Rattle.std.specs.Str.{IsAscii, IsCharBoundary, IsUtf8}
use Rattle.std.proofs.lemmas.Bool.{and_parts}
use Rattle.std.proofs.lemmas.Bool.Decides.{nat_tests}
use Rattle.std.proofs.lemmas.List.{append-nil, drop_at, take_at, length-append, get_or_at}
use Rattle.std.proofs.lemmas.Str.{IsCharBoundary-after_ascii, IsCharBoundary-before_ascii, IsUtf8-drop, IsUtf8-from_ascii, IsUtf8-nil, IsUtf8-take}
use Rattle.std.proofs.lemmas.Str.Ascii.{IsAscii-cons, IsAscii-nil}
use Rattle.script_text.specs.Words.{AreSpaceBytes, IsTrimmed, after_word, first_word, is_space_byte, is_word_byte, trimmed}
use Rattle.script_text.proofs.TrimLemmas.{trimmed_spelled}
use Rattle.script_text.proofs.WordLemmas.{Fails, after_run, run_ends, run_passes, run_split}

space_ascii : (b : ℕ) → is_space_byte b ≡ true → b < 128
space_ascii b h = grind (arith, nat_tests)

no_word_ascii : (b : ℕ) → is_word_byte b ≡ false → b < 128
no_word_ascii b h = grind (arith, nat_tests)

spaces_are_ascii : (xs : List ℕ) → AreSpaceBytes xs → IsAscii xs
spaces_are_ascii [] h = IsAscii-nil
spaces_are_ascii (x ∷ xs) h = IsAscii-cons x xs (space_ascii x (and_parts _ _ h).0) (spaces_are_ascii xs (and_parts _ _ h).1)

pub spaces_are_utf8 : (xs : List ℕ) → AreSpaceBytes xs → IsUtf8 xs
spaces_are_utf8 xs h = IsUtf8-from_ascii xs (spaces_are_ascii xs h)

-- ---- cuts

abbrev pub BeginsAscii : List ℕ → Type 0
BeginsAscii [] = Unit {0}
BeginsAscii (x ∷ xs) = x < 128

boundary : (xs : List ℕ) (y : ℕ) (ys : List ℕ) → y < 128 → IsCharBoundary (xs ++ (y ∷ ys)) (length xs)
boundary xs y ys a =
    let long = length-append xs (y ∷ ys) in
    let first : get_or (xs ++ (y ∷ ys)) (length xs) 0 ≡ y = get_or_at xs y ys 0 (length xs) refl in
    IsCharBoundary-before_ascii (xs ++ (y ∷ ys)) (length xs) (omega arith) (omega arith)

pub tail_is_utf8 : (xs ys : List ℕ) → IsUtf8 (xs ++ ys) → BeginsAscii ys → IsUtf8 ys
tail_is_utf8 xs [] u a = IsUtf8-nil
tail_is_utf8 xs (y ∷ ys) u a =
    let P : List ℕ → Type 0 = λ bs. IsUtf8 bs in
    subst P (drop_at xs (y ∷ ys) (length xs) refl) (IsUtf8-drop (xs ++ (y ∷ ys)) (length xs) u (boundary xs y ys a))

pub front_is_utf8 : (xs ys : List ℕ) → IsUtf8 (xs ++ ys) → BeginsAscii ys → IsUtf8 xs
front_is_utf8 xs [] u a = let P : List ℕ → Type 0 = λ bs. IsUtf8 bs in subst P (append-nil xs) u
front_is_utf8 xs (y ∷ ys) u a =
    let P : List ℕ → Type 0 = λ bs. IsUtf8 bs in
    subst P (take_at xs (y ∷ ys) (length xs) refl) (IsUtf8-take (xs ++ (y ∷ ys)) (length xs) u (boundary xs y ys a))

pub after_spaces_is_utf8 : (xs ys : List ℕ) → AreSpaceBytes xs → IsUtf8 (xs ++ ys) → IsUtf8 ys
after_spaces_is_utf8 [] ys h u = u
after_spaces_is_utf8 (x ∷ xs) ys h u =
    let small = space_ascii x (and_parts _ _ h).0 in
    after_spaces_is_utf8 xs ys (and_parts _ _ h).1
    (IsUtf8-drop (x ∷ (xs ++ ys)) 1 u (IsCharBoundary-after_ascii (x ∷ (xs ++ ys)) 0 u (omega arith) small))

-- ---- what follows a word

pub no_word_begins : (xs : List ℕ) → Fails is_word_byte xs → BeginsAscii xs
no_word_begins [] f = tt
no_word_begins (x ∷ xs) f = no_word_ascii x f

pub spaces_begin : (xs : List ℕ) → AreSpaceBytes xs → BeginsAscii xs
spaces_begin [] h = tt
spaces_begin (x ∷ xs) h = space_ascii x (and_parts _ _ h).0

after_word_is_utf8 : (body : List ℕ) → IsUtf8 body → IsUtf8 (after_word body)
after_word_is_utf8 body u =
    let P : List ℕ → Type 0 = λ bs. IsUtf8 bs in
    let behind = after_run is_word_byte body in
    let tail = tail_is_utf8 (first_word body) behind (subst P (sym (run_split is_word_byte body)) u) (no_word_begins behind (run_ends is_word_byte body)) in
    after_spaces_is_utf8 (take_while is_space_byte behind) (after_word body) (run_passes is_space_byte behind) (subst P (sym (run_split is_space_byte behind)) tail)

pub body_is_utf8 : (line body : List ℕ) → IsTrimmed line body → IsUtf8 line → IsUtf8 body
body_is_utf8 line body h u =
    let P : List ℕ → Type 0 = λ bs. IsUtf8 bs in
    let front = h.spelled.0 in
    let back = h.spelled.1 in
    after_spaces_is_utf8 front body h.spelled.2 (front_is_utf8 (front ++ body) back (subst P h.spelled.4 u) (spaces_begin back h.spelled.3))

-- the rest of a text line, after its second word, is a text
pub rest_is_utf8 : (line : List ℕ) → IsUtf8 line → IsUtf8 (after_word (after_word (trimmed line)))
rest_is_utf8 line u = after_word_is_utf8 (after_word (trimmed line)) (after_word_is_utf8 (trimmed line) (body_is_utf8 line (trimmed line) (trimmed_spelled line) u))
