-- Lines without the spaces at their ends.
use Rattle.std.proofs.Common.{◌≡◌, ℕ, ◌+◌, ◌-◌, Bool, true, false, List, [], ◌∷◌, ◌++◌, length, take, refl, ap, sym, ◌∙◌, arith}
use Rattle.std.specs.Prelude.{reverse, take_while}
use Rattle.std.specs.List.{list_all}
use Rattle.std.proofs.lemmas.Bool.{and_parts, and_from}
use Rattle.std.proofs.lemmas.List.{append-nil, append_assoc, take_at, length-append, length-reverse, reverse-append, reverse-reverse}
use Rattle.std.proofs.lemmas.List.Folds.{list_all-append}
use Rattle.script_text.specs.Words.{AreSpaceBytes, IsTrimmed, begins_with_space, ends_with_space, is_space_byte, trimmed, without_back, without_front}
use Rattle.script_text.proofs.WordLemmas.{after_run, fails_space, front_dropped, rest_is, run_ends, run_is, run_passes, run_split, solid_front}

-- ---- a test of all, backwards

pub all-join : (p : ℕ → Bool) (xs ys : List ℕ) → list_all p xs ≡ true → list_all p ys ≡ true → list_all p (xs ++ ys) ≡ true
all-join p xs ys f g = list_all-append p xs ys ∙ and_from _ _ f g

pub all-reverse : (p : ℕ → Bool) (xs : List ℕ) → list_all p xs ≡ true → list_all p (reverse xs) ≡ true
all-reverse p [] h = refl
all-reverse p (x ∷ xs) h =
    ap (list_all p) (reverse-append (x ∷ []) xs)
    ∙ all-join p (reverse xs) (x ∷ []) (all-reverse p xs (and_parts _ _ h).1) (and_from _ _ (and_parts _ _ h).0 refl)

-- ---- spaces at the end

-- the bytes that are left, and the spaces
pub joined : (xs : List ℕ) → xs ≡ reverse (after_run is_space_byte (reverse xs)) ++ reverse (take_while is_space_byte (reverse xs))
joined xs =
    sym (reverse-reverse xs) ∙ ap reverse (sym (run_split is_space_byte (reverse xs)))
    ∙ reverse-append (take_while is_space_byte (reverse xs)) (after_run is_space_byte (reverse xs))

-- taking all but the last bytes
pub taken_front : (xs front back : List ℕ) (n : ℕ) → xs ≡ front ++ back → n ≡ length back → take (length xs - n) xs ≡ front
taken_front xs front back n e m =
    let long : length xs ≡ length front + length back = ap length e ∙ length-append front back in
    let count : length front ≡ length xs - n = omega arith in
    ap (take (length xs - n)) e ∙ take_at front back (length xs - n) count

pub back_dropped : (xs : List ℕ) → without_back xs ≡ reverse (after_run is_space_byte (reverse xs))
back_dropped xs =
    taken_front xs (reverse (after_run is_space_byte (reverse xs))) (reverse (take_while is_space_byte (reverse xs))) (length (take_while is_space_byte (reverse xs)))
    (joined xs) (sym (length-reverse (take_while is_space_byte (reverse xs))))

pub back_split : (xs : List ℕ) → xs ≡ without_back xs ++ reverse (take_while is_space_byte (reverse xs))
back_split xs = joined xs ∙ ap (λ front. front ++ reverse (take_while is_space_byte (reverse xs))) (sym (back_dropped xs))

pub back_spaces : (xs : List ℕ) → AreSpaceBytes (reverse (take_while is_space_byte (reverse xs)))
back_spaces xs = all-reverse is_space_byte (take_while is_space_byte (reverse xs)) (run_passes is_space_byte (reverse xs))

pub back_solid : (xs : List ℕ) → ends_with_space (without_back xs) ≡ false
back_solid xs =
    ap ends_with_space (back_dropped xs) ∙ ap begins_with_space (reverse-reverse (after_run is_space_byte (reverse xs)))
    ∙ solid_front (after_run is_space_byte (reverse xs)) (run_ends is_space_byte (reverse xs))

-- what spaces follow is left without them
pub without_spaces : (front back : List ℕ) → AreSpaceBytes back → ends_with_space front ≡ false → without_back (front ++ back) ≡ front
without_spaces front back spaces solid =
    taken_front (front ++ back) front back (length (take_while is_space_byte (reverse (front ++ back)))) refl
    (ap (λ xs. length (take_while is_space_byte xs)) (reverse-append front back)
    ∙ ap length (run_is is_space_byte (reverse back) (reverse front) (all-reverse is_space_byte back spaces) (fails_space (reverse front) solid))
    ∙ length-reverse back)

-- ---- parts of a text without spaces at its ends

pub begins_of_front : (xs ys : List ℕ) → begins_with_space (xs ++ ys) ≡ false → begins_with_space xs ≡ false
begins_of_front [] ys h = refl
begins_of_front (x ∷ xs) ys h = h

pub ends_of_back : (xs ys : List ℕ) → ends_with_space (xs ++ ys) ≡ false → ends_with_space ys ≡ false
ends_of_back xs ys h = begins_of_front (reverse ys) (reverse xs) (ap begins_with_space (sym (reverse-append xs ys)) ∙ h)

-- ---- both ends

pub trimmed_spelled : (line : List ℕ) → IsTrimmed line (trimmed line)
unfolding trimmed
trimmed_spelled line =
    let middle = without_front line in
    let back = reverse (take_while is_space_byte (reverse middle)) in
    let body = without_back middle in
    let front = take_while is_space_byte line in
    record {
      spelled = (
        front,
        back,
        run_passes is_space_byte line,
        back_spaces middle,
        sym (run_split is_space_byte line) ∙ ap (λ xs. front ++ xs) (back_split middle) ∙ sym (append_assoc front body back),
      );
      front = begins_of_front body back (ap begins_with_space (sym (back_split middle)) ∙ front_dropped line);
      back = back_solid middle;
    }

pub no_body : (line : List ℕ) → AreSpaceBytes line → trimmed line ≡ []
unfolding trimmed
no_body line spaces =
    ap (λ xs. without_back (without_front xs)) (sym (append-nil line)) ∙ ap without_back (rest_is is_space_byte line [] spaces tt)

some_body : (front back : List ℕ) (x : ℕ) (xs : List ℕ) → AreSpaceBytes front → AreSpaceBytes back → is_space_byte x ≡ false → ends_with_space (x ∷ xs) ≡ false
    → trimmed (front ++ ((x ∷ xs) ++ back)) ≡ x ∷ xs
unfolding trimmed
some_body front back x xs f b solid ends = ap without_back (rest_is is_space_byte front ((x ∷ xs) ++ back) f solid) ∙ without_spaces (x ∷ xs) back b ends

-- a line has one body
pub trimmed_is : (line body : List ℕ) → IsTrimmed line body → trimmed line ≡ body
trimmed_is line [] h =
    let front = h.spelled.0 in
    let back = h.spelled.1 in
    let spaces : AreSpaceBytes line = ap (list_all is_space_byte) (h.spelled.4 ∙ ap (λ xs. xs ++ back) (append-nil front)) ∙ all-join is_space_byte front back h.spelled.2 h.spelled.3 in
    no_body line spaces
trimmed_is line (x ∷ xs) h =
    let front = h.spelled.0 in
    let back = h.spelled.1 in
    ap trimmed (h.spelled.4 ∙ append_assoc front (x ∷ xs) back) ∙ some_body front back x xs h.spelled.2 h.spelled.3 h.front h.back
