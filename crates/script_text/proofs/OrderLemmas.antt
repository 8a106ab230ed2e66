-- Words in order, as a relation and one after another.
use Rattle.std.proofs.Common.{◌≡◌, ℕ, zero, suc, ◌<◌, ◌≤◌, false, List, [], ◌∷◌, ◌++◌, length, refl, ap, sym, subst, ◌∙◌, arith}
use Rattle.std.specs.Prelude.{take_while}
use Rattle.std.proofs.lemmas.Bool.{and_parts, not-false, not-true}
use Rattle.std.proofs.lemmas.List.{append_assoc, length-append, length-drop}
use Rattle.script_text.specs.Words.{AreInOrder, IsGap, IsSolid, after_word, begins_with_space, ends_with_space, first_word, is_space_byte, is_word_byte, without_front, words_of}
use Rattle.script_text.proofs.TrimLemmas.{ends_of_back}
use Rattle.script_text.proofs.WordLemmas.{Fails, after_run, fails_space, first_word-cons, front_dropped, no_word_byte, rest_is, run_ends, run_is, run_passes, run_split, taken_first, words_first}

-- ---- the first word

pub after_gap : (gap rest : List ℕ) → IsGap gap rest → Fails is_word_byte (gap ++ rest)
after_gap [] rest h = subst (Fails is_word_byte) (sym (h.some refl)) tt
after_gap (g ∷ gs) rest h = no_word_byte g (and_parts _ _ h.spaces).0

pub first_is : (body word gap rest : List ℕ) → body ≡ (word ++ gap) ++ rest → IsSolid word → IsGap gap rest → first_word body ≡ word
first_is body word gap rest e solid h =
    ap first_word (e ∙ append_assoc word gap rest) ∙ run_is is_word_byte word (gap ++ rest) solid.solid (after_gap gap rest h)

pub after_is : (body word gap rest : List ℕ) → body ≡ (word ++ gap) ++ rest → IsSolid word → IsGap gap rest → after_word body ≡ rest
after_is body word gap rest e solid h =
    ap after_word (e ∙ append_assoc word gap rest)
    ∙ ap without_front (rest_is is_word_byte word (gap ++ rest) solid.solid (after_gap gap rest h))
    ∙ rest_is is_space_byte gap rest h.spaces (fails_space rest h.whole)

pub order_first : (body word : List ℕ) (words : List (List ℕ)) (text : List ℕ) → AreInOrder body (word ∷ words) text → first_word body ≡ word
order_first body word words text h = first_is body word h.1.0 h.1.1 h.1.2 h.0 h.1.3

pub order_after : (body word : List ℕ) (words : List (List ℕ)) (text : List ℕ) → AreInOrder body (word ∷ words) text → AreInOrder (after_word body) words text
order_after body word words text h =
    let P : List ℕ → Type 0 = λ rest. AreInOrder rest words text in
    subst P (sym (after_is body word h.1.0 h.1.1 h.1.2 h.0 h.1.3)) h.1.4

-- what follows the first word ends as all does
pub after_ends : (body : List ℕ) → ends_with_space body ≡ false → ends_with_space (after_word body) ≡ false
after_ends body h =
    let word = first_word body in
    let behind = after_run is_word_byte body in
    let gap = take_while is_space_byte behind in
    ends_of_back gap (after_word body) (ap ends_with_space (run_split is_space_byte behind)
    ∙ ends_of_back word behind (ap ends_with_space (run_split is_word_byte body) ∙ h))

-- ---- one more word in front

no_gap : (behind : List ℕ) → Fails is_word_byte behind → take_while is_space_byte behind ≡ [] → without_front behind ≡ []
no_gap [] f e = refl
no_gap (x ∷ xs) f e = let some = taken_first is_space_byte x xs (not-false (is_space_byte x) f) in let no : x ∷ take_while is_space_byte xs ≡ [] = sym some ∙ e in cc

solid_first : (body : List ℕ) → begins_with_space body ≡ false → 0 < length body → IsSolid (first_word body)
solid_first [] f some = absurd (omega arith)
solid_first (x ∷ xs) f some = record {
  some = let e : length (first_word (x ∷ xs)) ≡ suc (length (first_word xs)) = ap length (first_word-cons x xs f) in omega arith;
  solid = run_passes is_word_byte (x ∷ xs);
}

pub order_more : (body : List ℕ) (words : List (List ℕ)) (text : List ℕ) → begins_with_space body ≡ false → 0 < length body
    → AreInOrder (after_word body) words text → AreInOrder body (first_word body ∷ words) text
order_more body words text f some h =
    let word = first_word body in
    let behind = after_run is_word_byte body in
    let gap = take_while is_space_byte behind in (
      solid_first body f some,
      (
        gap,
        after_word body,
        sym (run_split is_word_byte body) ∙ ap (λ xs. word ++ xs) (sym (run_split is_space_byte behind)) ∙ sym (append_assoc word gap (after_word body)),
        record { spaces = run_passes is_space_byte behind; some = no_gap behind (run_ends is_word_byte body); whole = front_dropped behind },
        h,
      ),
    )

-- ---- every word

after_shorter : (body : List ℕ) → begins_with_space body ≡ false → 0 < length body → length (after_word body) < length body
after_shorter body f some =
    let word = (solid_first body f some).some in
    let behind = after_run is_word_byte body in
    let a = length-drop (length (first_word body)) body in
    let b = length-drop (length (take_while is_space_byte behind)) behind in
    omega arith

words_within : (n : ℕ) (body : List ℕ) → length body ≤ n → begins_with_space body ≡ false → AreInOrder body (words_of body) []
words_within n [] short f = refl
words_within zero (x ∷ xs) short f = absurd (omega arith)
words_within (suc n) (x ∷ xs) short f =
    let body : List ℕ = x ∷ xs in
    let some : 0 < length body = omega arith in
    let shorter = after_shorter body f some in
    let P : List (List ℕ) → Type 0 = λ words. AreInOrder body words [] in
    subst P (sym (words_first body f some))
    (order_more body (words_of (after_word body)) [] f some (words_within n (after_word body) (omega arith) (front_dropped (after_run is_word_byte body))))

pub words_in_order : (body : List ℕ) → begins_with_space body ≡ false → AreInOrder body (words_of body) []
words_in_order body f = words_within (length body) body (omega arith) f

solid_begins : (word more : List ℕ) → IsSolid word → begins_with_space (word ++ more) ≡ false
solid_begins [] more h = let some = h.some in absurd (omega arith)
solid_begins (w ∷ ws) more h = not-true (is_space_byte w) (and_parts _ _ h.solid).0

solid_length : (word more : List ℕ) → IsSolid word → 0 < length (word ++ more)
solid_length word more h = let some = h.some in let l = length-append word more in omega arith

-- a text that begins with a word begins with no space, and is not empty
pub order_begins : (body word : List ℕ) (words : List (List ℕ)) (text : List ℕ) → AreInOrder body (word ∷ words) text → begins_with_space body ≡ false
order_begins body word words text h =
    ap begins_with_space (h.1.2 ∙ append_assoc word h.1.0 h.1.1) ∙ solid_begins word (h.1.0 ++ h.1.1) h.0

pub order_length : (body word : List ℕ) (words : List (List ℕ)) (text : List ℕ) → AreInOrder body (word ∷ words) text → 0 < length body
order_length body word words text h =
    subst (λ (xs : List ℕ). 0 < length xs) (sym (h.1.2 ∙ append_assoc word h.1.0 h.1.1)) (solid_length word (h.1.0 ++ h.1.1) h.0)

pub words_are : (words : List (List ℕ)) (body : List ℕ) → AreInOrder body words [] → words_of body ≡ words
words_are [] body h = ap words_of h
words_are (word ∷ words) body h =
    words_first body (order_begins body word words [] h) (order_length body word words [] h)
    ∙ ap (λ w. w ∷ words_of (after_word body)) (order_first body word words [] h)
    ∙ ap (λ ws. word ∷ ws) (words_are words (after_word body) (order_after body word words [] h))
