-- The lines of a transcript, cut off one by one and counted.
use Rattle.std.proofs.Common.{◌≡◌, ◌≢◌, ℕ, suc, ◌+◌, ◌-◌, ◌<◌, ◌≤◌, min, Bool, false, true, List, [], ◌∷◌, length, take, drop, refl, sym, ap, ◌∙◌, ⊎_elim, arith, ne_eqb, eq-eqb, cond}
use Rattle.std.specs.Prelude.{◌==◌, not}
use Rattle.std.specs.List.{count_by, position_or_len}
use Rattle.std.proofs.lemmas.Bool.{cases_eq, cond-false, cond-true}
use Rattle.std.proofs.lemmas.List.Sums.{count_by-le-length, sum_by-cons}
use Rattle.text_io.specs.Lines.{cuts_of, onto_first}
use Rattle.text_io.proofs.LineLemmas.{cuts_of-feed, cuts_of-nil, cuts_of-other}

abbrev place : List ℕ → ℕ
place bytes = position_or_len (λ b. b == 10) bytes

place_here : (b : ℕ) (bs : List ℕ) → b ≡ 10 → place (b ∷ bs) ≡ 0
place_here b bs e = cond-false _ _ _ (ap not (eq-eqb b 10 e))

place_later : (b : ℕ) (bs : List ℕ) → b ≢ 10 → place (b ∷ bs) ≡ 1 + place bs
place_later b bs n = cond-true _ _ _ (ap not (ne_eqb b 10 n))

-- some bytes from their place n on
abbrev cut_at : List ℕ → ℕ → List (List ℕ)
cut_at bytes n = take n bytes ∷ cuts_of (drop n bytes)

-- the first line ends behind the first line feed, or with the bytes
pub cuts_front : (bytes : List ℕ) (n : ℕ) → n ≡ min (position_or_len (λ b. b == 10) bytes + 1) (length bytes) → 0 < length bytes
    → cuts_of bytes ≡ take n bytes ∷ cuts_of (drop n bytes)
cuts_front [] n is some = absurd (omega arith)
cuts_front (b ∷ []) n is some =
    let one : n ≡ 1 = omega arith in
    ⊎_elim
    (λ (e : b ≡ 10). cuts_of-feed b [] e)
    (λ (other : b ≢ 10). cuts_of-other b [] other ∙ ap (onto_first b) cuts_of-nil ∙ sym (ap (λ (cuts : List (List ℕ)). (b ∷ []) ∷ cuts) cuts_of-nil))
    (cases_eq b 10)
    ∙ sym (ap (cut_at (b ∷ [])) one)
cuts_front (b ∷ c ∷ bs) n is some =
    ⊎_elim
    (λ (e : b ≡ 10).
    let one : n ≡ 1 = omega (arith, place_here b (c ∷ bs) e) in
    cuts_of-feed b (c ∷ bs) e ∙ sym (ap (cut_at (b ∷ c ∷ bs)) one))
    (λ (other : b ≢ 10).
    let later = place_later b (c ∷ bs) other in
    let more : n ≡ suc (n - 1) = omega arith in
    cuts_of-other b (c ∷ bs) other
    ∙ ap (onto_first b) (cuts_front (c ∷ bs) (n - 1) (omega arith) (omega arith))
    ∙ sym (ap (cut_at (b ∷ c ∷ bs)) more))
    (cases_eq b 10)

-- ---- counts

length-onto_first : (b : ℕ) (cuts : List (List ℕ)) → length (onto_first b cuts) ≤ suc (length cuts)
length-onto_first b [] = omega arith
length-onto_first b (cut ∷ cuts) = omega arith

length-cuts_of : (bytes : List ℕ) → length (cuts_of bytes) ≤ length bytes
length-cuts_of [] = omega (arith, ap (λ (cuts : List (List ℕ)). length cuts) cuts_of-nil)
length-cuts_of (b ∷ bs) =
    ⊎_elim
    (λ (e : b ≡ 10). omega (arith, ap (λ (cuts : List (List ℕ)). length cuts) (cuts_of-feed b bs e), length-cuts_of bs))
    (λ (n : b ≢ 10).
    omega (arith, ap (λ (cuts : List (List ℕ)). length cuts) (cuts_of-other b bs n), length-onto_first b (cuts_of bs), length-cuts_of bs))
    (cases_eq b 10)

-- no more lines than bytes
pub count_small : (p : List ℕ → Bool) (bytes : List ℕ) → count_by p (cuts_of bytes) ≤ length bytes
count_small p bytes = omega (arith, count_by-le-length p (cuts_of bytes), length-cuts_of bytes)

-- one line more
pub count_next : (p : List ℕ → Bool) (line rest others : List ℕ) (n total : ℕ) → cuts_of rest ≡ line ∷ cuts_of others
    → n + count_by p (cuts_of rest) ≡ total → n + cond (p line) 1 0 + count_by p (cuts_of others) ≡ total
count_next p line rest others n total cut so_far =
    omega (arith, so_far, ap (count_by p) cut, sum_by-cons (λ l. cond (p l) 1 0) line (cuts_of others))

-- no line is left
pub count_ends : (p : List ℕ → Bool) (rest : List ℕ) (n total : ℕ) → length rest ≡ 0 → n + count_by p (cuts_of rest) ≡ total → n ≡ total
count_ends p rest n total none so_far = omega (arith, so_far, count_small p rest)
