-- Times as words.
use Rattle.std.proofs.Common.{◌≡◌, ℕ, ◌<◌, Bool, true, false, List, [], ◌∷◌, ◌++◌, length, refl, ap, sym, subst, ◌∙◌, inl, inr, arith}
use Rattle.std.specs.Prelude.{◌⊎◌, IsTrue, nat_lt, slice_index, if◌then◌else◌, Some, None}
use Rattle.std.specs.List.{list_all}
use Rattle.std.specs.Char.{is_ascii_digit}
use Rattle.std.proofs.lemmas.Bool.{and_from, and_parts, lt-ltb, ltb-true}
use Rattle.std.proofs.lemmas.List.{length-append}
use Rattle.std.proofs.lemmas.List.Folds.{list_all-append}
use Rattle.std.proofs.lemmas.Bool.Decides.{nat_tests}
use Rattle.fix_num.specs.Decimal.{Decimal, IsDecimal, IsSign, decimal_of, point_and_digits}
use Rattle.fix_num.specs.Digits.{are_digits}
use Rattle.fix_num.proofs.SpellingLemmas.{found, spelled}
use Rattle.script_text.specs.Forms.{IsTimeWord, is_numeral, time_of_word}
use Rattle.script_text.specs.Words.{IsSolid, is_word_byte}
use Rattle.script_text.proofs.SolidLemmas.{digit_bytes}

-- what begins with a digit has no sign
pub signless : (word : List ℕ) (d : Decimal) → is_ascii_digit (slice_index word 0) ≡ true → IsDecimal word d
    → (d.negative ≡ false) × (word ≡ d.whole ++ point_and_digits d.fraction)
signless word d first h = by_sign h.spelled.0 h.spelled.1 h.spelled.2 where
  no_sign : (c : ℕ) (rest : List ℕ) → (c ≡ 43) ⊎ (c ≡ 45) → word ≡ c ∷ rest → ⊥
  no_sign c rest s e =
      let digit : is_ascii_digit c ≡ true = ap (λ w. is_ascii_digit (slice_index w 0)) (sym e) ∙ first in
      elim s [ inl plus ↦ grind (arith, nat_tests) | inr minus ↦ grind (arith, nat_tests) ]

  by_sign : (sign : List ℕ) → IsSign sign d.negative → word ≡ sign ++ (d.whole ++ point_and_digits d.fraction)
      → (d.negative ≡ false) × (word ≡ d.whole ++ point_and_digits d.fraction)
  by_sign [] i e = (i, e)
  by_sign (c ∷ []) (inl p) e = absurd (no_sign c (d.whole ++ point_and_digits d.fraction) (inl p.0) e)
  by_sign (c ∷ []) (inr p) e = absurd (no_sign c (d.whole ++ point_and_digits d.fraction) (inr p.0) e)
  by_sign (c ∷ b ∷ cs) i e = absurd i

whole_some : (whole fraction : List ℕ) → is_ascii_digit (slice_index (whole ++ point_and_digits fraction) 0) ≡ true → nat_lt 0 (length whole) ≡ true
whole_some [] [] h = let no : false ≡ true = h in cc
whole_some [] (x ∷ xs) h = let no : false ≡ true = h in cc
whole_some (x ∷ xs) fraction h = lt-ltb 0 (length (x ∷ xs)) (omega arith)

time_word : (word : List ℕ) (d : Decimal) → is_ascii_digit (slice_index word 0) ≡ true → IsDecimal word d → IsTimeWord word d
time_word word d first h =
    let s = signless word d first h in
    record {
      spelled = s.1;
      whole = and_from _ _ (whole_some d.whole d.fraction (ap (λ w. is_ascii_digit (slice_index w 0)) (sym s.1) ∙ first)) h.whole;
      fraction = h.fraction;
      unsigned = s.0;
    }

point_solid : (fraction : List ℕ) → IsTrue (are_digits fraction) → list_all is_word_byte (point_and_digits fraction) ≡ true
point_solid [] h = refl
point_solid (x ∷ xs) h = digit_bytes (x ∷ xs) h

pub time_solid : (word : List ℕ) (d : Decimal) → IsTimeWord word d → IsSolid word
time_solid word d h =
    let some : 0 < length d.whole = ltb-true 0 (length d.whole) (and_parts _ _ h.whole).0 in
    let P : List ℕ → Type 0 = λ bytes. IsSolid bytes in
    subst P (sym h.spelled) (record {
      some = let l = length-append d.whole (point_and_digits d.fraction) in omega arith;
      solid = list_all-append is_word_byte d.whole (point_and_digits d.fraction)
          ∙ and_from _ _ (digit_bytes d.whole (and_parts _ _ h.whole).1) (point_solid d.fraction h.fraction);
    })

pub time_found : (word : List ℕ) (d : Decimal) → time_of_word word ≡ Some d → IsTimeWord word d × IsSolid word
unfolding time_of_word
time_found word d h = by_first (is_ascii_digit (slice_index word 0)) refl h where
  by_first : (b : Bool) → is_ascii_digit (slice_index word 0) ≡ b → (if b then decimal_of word else None) ≡ Some d → IsTimeWord word d × IsSolid word
  by_first true first e = let time = time_word word d first (spelled word d e) in (time, time_solid word d time)
  by_first false first e = cc

first_digit : (whole rest : List ℕ) → is_numeral whole ≡ true → is_ascii_digit (slice_index (whole ++ rest) 0) ≡ true
first_digit [] rest h = let no : false ≡ true = h in cc
first_digit (x ∷ xs) rest h = (and_parts _ _ (and_parts _ _ h).1).0

pub time_is : (word : List ℕ) (d : Decimal) → IsTimeWord word d → time_of_word word ≡ Some d
unfolding time_of_word
time_is word d h =
    let some : 0 < length d.whole = ltb-true 0 (length d.whole) (and_parts _ _ h.whole).0 in
    let l = length-append d.whole d.fraction in
    let decimal : IsDecimal word d = record { spelled = ([], h.unsigned, h.spelled); whole = (and_parts _ _ h.whole).1; fraction = h.fraction; some = omega arith } in
    let first : is_ascii_digit (slice_index word 0) ≡ true =
    ap (λ w. is_ascii_digit (slice_index w 0)) h.spelled ∙ first_digit d.whole (point_and_digits d.fraction) h.whole in
    ap (λ b. if b then decimal_of word else None) first ∙ found word d decimal
