-- The three answers of a rounded reading.
use Rattle.std.proofs.Common.{◌≡◌, ℕ, ◌*◌, ◌^◌, ◌<◌, ◌≤◌, refl, arith, ap, subst, sym, ◌∙◌, List, ◌++◌, length, inl, inr, Option, Some, None, Result, Ok, Err, ℤ, pos, unsigned_abs}
use Rattle.std.specs.Str.Parse.{digits_value}
use Rattle.std.proofs.lemmas.Bool.{cases_lt}
use Rattle.std.proofs.lemmas.Int.{ints}
use Rattle.fix_num.specs.Decimal.{Decimal, IsDecimal, decimal_of, signed_number, number_within}
use Rattle.fix_num.specs.Rounded.{StandsNear, rounded_reading_of, rounded_units}
use Rattle.fix_num.specs.declared.decimal.NumFault.{NumFault}
use Rattle.fix_num.specs.declared.decimal.NumFault.TheVariants.{Syntax, TooFine, TooLarge}
use Rattle.fix_num.proofs.PrintLemmas.{power_positive}
use Rattle.fix_num.proofs.ReadingLemmas.{found_none, within_large, within_ok}
use Rattle.fix_num.proofs.RoundingLemmas.{nearest, nearest_only}
use Rattle.fix_num.proofs.SpellingLemmas.{found, spelled}

pub rounded_reading_at : (places limit : ℕ) (text : List ℕ) (d : Decimal) → decimal_of text ≡ Some d → rounded_reading_of places limit text ≡ number_within limit (rounded_units places d)
unfolding rounded_reading_of
rounded_reading_at places limit text d e = rw e refl

rounded_none : (places limit : ℕ) (text : List ℕ) → decimal_of text ≡ None → rounded_reading_of places limit text ≡ Err Syntax
unfolding rounded_reading_of
rounded_none places limit text e = rw e refl

units_near : (places : ℕ) (text : List ℕ) (d : Decimal) → IsDecimal text d → StandsNear places text (rounded_units places d)
unfolding rounded_units
units_near places text d h =
    let some = power_positive (length d.fraction) in
    (d, h, nearest (signed_number d.negative (digits_value 10 (d.whole ++ d.fraction) * 10 ^ places)) (pos (10 ^ length d.fraction)) (omega (arith, ints)))

pub near_only : (places : ℕ) (text : List ℕ) (v : ℤ) (near : StandsNear places text v) → v ≡ rounded_units places near.0
unfolding rounded_units
near_only places text v near =
    let some = power_positive (length near.0.fraction) in
    nearest_only _ (pos (10 ^ length near.0.fraction)) v (omega (arith, ints)) near.2

near_within : (places limit : ℕ) (text : List ℕ) (v : ℤ) → StandsNear places text v → rounded_reading_of places limit text ≡ number_within limit v
near_within places limit text v near =
    rounded_reading_at places limit text near.0 (found text near.0 near.1) ∙ ap (number_within limit) (sym (near_only places text v near))

pub near_from : (places limit : ℕ) (text : List ℕ) (v : ℤ) → StandsNear places text v × (unsigned_abs v ≤ limit) → rounded_reading_of places limit text ≡ Ok v
near_from places limit text v h = near_within places limit text v h.0 ∙ within_ok limit v h.1

pub far_from : (places limit : ℕ) (text : List ℕ) → (v : ℤ) × StandsNear places text v × (limit < unsigned_abs v) → rounded_reading_of places limit text ≡ Err TooLarge
far_from places limit text h = near_within places limit text h.0 h.1 ∙ within_large limit h.0 h.2

pub none_from : (places limit : ℕ) (text : List ℕ) → ((d : Decimal) → IsDecimal text d → ⊥) → rounded_reading_of places limit text ≡ Err Syntax
none_from places limit text none = rounded_none places limit text (found_none text (decimal_of text) refl none)

-- the answer with its cause
data Answer (places limit : ℕ) (text : List ℕ) (r : Result ℤ NumFault) : Type 0 where
  no_decimal : r ≡ Err Syntax → ((d : Decimal) → IsDecimal text d → ⊥) → Answer places limit text r
  too_large : r ≡ Err TooLarge → (v : ℤ) × StandsNear places text v × (limit < unsigned_abs v) → Answer places limit text r
  number : (v : ℤ) → r ≡ Ok v → StandsNear places text v × (unsigned_abs v ≤ limit) → Answer places limit text r

answer_at : (places limit : ℕ) (text : List ℕ) (o : Option Decimal) → decimal_of text ≡ o → Answer places limit text (rounded_reading_of places limit text)
answer_at places limit text None e =
    no_decimal (rounded_none places limit text e) (λ d h. let same = sym e ∙ found text d h in absurd (cc))
answer_at places limit text (Some d) e =
    let v : ℤ = rounded_units places d in
    let near : StandsNear places text v = units_near places text d (spelled text d e) in
    elim (cases_lt limit (unsigned_abs v)) [
      | inl large ↦ too_large (far_from places limit text (v, near, large)) (v, near, large)
      | inr small ↦ number v (near_from places limit text v (near, small)) (near, small)
    ]

answer : (places limit : ℕ) (text : List ℕ) → Answer places limit text (rounded_reading_of places limit text)
answer places limit text = answer_at places limit text (decimal_of text) refl

pub near_told : (places limit : ℕ) (text : List ℕ) (v : ℤ) → rounded_reading_of places limit text ≡ Ok v → StandsNear places text v × (unsigned_abs v ≤ limit)
near_told places limit text v e = elim (answer places limit text) [
  | no_decimal r h ↦ absurd (cc)
  | too_large r h ↦ absurd (cc)
  | number w r h ↦ let same : w ≡ v = cc in subst (λ x. StandsNear places text x × (unsigned_abs x ≤ limit)) same h
]

pub none_told : (places limit : ℕ) (text : List ℕ) → rounded_reading_of places limit text ≡ Err Syntax → (d : Decimal) → IsDecimal text d → ⊥
none_told places limit text e = elim (answer places limit text) [
  | no_decimal r h ↦ h
  | too_large r h ↦ absurd (cc)
  | number w r h ↦ absurd (cc)
]

pub far_told : (places limit : ℕ) (text : List ℕ) → rounded_reading_of places limit text ≡ Err TooLarge → (v : ℤ) × StandsNear places text v × (limit < unsigned_abs v)
far_told places limit text e = elim (answer places limit text) [
  | no_decimal r h ↦ absurd (cc)
  | too_large r h ↦ h
  | number w r h ↦ absurd (cc)
]

pub never_fine : (places limit : ℕ) (text : List ℕ) → rounded_reading_of places limit text ≡ Err TooFine → ⊥
never_fine places limit text e = elim (answer places limit text) [
  | no_decimal r h ↦ cc
  | too_large r h ↦ cc
  | number w r h ↦ cc
]
