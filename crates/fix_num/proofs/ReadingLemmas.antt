-- The four answers of a reading.
use Rattle.std.proofs.Common.{◌≡◌, ℕ, ◌<◌, ◌≤◌, refl, ap, subst, sym, ◌∙◌, List, false, cond, inl, inr, Option, Some, None, Result, Ok, Err, ℤ, unsigned_abs}
use Rattle.std.proofs.lemmas.Bool.{cases_Bool, cases_lt, le-leb, lt-leb}
use Rattle.fix_num.specs.Decimal.{Decimal, IsDecimal, Stands, decimal_of, exact_reading, is_exact, reading_of, signed_number, units_of, number_within}
use Rattle.fix_num.specs.declared.decimal.NumFault.{NumFault}
use Rattle.fix_num.specs.declared.decimal.NumFault.TheVariants.{Syntax, TooFine, TooLarge}
use Rattle.fix_num.proofs.SpellingLemmas.{found, spelled}

-- ---- what gives each answer

pub reading_at : (places limit : ℕ) (text : List ℕ) (d : Decimal) → decimal_of text ≡ Some d → reading_of places limit text ≡ exact_reading places limit d
unfolding reading_of
reading_at places limit text d e = rw e refl

reading_none : (places limit : ℕ) (text : List ℕ) → decimal_of text ≡ None → reading_of places limit text ≡ Err Syntax
unfolding reading_of
reading_none places limit text e = rw e refl

not_exact : (places limit : ℕ) (text : List ℕ) (d : Decimal) → IsDecimal text d → is_exact places d ≡ false → reading_of places limit text ≡ Err TooFine
not_exact places limit text d h fine = reading_at places limit text d (found text d h) ∙ ap (λ b. cond b (number_within limit (signed_number d.negative (units_of places d))) (Err TooFine)) fine

pub within_ok : (limit : ℕ) (v : ℤ) → unsigned_abs v ≤ limit → number_within limit v ≡ Ok v
within_ok limit v small = ap (λ b. let ok : Result ℤ NumFault = Ok v in cond b ok (Err TooLarge)) (le-leb (unsigned_abs v) limit small)

pub within_large : (limit : ℕ) (v : ℤ) → limit < unsigned_abs v → number_within limit v ≡ Err TooLarge
within_large limit v large = ap (λ b. let ok : Result ℤ NumFault = Ok v in cond b ok (Err TooLarge)) (lt-leb (unsigned_abs v) limit large)

pub within_number : (places limit : ℕ) (text : List ℕ) (v : ℤ) → Stands places text v → reading_of places limit text ≡ number_within limit v
within_number places limit text v s =
    reading_at places limit text s.0 (found text s.0 s.1) ∙ ap (λ b. cond b (number_within limit (signed_number s.0.negative (units_of places s.0))) (Err TooFine)) s.2
    ∙ ap (number_within limit) (sym s.3)

pub number_from : (places limit : ℕ) (text : List ℕ) (v : ℤ) → Stands places text v × (unsigned_abs v ≤ limit) → reading_of places limit text ≡ Ok v
number_from places limit text v h = within_number places limit text v h.0 ∙ within_ok limit v h.1

pub too_large_from : (places limit : ℕ) (text : List ℕ) → (v : ℤ) × Stands places text v × (limit < unsigned_abs v) → reading_of places limit text ≡ Err TooLarge
too_large_from places limit text h = within_number places limit text h.0 h.1 ∙ within_large limit h.0 h.2

pub too_fine_from : (places limit : ℕ) (text : List ℕ) → (d : Decimal) × IsDecimal text d × (is_exact places d ≡ false) → reading_of places limit text ≡ Err TooFine
too_fine_from places limit text h = not_exact places limit text h.0 h.1 h.2

pub found_none : (text : List ℕ) (o : Option Decimal) → decimal_of text ≡ o → ((d : Decimal) → IsDecimal text d → ⊥) → decimal_of text ≡ None
found_none text None e none = e
found_none text (Some d) e none = absurd (none d (spelled text d e))

pub syntax_from : (places limit : ℕ) (text : List ℕ) → ((d : Decimal) → IsDecimal text d → ⊥) → reading_of places limit text ≡ Err Syntax
syntax_from places limit text none = reading_none places limit text (found_none text (decimal_of text) refl none)

-- ---- what each answer tells

-- the answer with its cause
data Answer (places limit : ℕ) (text : List ℕ) (r : Result ℤ NumFault) : Type 0 where
  no_decimal : r ≡ Err Syntax → ((d : Decimal) → IsDecimal text d → ⊥) → Answer places limit text r
  too_fine : r ≡ Err TooFine → (d : Decimal) × IsDecimal text d × (is_exact places d ≡ false) → Answer places limit text r
  too_large : r ≡ Err TooLarge → (v : ℤ) × Stands places text v × (limit < unsigned_abs v) → Answer places limit text r
  number : (v : ℤ) → r ≡ Ok v → Stands places text v × (unsigned_abs v ≤ limit) → Answer places limit text r

answer_at : (places limit : ℕ) (text : List ℕ) (o : Option Decimal) → decimal_of text ≡ o → Answer places limit text (reading_of places limit text)
answer_at places limit text None e =
    no_decimal (reading_none places limit text e) (λ d h. let same = sym e ∙ found text d h in absurd (cc))
answer_at places limit text (Some d) e = elim (cases_Bool (is_exact places d)) [
  | inr fine ↦ let cause : (d : Decimal) × IsDecimal text d × (is_exact places d ≡ false) = (d, spelled text d e, fine) in too_fine (too_fine_from places limit text cause) cause
  | inl exact ↦
      let v : ℤ = signed_number d.negative (units_of places d) in
      let stands : Stands places text v = (d, spelled text d e, exact, refl) in
      elim (cases_lt limit (unsigned_abs v)) [
        | inl large ↦ too_large (too_large_from places limit text (v, stands, large)) (v, stands, large)
        | inr small ↦ number v (number_from places limit text v (stands, small)) (stands, small)
      ]
]

answer : (places limit : ℕ) (text : List ℕ) → Answer places limit text (reading_of places limit text)
answer places limit text = answer_at places limit text (decimal_of text) refl

pub number_told : (places limit : ℕ) (text : List ℕ) (v : ℤ) → reading_of places limit text ≡ Ok v → Stands places text v × (unsigned_abs v ≤ limit)
number_told places limit text v e = elim (answer places limit text) [
  | no_decimal r h ↦ absurd (cc)
  | too_fine r h ↦ absurd (cc)
  | too_large r h ↦ absurd (cc)
  | number w r h ↦ let same : w ≡ v = cc in subst (λ x. Stands places text x × (unsigned_abs x ≤ limit)) same h
]

pub syntax_told : (places limit : ℕ) (text : List ℕ) → reading_of places limit text ≡ Err Syntax → (d : Decimal) → IsDecimal text d → ⊥
syntax_told places limit text e = elim (answer places limit text) [
  | no_decimal r h ↦ h
  | too_fine r h ↦ absurd (cc)
  | too_large r h ↦ absurd (cc)
  | number w r h ↦ absurd (cc)
]

pub too_fine_told : (places limit : ℕ) (text : List ℕ) → reading_of places limit text ≡ Err TooFine → (d : Decimal) × IsDecimal text d × (is_exact places d ≡ false)
too_fine_told places limit text e = elim (answer places limit text) [
  | no_decimal r h ↦ absurd (cc)
  | too_fine r h ↦ h
  | too_large r h ↦ absurd (cc)
  | number w r h ↦ absurd (cc)
]

pub too_large_told : (places limit : ℕ) (text : List ℕ) → reading_of places limit text ≡ Err TooLarge → (v : ℤ) × Stands places text v × (limit < unsigned_abs v)
too_large_told places limit text e = elim (answer places limit text) [
  | no_decimal r h ↦ absurd (cc)
  | too_fine r h ↦ absurd (cc)
  | too_large r h ↦ h
  | number w r h ↦ absurd (cc)
]
