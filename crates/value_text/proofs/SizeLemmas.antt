-- The reading of lengths and percents.
use Rattle.std.proofs.Common.{◌≡◌, ℕ, refl, ap, subst, sym, ◌∙◌, List, Bool, true, false, Option, Some, None, Result, Ok, Err, ℤ, pos, negsuc, arith}
use Rattle.std.specs.Prelude.{if◌then◌else◌}
use Rattle.std.proofs.lemmas.Bool.Decides.{nat_tests}
use Rattle.std.proofs.lemmas.Int.{ints}
use Rattle.fix_num.specs.declared.units.Fix.{Fix}
use Rattle.token_parts.specs.Keywords.{look_up}
use Rattle.token_parts.specs.Parts.{TokenPart, Ident, Function, Hash, Number, Percent, Dimension, Comma, Close, Other}
use Rattle.token_parts.specs.declared.fault.ValueFault.{ValueFault}
use Rattle.token_parts.specs.declared.fault.ValueFault.TheVariants.{Unsupported}
use Rattle.value_types.specs.declared.declared.Size.{Size}
use Rattle.value_types.specs.declared.declared.Unit.{«Unit»}
use Rattle.value_types.specs.declared.declared.Unit.TheVariants as unit
use Rattle.value_types.specs.declared.range.ValueRange.{ValueRange}
use Rattle.value_text.specs.NumberReading.{number_in}
use Rattle.value_text.specs.Numbers.{IsNumberText}
use Rattle.value_text.specs.Reading.{is_zero, length_in, percent_in, size_of, with_unit, zero_from}
use Rattle.value_text.specs.Sizes.{IsLength, IsPercent, length_units, zero_pixels}
use Rattle.value_text.specs.Sizes as sizes
use Rattle.value_text.proofs.NumberLemmas.{number_is}
use Rattle.value_text.proofs.Readings.{IsReading, mapped_is, nothing}

-- ---- with a unit

unit_from : (held : Bool) (r : ValueRange) (text word : List ℕ) (s : Size) → IsLength held r (Dimension text word) s
    → (look_up length_units word ≡ Some s.unit) × IsNumberText held r text s.amount
unit_from held r text word s (sizes.with_unit t w z d n) = (d, n)

unit_given : (r : ValueRange) (text word : List ℕ) (o : Option «Unit») → look_up length_units word ≡ o
    → IsReading (λ held s. IsLength held r (Dimension text word) s) (with_unit r text o)
unit_given r text word (Some u) e = mapped_is (size_of u) (λ held n. IsNumberText held r text n) _ (number_in r text) (number_is r text)
    (λ held n h. sizes.with_unit text word (size_of u n) e h)
    (λ held s h. let was = unit_from held r text word s h in let same : s.unit ≡ u = cc in (s.amount, was.1, ap (λ v. size_of v s.amount) (sym same)))
unit_given r text word None e = nothing _ (λ held s h. let was = (unit_from held r text word s h).0 in cc)

-- ---- the number 0

zero_is_zero : (v : ℤ) → is_zero v ≡ true → v ≡ pos 0
zero_is_zero (pos n) h = let e : n ≡ 0 = grind (arith, nat_tests) in ap pos e
zero_is_zero (negsuc n) h = absurd (cc)

fix_of : ℤ → Fix
fix_of v = record { 0 = v }

zero_held : (held : Bool) (r : ValueRange) (text : List ℕ) → IsNumberText held r text (record { 0 = pos 0 }) → IsNumberText true r text (record { 0 = pos 0 })
zero_held held r text h = record { near = h.near; in_range = h.in_range; limit = λ yes. omega (arith, ints) }

zero_read : (held : Bool) (r : ValueRange) (text : List ℕ) (s : Size) → IsLength held r (Number text) s → (number_in r text ≡ Ok (record { 0 = pos 0 })) × (s ≡ zero_pixels)
zero_read held r text s (sizes.zero t z k p) = ((number_is r text).given (record { 0 = pos 0 }) (zero_held held r text k), p)

zero_at : (r : ValueRange) (text : List ℕ) (n : Fix) → number_in r text ≡ Ok n → (b : Bool) → is_zero n.0 ≡ b
    → IsReading (λ held s. IsLength held r (Number text) s) (if b then Ok zero_pixels else Err Unsupported)
unfolding fix_of
zero_at r text n e true test = record {
  given = λ s h. ap Ok (sym (zero_read true r text s h).1);
  found = λ s d. let same : zero_pixels ≡ s = cc in
      let is : n ≡ record { 0 = pos 0 } = ap fix_of (zero_is_zero n.0 test) in
      sizes.zero text s (subst (λ m. IsNumberText true r text m) is ((number_is r text).found n e)) (sym same);
  bound = λ d. absurd (cc);
  some = λ s h d. cc;
  wider = λ s h. let z = zero_read true r text s h in sizes.zero text s ((number_is r text).wider (record { 0 = pos 0 }) ((number_is r text).found (record { 0 = pos 0 }) z.0)) z.1;
  one = λ s t h k. (zero_read false r text s h).1 ∙ sym (zero_read false r text t k).1;
  no_items = λ d. cc;
  no_memory = λ d. cc;
}
zero_at r text n e false test = nothing _ (λ held s h.
    let z = (zero_read held r text s h).0 in
    let same : n ≡ record { 0 = pos 0 } = cc in
    let is : is_zero n.0 ≡ true = ap (λ (m : Fix). is_zero m.0) same in
    cc)

zero_given : (r : ValueRange) (text : List ℕ) (res : Result Fix ValueFault) → number_in r text ≡ res → IsReading (λ held s. IsLength held r (Number text) s) (zero_from res)
zero_given r text (Ok n) e = zero_at r text n e (is_zero n.0) refl
zero_given r text (Err fault) e = nothing _ (λ held s h. let z = (zero_read held r text s h).0 in cc)

-- ---- the parts

pub length_is : (r : ValueRange) (part : TokenPart) → IsReading (λ held s. IsLength held r part s) (length_in r part)
length_is r (Dimension text word) = unit_given r text word (look_up length_units word) refl
length_is r (Number text) = zero_given r text (number_in r text) refl
length_is r (Ident w) = nothing _ (λ held s h. elim h [ ])
length_is r (Function w) = nothing _ (λ held s h. elim h [ ])
length_is r (Hash w) = nothing _ (λ held s h. elim h [ ])
length_is r (Percent w) = nothing _ (λ held s h. elim h [ ])
length_is r Comma = nothing _ (λ held s h. elim h [ ])
length_is r Close = nothing _ (λ held s h. elim h [ ])
length_is r Other = nothing _ (λ held s h. elim h [ ])

percent_from : (held : Bool) (r : ValueRange) (text : List ℕ) (s : Size) → IsPercent held r (Percent text) s → (n : Fix) × IsNumberText held r text n × (size_of unit.Percent n ≡ s)
percent_from held r text s (sizes.percent t z u n) = (s.amount, n, ap (λ v. size_of v s.amount) (sym u))

pub percent_is : (r : ValueRange) (part : TokenPart) → IsReading (λ held s. IsPercent held r part s) (percent_in r part)
percent_is r (Percent text) = mapped_is (size_of unit.Percent) (λ held n. IsNumberText held r text n) _ (number_in r text) (number_is r text)
    (λ held n h. sizes.percent text (size_of unit.Percent n) refl h) (λ held s h. percent_from held r text s h)
percent_is r (Ident w) = nothing _ (λ held s h. elim h [ ])
percent_is r (Function w) = nothing _ (λ held s h. elim h [ ])
percent_is r (Hash w) = nothing _ (λ held s h. elim h [ ])
percent_is r (Number w) = nothing _ (λ held s h. elim h [ ])
percent_is r (Dimension t w) = nothing _ (λ held s h. elim h [ ])
percent_is r Comma = nothing _ (λ held s h. elim h [ ])
percent_is r Close = nothing _ (λ held s h. elim h [ ])
percent_is r Other = nothing _ (λ held s h. elim h [ ])
