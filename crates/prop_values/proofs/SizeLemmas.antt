-- Lengths and percents are read back.
use Rattle.std.proofs.Common.{◌≡◌, ◌^◌, ◌<◌, true, false, List, [], ◌∷◌, ◌++◌, inl, inr, Ok, ℤ, pos, unsigned_abs, refl, sym, ap, ◌∙◌, subst, arith}
use Rattle.std.specs.Prelude.{codes}
use Rattle.std.specs.Ordering.{int_eq}
use Rattle.std.proofs.lemmas.Bool.{MatchBool-at_true, MatchBool-at_false, and_from, and_right, cases_Bool, cond-true, cond-false, false≢true}
use Rattle.std.proofs.lemmas.Bool.Decides.{Decides-int_eq}
use Rattle.std.proofs.lemmas.List.{append-nil}
use Rattle.fix_num.specs.Print.{decimal_text}
use Rattle.fix_num.specs.declared.units.Fix.{Fix}
use Rattle.token_parts.specs.Parts.{TokenPart, Percent, Dimension}
use Rattle.value_types.specs.Ranges.{IsInRange, IsWithinLimit}
use Rattle.value_types.specs.Table.{fix, keeps_percent, takes}
use Rattle.value_types.specs.Validity.{IsNumberFor, IsPercentFor, declared_range_of}
use Rattle.value_types.specs.declared.declared.Declared.TheVariants as declared
use Rattle.value_types.specs.declared.declared.Unit.TheVariants as unit
use Rattle.value_types.specs.declared.property.PropertyId.{PropertyId}
use Rattle.value_types.specs.declared.table.ValueKind.TheVariants as kind
use Rattle.value_types.specs.declared.value.Value.TheVariants as value
use Rattle.value_text.specs.NumberReading.{number_in}
use Rattle.value_text.specs.Reading.{reading_map, size_of}
use Rattle.value_text.specs.Spelling.{declared_percent}
use Rattle.value_print.specs.Printed.{size_text}
use Rattle.computed_value.specs.Absolute.{em_size_of, in_pixels, is_kept, percent_of, pixels_of}
use Rattle.prop_values.specs.ReadBack.{IsOneUnit}
use Rattle.prop_values.proofs.BackLemmas.{Back, back}
use Rattle.prop_values.proofs.DecimalLemmas.{number_read, printed_is_number}
use Rattle.prop_values.proofs.FrontLemmas.{end_at_end}
use Rattle.prop_values.proofs.KindLemmas.{first_kind, kept_is_taken, length_range, percent_is_length, read_by_kind}
use Rattle.prop_values.proofs.SayingLemmas.{saying_nothing, saying_percent, saying_pixels, saying_same}

-- ---- the printed form

pub text_in_pixels : (px pct : Fix) → int_eq pct.0 (pos 0) ≡ true → size_text px pct ≡ decimal_text 6 px.0 ++ codes "px"
unfolding size_text
text_in_pixels px pct none = cond-true (int_eq pct.0 (pos 0)) _ _ none

pub text_in_percent : (px pct : Fix) → int_eq pct.0 (pos 0) ≡ false → px.0 ≡ pos 0 → size_text px pct ≡ decimal_text 6 pct.0 ++ codes "%"
unfolding size_text
text_in_percent px pct some none = cond-false (int_eq pct.0 (pos 0)) _ _ some ∙ cond-true (int_eq px.0 (pos 0)) _ _ ((Decides-int_eq px.0 (pos 0)).1 none)

-- where a percent is not 0, the length is
pub no_pixels : (px pct : Fix) → IsOneUnit px pct → int_eq pct.0 (pos 0) ≡ false → px.0 ≡ pos 0
no_pixels px pct (inl none) some = none
no_pixels px pct (inr none) some = absurd (false≢true (sym some ∙ (Decides-int_eq pct.0 (pos 0)).1 none))

pub is_number : (n : Fix) → IsWithinLimit n → unsigned_abs n.0 < 2 ^ 64
is_number n limit = omega arith

-- ---- the computed value

pub fix_of_none : (n : Fix) → n.0 ≡ pos 0 → fix 0 ≡ n
fix_of_none n none = ap (λ (z : ℤ). let m : Fix = record { 0 = z } in m) (sym none)

pub pixels_stay : (p : PropertyId) (em root px : Fix) → pixels_of p em root (size_of unit.Px px) ≡ px
pixels_stay p em root px = cond-false (is_kept p unit.Px) (fix 0) px (and_right (keeps_percent p) false refl)

pub pixels_have_no_percent : (p : PropertyId) (px pct : Fix) → pct.0 ≡ pos 0 → percent_of p (size_of unit.Px px) ≡ pct
pixels_have_no_percent p px pct none = cond-false (is_kept p unit.Px) px (fix 0) (and_right (keeps_percent p) false refl) ∙ fix_of_none pct none

kept : (p : PropertyId) → keeps_percent p ≡ true → is_kept p unit.Percent ≡ true
kept p keeps = and_from (keeps_percent p) true keeps refl

pub percent_has_no_pixels : (p : PropertyId) (em root px pct : Fix) → keeps_percent p ≡ true → px.0 ≡ pos 0 → pixels_of p em root (size_of unit.Percent pct) ≡ px
percent_has_no_pixels p em root px pct keeps none = cond-true (is_kept p unit.Percent) (fix 0) (in_pixels unit.Percent em root pct) (kept p keeps) ∙ fix_of_none px none

pub percent_stays : (p : PropertyId) (pct : Fix) → keeps_percent p ≡ true → percent_of p (size_of unit.Percent pct) ≡ pct
percent_stays p pct keeps = cond-true (is_kept p unit.Percent) pct (fix 0) (kept p keeps)

-- ---- values that are one size

length_read : (p : PropertyId) (n : Fix) → takes p kind.Length ≡ true → IsNumberFor p n → number_in (declared_range_of p) (decimal_text 6 n.0) ≡ Ok n
length_read p n taken valid = number_read (declared_range_of p) n valid.limit (subst (λ r. IsInRange r n) (sym (length_range p taken)) valid.in_range)

in_pixels_back : (p : PropertyId) (px pct : Fix) → takes p kind.Length ≡ true → IsNumberFor p px → int_eq pct.0 (pos 0) ≡ true → Back p (value.Length px pct)
in_pixels_back p px pct taken valid none =
    let number = decimal_text 6 px.0 in
    let parts : List TokenPart = Dimension number (codes "px") ∷ [] in
    back p (value.Length px pct) parts (declared.Length (size_of unit.Px px))
    (saying_same (size_text px pct) (number ++ codes "px" ++ []) parts (text_in_pixels px pct none ∙ sym (append-nil (number ++ codes "px")))
    (saying_pixels number [] [] (printed_is_number 6 px.0 (is_number px valid.limit)) end_at_end saying_nothing))
    (read_by_kind p kind.Length parts refl (first_kind p kind.Length (kind.Angle ∷ kind.Pair ∷ []) taken)
    ∙ ap (λ r. reading_map declared.Length (reading_map (size_of unit.Px) r)) (length_read p px taken valid)) tt
    (λ parent own root. λ i. value.Length (pixels_stay p (em_size_of p parent own) root px i) (pixels_have_no_percent p px pct ((Decides-int_eq pct.0 (pos 0)).0 none) i))

in_percent_back : (p : PropertyId) (px pct : Fix) → takes p kind.Length ≡ true → keeps_percent p ≡ true → IsNumberFor p pct → int_eq pct.0 (pos 0) ≡ false → px.0 ≡ pos 0 → Back p (value.Length px pct)
in_percent_back p px pct taken keeps valid some none =
    let number = decimal_text 6 pct.0 in
    let parts : List TokenPart = Percent number ∷ [] in
    back p (value.Length px pct) parts (declared.Length (size_of unit.Percent pct))
    (saying_same (size_text px pct) (number ++ codes "%" ++ []) parts (text_in_percent px pct some none ∙ sym (append-nil (number ++ codes "%")))
    (saying_percent number [] [] (printed_is_number 6 pct.0 (is_number pct valid.limit)) saying_nothing))
    (read_by_kind p kind.Percent parts refl (first_kind p kind.Percent (kind.Pair ∷ []) (kept_is_taken p taken keeps))
    ∙ ap (λ r. reading_map (declared_percent p) (reading_map (size_of unit.Percent) r)) (length_read p pct taken valid)
    ∙ ap Ok (percent_is_length p (size_of unit.Percent pct) taken)) tt
    (λ parent own root. λ i. value.Length (percent_has_no_pixels p (em_size_of p parent own) root px pct keeps none i) (percent_stays p pct keeps i))

-- a percent that is not 0 is one that the property keeps
pub percent_kept : (p : PropertyId) (pct : Fix) → IsPercentFor p pct → int_eq pct.0 (pos 0) ≡ false → (keeps_percent p ≡ true) × IsNumberFor p pct
percent_kept p pct valid some = elim (cases_Bool (keeps_percent p)) [
  | inl keeps ↦ (keeps, MatchBool-at_true (IsNumberFor p pct) (pct.0 ≡ pos 0) keeps valid)
  | inr loses ↦ absurd (false≢true (sym some ∙ (Decides-int_eq pct.0 (pos 0)).1 (MatchBool-at_false (IsNumberFor p pct) (pct.0 ≡ pos 0) loses valid)))
]

pub length_back : (p : PropertyId) (px pct : Fix) → takes p kind.Length ≡ true → IsNumberFor p px → IsPercentFor p pct → IsOneUnit px pct → Back p (value.Length px pct)
length_back p px pct taken valid percent single = elim (cases_Bool (int_eq pct.0 (pos 0))) [
  | inl none ↦ in_pixels_back p px pct taken valid none
  | inr some ↦
      let keeps = percent_kept p pct percent some in
      in_percent_back p px pct taken keeps.0 keeps.1 some (no_pixels px pct single some)
]
