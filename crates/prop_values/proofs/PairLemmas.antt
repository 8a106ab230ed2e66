-- The two parts of a translation are read back.
use Rattle.std.proofs.Common.{◌≡◌, ℕ, Some, None, true, false, ◌&&◌, List, [], ◌∷◌, ◌++◌, inl, inr, Ok, pos, refl, sym, ap, ◌∙◌, subst, append_assoc}
use Rattle.std.specs.Prelude.{codes}
use Rattle.std.specs.Ordering.{int_eq}
use Rattle.std.proofs.lemmas.Bool.{and_parts, cases_Bool, cond-true, cond-false}
use Rattle.std.proofs.lemmas.Bool.Decides.{Decides-int_eq}
use Rattle.std.proofs.lemmas.List.{append-nil}
use Rattle.css_token.specs.Productions.{IsNumber}
use Rattle.fix_num.specs.Print.{decimal_text}
use Rattle.fix_num.specs.declared.units.Fix.{Fix}
use Rattle.token_parts.specs.Parts.{TokenPart, Percent, Dimension}
use Rattle.value_types.specs.Ranges.{IsWithinLimit}
use Rattle.value_types.specs.Table.{takes}
use Rattle.value_types.specs.Validity.{IsNumberFor}
use Rattle.value_types.specs.declared.declared.Declared.TheVariants as declared
use Rattle.value_types.specs.declared.declared.Size.{Size}
use Rattle.value_types.specs.declared.declared.Unit.TheVariants as unit
use Rattle.value_types.specs.declared.property.PropertyId.{PropertyId}
use Rattle.value_types.specs.declared.property.PropertyId.TheVariants as property
use Rattle.value_types.specs.declared.range.ValueRange.TheVariants.{All}
use Rattle.value_types.specs.declared.table.ValueKind.TheVariants as kind
use Rattle.value_types.specs.declared.value.Value.TheVariants as value
use Rattle.value_text.specs.Reading.{both, kind_at, part_in, reading_map, size_of}
use Rattle.value_text.specs.Sizes.{zero_pixels}
use Rattle.value_text.specs.Spelling.{cascade_keyword}
use Rattle.value_print.specs.Printed.{pair_text, size_text}
use Rattle.computed_value.specs.Absolute.{percent_of, pixels_of}
use Rattle.prop_values.specs.ReadBack.{IsOneUnit}
use Rattle.prop_values.proofs.BackLemmas.{Back, back}
use Rattle.prop_values.proofs.DecimalLemmas.{number_read, printed_is_number}
use Rattle.prop_values.proofs.FrontLemmas.{IsEnd, end_at_end, end_at_space}
use Rattle.prop_values.proofs.KindLemmas.{only_translate, read_by_kind}
use Rattle.prop_values.proofs.SayingLemmas.{Saying, saying_nothing, saying_percent, saying_pixels, saying_same, saying_space}
use Rattle.prop_values.proofs.SizeLemmas.{fix_of_none, is_number, no_pixels, percent_has_no_pixels, percent_stays, pixels_have_no_percent, pixels_stay, text_in_percent, text_in_pixels}

-- a printed part of a translation: what it says, alone and after a space, what it is read as, and what that is
pub record PartBack (px pct : Fix) : Type 0 where
  pub part : TokenPart
  pub size : Size
  pub says : (rest : List ℕ) (parts : List TokenPart) → IsEnd rest → Saying rest parts → Saying (size_text px pct ++ rest) (part ∷ parts)
  pub after_space : (rest : List ℕ) (parts : List TokenPart) → IsEnd rest → Saying rest parts → Saying (32 ∷ (size_text px pct ++ rest)) (part ∷ parts)
  pub no_keyword : (ps : List TokenPart) → cascade_keyword (part ∷ ps) ≡ None
  pub one_kind : (ps : List TokenPart) → kind_at property.Translate (part ∷ ps) ≡ Some kind.Pair
  pub read : part_in part ≡ Ok size
  pub pixels : (em root : Fix) → pixels_of property.Translate em root size ≡ px
  pub percent : percent_of property.Translate size ≡ pct

-- after a space, where the text is a number and what follows it
spaced : (text number unit rest : List ℕ) (parts : List TokenPart) → IsNumber number → text ≡ number ++ unit → Saying (number ++ unit ++ rest) parts → Saying (32 ∷ (text ++ rest)) parts
spaced text number unit rest parts is same says =
    let grouped : text ++ rest ≡ number ++ (unit ++ rest) = ap (λ l. l ++ rest) same ∙ append_assoc number unit rest in
    saying_same (32 ∷ (text ++ rest)) (32 ∷ (number ++ (unit ++ rest))) parts (ap (λ l. 32 ∷ l) grouped)
    (saying_space number (unit ++ rest) parts is (saying_same (number ++ (unit ++ rest)) (number ++ unit ++ rest) parts (sym (append_assoc number unit rest)) says))

part_in_pixels : (px pct : Fix) → IsWithinLimit px → int_eq pct.0 (pos 0) ≡ true → PartBack px pct
part_in_pixels px pct limit none =
    let number = decimal_text 6 px.0 in
    let is : IsNumber (decimal_text 6 px.0) = printed_is_number 6 px.0 (is_number px limit) in
    let text : size_text px pct ≡ number ++ codes "px" = text_in_pixels px pct none in
    record {
      part = Dimension number (codes "px");
      size = size_of unit.Px px;
      says = λ rest parts end more. saying_same (size_text px pct ++ rest) (number ++ codes "px" ++ rest) (Dimension number (codes "px") ∷ parts) (ap (λ l. l ++ rest) text) (saying_pixels number rest parts is end more);
      after_space = λ rest parts end more. spaced (size_text px pct) number (codes "px") rest (Dimension number (codes "px") ∷ parts) is text (saying_pixels number rest parts is end more);
      no_keyword = λ ps. refl;
      one_kind = λ ps. refl;
      read = ap (reading_map (size_of unit.Px)) (number_read All px limit tt);
      pixels = λ em root. pixels_stay property.Translate em root px;
      percent = pixels_have_no_percent property.Translate px pct ((Decides-int_eq pct.0 (pos 0)).0 none);
    }

part_in_percent : (px pct : Fix) → IsWithinLimit pct → int_eq pct.0 (pos 0) ≡ false → px.0 ≡ pos 0 → PartBack px pct
part_in_percent px pct limit some none =
    let number = decimal_text 6 pct.0 in
    let is : IsNumber (decimal_text 6 pct.0) = printed_is_number 6 pct.0 (is_number pct limit) in
    let text : size_text px pct ≡ number ++ codes "%" = text_in_percent px pct some none in
    record {
      part = Percent number;
      size = size_of unit.Percent pct;
      says = λ rest parts end more. saying_same (size_text px pct ++ rest) (number ++ codes "%" ++ rest) (Percent number ∷ parts) (ap (λ l. l ++ rest) text) (saying_percent number rest parts is more);
      after_space = λ rest parts end more. spaced (size_text px pct) number (codes "%") rest (Percent number ∷ parts) is text (saying_percent number rest parts is more);
      no_keyword = λ ps. refl;
      one_kind = λ ps. refl;
      read = ap (reading_map (size_of unit.Percent)) (number_read All pct limit tt);
      pixels = λ em root. percent_has_no_pixels property.Translate em root px pct refl none;
      percent = percent_stays property.Translate pct refl;
    }

pub part_back : (px pct : Fix) → IsWithinLimit px → IsWithinLimit pct → IsOneUnit px pct → PartBack px pct
part_back px pct px_limit pct_limit single = elim (cases_Bool (int_eq pct.0 (pos 0))) [
  | inl none ↦ part_in_pixels px pct px_limit none
  | inr some ↦ part_in_percent px pct pct_limit some (no_pixels px pct single some)
]

-- ---- one part, and two

one_part_back : (x_px x_pct y_px y_pct : Fix) → PartBack x_px x_pct → (int_eq y_px.0 (pos 0) && int_eq y_pct.0 (pos 0)) ≡ true → Back property.Translate (value.Pair x_px x_pct y_px y_pct)
unfolding pair_text
one_part_back x_px x_pct y_px y_pct x none =
    let zeros = and_parts (int_eq y_px.0 (pos 0)) (int_eq y_pct.0 (pos 0)) none in
    let no_y_px = fix_of_none y_px ((Decides-int_eq y_px.0 (pos 0)).0 zeros.0) in
    let no_y_pct = fix_of_none y_pct ((Decides-int_eq y_pct.0 (pos 0)).0 zeros.1) in
    let text = size_text x_px x_pct in
    back property.Translate (value.Pair x_px x_pct y_px y_pct) (x.part ∷ []) (declared.Pair x.size zero_pixels)
    (saying_same (pair_text x_px x_pct y_px y_pct) (text ++ []) (x.part ∷ [])
    (cond-true (int_eq y_px.0 (pos 0) && int_eq y_pct.0 (pos 0)) _ _ none ∙ sym (append-nil text)) (x.says [] [] end_at_end saying_nothing))
    (read_by_kind property.Translate kind.Pair (x.part ∷ []) (x.no_keyword []) (x.one_kind []) ∙ ap (reading_map (λ s. declared.Pair s zero_pixels)) x.read) tt
    (λ parent own root. λ i. value.Pair (x.pixels own root i) (x.percent i) (no_y_px i) (no_y_pct i))

two_parts_back : (x_px x_pct y_px y_pct : Fix) → PartBack x_px x_pct → PartBack y_px y_pct → (int_eq y_px.0 (pos 0) && int_eq y_pct.0 (pos 0)) ≡ false → Back property.Translate (value.Pair x_px x_pct y_px y_pct)
unfolding pair_text
two_parts_back x_px x_pct y_px y_pct x y some =
    let first = size_text x_px x_pct in
    let second = size_text y_px y_pct in
    let parts : List TokenPart = x.part ∷ y.part ∷ [] in
    back property.Translate (value.Pair x_px x_pct y_px y_pct) parts (declared.Pair x.size y.size)
    (saying_same (pair_text x_px x_pct y_px y_pct) (first ++ (32 ∷ (second ++ []))) parts
    (cond-false (int_eq y_px.0 (pos 0) && int_eq y_pct.0 (pos 0)) _ _ some ∙ append_assoc first (codes " ") second ∙ ap (λ l. first ++ (32 ∷ l)) (sym (append-nil second)))
    (x.says (32 ∷ (second ++ [])) (y.part ∷ []) (end_at_space (second ++ [])) (y.after_space [] [] end_at_end saying_nothing)))
    (read_by_kind property.Translate kind.Pair parts (x.no_keyword (y.part ∷ [])) (x.one_kind (y.part ∷ [])) ∙ (λ i. both declared.Pair (x.read i) (y.read i))) tt
    (λ parent own root. λ i. value.Pair (x.pixels own root i) (x.percent i) (y.pixels own root i) (y.percent i))

translate_back : (x_px x_pct y_px y_pct : Fix) → IsNumberFor property.Translate x_px → IsNumberFor property.Translate x_pct → IsNumberFor property.Translate y_px → IsNumberFor property.Translate y_pct
    → IsOneUnit x_px x_pct → IsOneUnit y_px y_pct → Back property.Translate (value.Pair x_px x_pct y_px y_pct)
translate_back x_px x_pct y_px y_pct a b c d x_single y_single =
    let x = part_back x_px x_pct a.limit b.limit x_single in
    elim (cases_Bool (int_eq y_px.0 (pos 0) && int_eq y_pct.0 (pos 0))) [
      | inl none ↦ one_part_back x_px x_pct y_px y_pct x none
      | inr some ↦ two_parts_back x_px x_pct y_px y_pct x (part_back y_px y_pct c.limit d.limit y_single) some
    ]

pub pair_back : (p : PropertyId) (x_px x_pct y_px y_pct : Fix) → takes p kind.Pair ≡ true → IsNumberFor p x_px → IsNumberFor p x_pct → IsNumberFor p y_px → IsNumberFor p y_pct
    → IsOneUnit x_px x_pct → IsOneUnit y_px y_pct → Back p (value.Pair x_px x_pct y_px y_pct)
pair_back p x_px x_pct y_px y_pct taken a b c d x_single y_single =
    let is = only_translate p taken in
    let at : (n : Fix) → IsNumberFor p n → IsNumberFor property.Translate n = λ n h. subst (λ (q : PropertyId). IsNumberFor q n) is h in
    subst (λ (q : PropertyId). Back q (value.Pair x_px x_pct y_px y_pct)) (sym is)
    (translate_back x_px x_pct y_px y_pct (at x_px a) (at x_pct b) (at y_px c) (at y_pct d) x_single y_single)
