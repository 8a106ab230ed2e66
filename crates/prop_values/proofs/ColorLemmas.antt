-- Colours are read back.
use Rattle.std.proofs.Common.{◌≡◌, ℕ, ◌≤◌, true, false, List, [], ◌∷◌, ◌++◌, inl, inr, Some, Ok, ℤ, pos, refl, sym, ap, ◌∙◌, arith, append_assoc}
use Rattle.std.specs.Prelude.{codes, option_map}
use Rattle.std.specs.Ordering.{int_eq}
use Rattle.std.proofs.lemmas.Bool.{cases_Bool, cond-true, cond-false}
use Rattle.std.proofs.lemmas.Bool.Decides.{Decides-int_eq}
use Rattle.std.proofs.lemmas.Int.{ints}
use Rattle.css_token.specs.Productions.{IsNumber}
use Rattle.fix_num.specs.Print.{decimal_text}
use Rattle.fix_num.specs.declared.units.Fix.{Fix}
use Rattle.fix_num.specs.declared.units.TheConstants.Fix.{ONE}
use Rattle.token_parts.specs.Parts.{TokenPart, Function, Number, Comma, Close}
use Rattle.value_types.specs.Ranges.{IsWithinLimit}
use Rattle.value_types.specs.Table.{takes}
use Rattle.value_types.specs.Validity.{IsAlpha, IsRgba}
use Rattle.value_types.specs.declared.declared.Declared.TheVariants as declared
use Rattle.value_types.specs.declared.property.PropertyId.{PropertyId}
use Rattle.value_types.specs.declared.range.ValueRange.TheVariants.{ZeroToOne}
use Rattle.value_types.specs.declared.table.ValueKind.TheVariants as kind
use Rattle.value_types.specs.declared.value.Value.TheVariants as value
use Rattle.value_text.specs.ColorReading.{alpha_at, arguments_of, color_of, option_of}
use Rattle.value_text.specs.NumberReading.{channel_of}
use Rattle.value_text.specs.Reading.{declared_reading, or_unsupported}
use Rattle.value_text.specs.Spelling.{declared_color}
use Rattle.value_types.specs.declared.declared.Declared.{Declared}
use Rattle.value_print.specs.Printed.{color_text, whole_text}
use Rattle.prop_values.proofs.BackLemmas.{Back, back}
use Rattle.prop_values.proofs.DecimalLemmas.{channel_read, number_read, printed_is_number}
use Rattle.prop_values.proofs.FrontLemmas.{IsEnd, end_at_close, end_at_comma}
use Rattle.prop_values.proofs.KindLemmas.{first_kind, read_by_kind}
use Rattle.prop_values.proofs.SayingLemmas.{Saying, saying_close, saying_comma, saying_nothing, saying_number, saying_rgb, saying_rgba, saying_same, saying_space}

-- ---- what the channels and the alpha say

-- a comma, a space and a number
saying_argument : (number rest : List ℕ) (parts : List TokenPart) → IsNumber number → IsEnd rest → Saying rest parts → Saying (codes ", " ++ (number ++ rest)) (Comma ∷ Number number ∷ parts)
saying_argument number rest parts is end more =
    saying_comma (32 ∷ (number ++ rest)) (Number number ∷ parts) (saying_space number rest (Number number ∷ parts) is (saying_number number rest parts is end more))

-- the parts of three channels
abbrev channel_parts : List ℕ → List ℕ → List ℕ → List TokenPart → List TokenPart
channel_parts r g b parts = Number r ∷ Comma ∷ Number g ∷ Comma ∷ Number b ∷ parts

saying_channels : (r g b rest : List ℕ) (parts : List TokenPart) → IsNumber r → IsNumber g → IsNumber b → IsEnd rest → Saying rest parts
    → Saying (r ++ (codes ", " ++ (g ++ (codes ", " ++ (b ++ rest))))) (channel_parts r g b parts)
saying_channels r g b rest parts r_is g_is b_is end more =
    let blue = saying_argument b rest parts b_is end more in
    let green = saying_argument g (codes ", " ++ (b ++ rest)) (Comma ∷ Number b ∷ parts) g_is (end_at_comma (32 ∷ (b ++ rest))) blue in
    saying_number r (codes ", " ++ (g ++ (codes ", " ++ (b ++ rest)))) (Comma ∷ Number g ∷ Comma ∷ Number b ∷ parts) r_is (end_at_comma (32 ∷ (g ++ (codes ", " ++ (b ++ rest))))) green

regrouped : (name r s g b rest : List ℕ) → name ++ (r ++ s ++ g ++ s ++ b) ++ rest ≡ name ++ (r ++ (s ++ (g ++ (s ++ (b ++ rest)))))
regrouped name r s g b rest = simp append_assoc

regrouped_more : (name r s g b a close : List ℕ) → name ++ (r ++ s ++ g ++ s ++ b) ++ s ++ (a ++ close) ≡ name ++ (r ++ (s ++ (g ++ (s ++ (b ++ (s ++ (a ++ close)))))))
regrouped_more name r s g b a close = simp append_assoc

-- ---- what they are read as

arguments_read : (r g b : List ℕ) (tail : List TokenPart) (x y z : ℕ) (a : Fix) → channel_of r ≡ Some x → channel_of g ≡ Some y → channel_of b ≡ Some z → alpha_at tail ≡ Some a
    → option_map declared_color (arguments_of (channel_parts r g b tail)) ≡ Some (declared.Color x y z a)
unfolding arguments_of
arguments_read r g b tail x y z a red green blue alpha = rw (red, green, blue, alpha) refl

color_read : (p : PropertyId) (name : List ℕ) (parts : List TokenPart) (d : Declared) → takes p kind.Color ≡ true → option_map declared_color (color_of (Function name ∷ parts)) ≡ Some d
    → declared_reading p (Function name ∷ parts) ≡ Ok d
color_read p name parts d taken is =
    read_by_kind p kind.Color (Function name ∷ parts) refl (first_kind p kind.Color [] taken) ∙ ap or_unsupported is

alpha_limit : (a : Fix) → IsAlpha a → IsWithinLimit a
alpha_limit a is = let low = is.0 in let high = is.1 in omega (arith, ints)

alpha_read : (a : Fix) → IsAlpha a → alpha_at (Comma ∷ Number (decimal_text 6 a.0) ∷ Close ∷ []) ≡ Some a
alpha_read a is = ap option_of (number_read ZeroToOne a (alpha_limit a is) is)

-- ---- colours

whole_is_number : (n : ℕ) → n ≤ 255 → IsNumber (whole_text (pos n))
whole_is_number n limit = printed_is_number 0 (pos n) (omega (arith, ints))

opaque_back : (p : PropertyId) (r g b : ℕ) (a : Fix) → takes p kind.Color ≡ true → IsRgba r g b a → int_eq a.0 ONE.0 ≡ true → Back p (value.Color r g b a)
unfolding color_text
opaque_back p r g b a taken valid whole =
    let x = whole_text (pos r) in
    let y = whole_text (pos g) in
    let z = whole_text (pos b) in
    let parts : List TokenPart = Function (codes "rgb") ∷ channel_parts x y z (Close ∷ []) in
    let one : ONE ≡ a = ap (λ (n : ℤ). let m : Fix = record { 0 = n } in m) (sym ((Decides-int_eq a.0 ONE.0).0 whole)) in
    back p (value.Color r g b a) parts (declared.Color r g b a)
    (saying_same (color_text r g b a) (codes "rgb(" ++ (x ++ (codes ", " ++ (y ++ (codes ", " ++ (z ++ codes ")")))))) parts
    (cond-true (int_eq a.0 ONE.0) _ _ whole ∙ regrouped (codes "rgb(") x (codes ", ") y z (codes ")"))
    (saying_rgb (x ++ (codes ", " ++ (y ++ (codes ", " ++ (z ++ codes ")"))))) (channel_parts x y z (Close ∷ []))
    (saying_channels x y z (codes ")") (Close ∷ []) (whole_is_number r valid.red) (whole_is_number g valid.green) (whole_is_number b valid.blue) (end_at_close [])
    (saying_close [] [] saying_nothing))))
    (color_read p (codes "rgb") (channel_parts x y z (Close ∷ [])) (declared.Color r g b a) taken
    (arguments_read x y z (Close ∷ []) r g b a (channel_read r valid.red) (channel_read g valid.green) (channel_read b valid.blue) (ap Some one))) tt
    (λ parent own root. refl)

clear_back : (p : PropertyId) (r g b : ℕ) (a : Fix) → takes p kind.Color ≡ true → IsRgba r g b a → int_eq a.0 ONE.0 ≡ false → Back p (value.Color r g b a)
unfolding color_text
clear_back p r g b a taken valid part =
    let x = whole_text (pos r) in
    let y = whole_text (pos g) in
    let z = whole_text (pos b) in
    let n = decimal_text 6 a.0 in
    let ends : List TokenPart = Comma ∷ Number n ∷ Close ∷ [] in
    let parts : List TokenPart = Function (codes "rgba") ∷ channel_parts x y z ends in
    let tail : List ℕ = codes ", " ++ (n ++ codes ")") in
    back p (value.Color r g b a) parts (declared.Color r g b a)
    (saying_same (color_text r g b a) (codes "rgba(" ++ (x ++ (codes ", " ++ (y ++ (codes ", " ++ (z ++ tail)))))) parts
    (cond-false (int_eq a.0 ONE.0) _ _ part ∙ regrouped_more (codes "rgba(") x (codes ", ") y z n (codes ")"))
    (saying_rgba (x ++ (codes ", " ++ (y ++ (codes ", " ++ (z ++ tail))))) (channel_parts x y z ends)
    (saying_channels x y z tail ends (whole_is_number r valid.red) (whole_is_number g valid.green) (whole_is_number b valid.blue) (end_at_comma (32 ∷ (n ++ codes ")")))
    (saying_argument n (codes ")") (Close ∷ []) (printed_is_number 6 a.0 (let limit = alpha_limit a valid.alpha in omega arith)) (end_at_close []) (saying_close [] [] saying_nothing)))))
    (color_read p (codes "rgba") (channel_parts x y z ends) (declared.Color r g b a) taken
    (arguments_read x y z ends r g b a (channel_read r valid.red) (channel_read g valid.green) (channel_read b valid.blue) (alpha_read a valid.alpha))) tt
    (λ parent own root. refl)

pub color_back : (p : PropertyId) (r g b : ℕ) (a : Fix) → takes p kind.Color ≡ true → IsRgba r g b a → Back p (value.Color r g b a)
color_back p r g b a taken valid = elim (cases_Bool (int_eq a.0 ONE.0)) [
  | inl whole ↦ opaque_back p r g b a taken valid whole
  | inr part ↦ clear_back p r g b a taken valid part
]
