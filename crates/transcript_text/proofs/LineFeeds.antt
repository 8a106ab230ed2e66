-- What has no line feed in it: decimals, values, names.
use Rattle.std.proofs.Common.{◌≡◌, ◌∙◌, refl, ℕ, zero, suc, ◌+◌, ◌/◌, ◌%◌, ◌^◌, ◌==◌, true, false, List, [], ◌∷◌, ◌++◌, ℤ, unsigned_abs, arith}
use Rattle.std.specs.Prelude.{codes, decimal, pos, negsuc, ◌&&◌, nat_lt}
use Rattle.std.specs.List.{list_all}
use Rattle.std.specs.Fmt.{digit_glyph, digits, digits_onto}
use Rattle.std.specs.Ordering.{int_eq}
use Rattle.std.proofs.lemmas.Bool.{and_parts, cond_both, or_from}
use Rattle.std.proofs.lemmas.Bool.Decides.{nat_tests}
use Rattle.std.proofs.lemmas.List.Folds.{list_any-append}
use Rattle.css_token.specs.Characters.{is_name}
use Rattle.fix_num.specs.Print.{decimal_text, fraction_of, fraction_text, minus_of}
use Rattle.fix_num.specs.declared.units.Fix.{Fix}
use Rattle.fix_num.specs.declared.units.TheConstants.Fix.{ONE}
use Rattle.value_print.specs.Printed.{channels_text, color_text, number_text, pair_text, serialized_value, sign_text, size_text, sum_text, whole_text}
use Rattle.value_types.specs.Keywords.{keyword_of_display, keyword_of_visibility}
use Rattle.value_types.specs.Properties.{name_of}
use Rattle.value_types.specs.declared.property.PropertyId.{PropertyId}
use Rattle.value_types.specs.declared.property.PropertyId.TheVariants as property
use Rattle.value_types.specs.declared.value.Display.{Display}
use Rattle.value_types.specs.declared.value.Display.TheVariants as display
use Rattle.value_types.specs.declared.value.Value.{Value}
use Rattle.value_types.specs.declared.value.Value.TheVariants as value
use Rattle.value_types.specs.declared.value.Visibility.{Visibility}
use Rattle.value_types.specs.declared.value.Visibility.TheVariants as visibility
use Rattle.transcript_text.specs.Items.{has_line_feed}

-- no line feed stands among the bytes
abbrev pub IsWithout : List ℕ → Type 0
IsWithout bytes = has_line_feed bytes ≡ false

pub both : (xs ys : List ℕ) → IsWithout xs → IsWithout ys → IsWithout (xs ++ ys)
both xs ys x y = list_any-append (λ b. b == 10) xs ys ∙ or_from _ _ x y

three : (xs ys zs : List ℕ) → IsWithout xs → IsWithout ys → IsWithout zs → IsWithout (xs ++ ys ++ zs)
three xs ys zs x y z = both (xs ++ ys) zs (both xs ys x y) z

more : (b : ℕ) (bytes : List ℕ) → (b == 10) ≡ false → IsWithout bytes → IsWithout (b ∷ bytes)
more b bytes x y = or_from _ _ x y

-- ---- decimals

digit_differs : (d : ℕ) → (48 + d == 10) ≡ false
digit_differs d = grind (arith, nat_tests)

glyph_differs : (d : ℕ) → (digit_glyph false d == 10) ≡ false
glyph_differs d = cond_both (nat_lt d 10) (48 + d) (87 + d) (λ b. (b == 10) ≡ false) (λ e. digit_differs d) (λ e. grind (arith, nat_tests))

digits_without : (k n : ℕ) (after : List ℕ) → IsWithout after → IsWithout (digits_onto k 10 false n after)
digits_without zero n after h = h
digits_without (suc k) n after h =
    let first : IsWithout (digit_glyph false (n % 10) ∷ after) = more (digit_glyph false (n % 10)) after (glyph_differs (n % 10)) h in
    cond_both (n / 10 == 0) (digit_glyph false (n % 10) ∷ after) (digits_onto k 10 false (n / 10) (digit_glyph false (n % 10) ∷ after)) IsWithout
    (λ e. first) (λ e. digits_without k (n / 10) (digit_glyph false (n % 10) ∷ after) first)

pub decimal_without : (n : ℕ) → IsWithout (decimal n)
unfolding digits
decimal_without n = digits_without 64 n [] refl

fraction_without : (places r : ℕ) → IsWithout (fraction_of places r)
fraction_without zero r = refl
fraction_without (suc places) r =
    cond_both (r == 0) [] ((48 + r / 10 ^ places) ∷ fraction_of places (r % 10 ^ places)) IsWithout (λ e. refl)
    (λ e. more (48 + r / 10 ^ places) (fraction_of places (r % 10 ^ places)) (digit_differs (r / 10 ^ places)) (fraction_without places (r % 10 ^ places)))

minus_without : (v : ℤ) → IsWithout (minus_of v)
minus_without (pos n) = refl
minus_without (negsuc n) = refl

point_without : (places r : ℕ) → IsWithout (fraction_text places r)
point_without places r = cond_both (r == 0) [] (46 ∷ fraction_of places r) IsWithout (λ e. refl) (λ e. fraction_without places r)

pub decimal_text_without : (places : ℕ) (v : ℤ) → IsWithout (decimal_text places v)
unfolding decimal_text
decimal_text_without places v =
    three (minus_of v) (decimal (unsigned_abs v / 10 ^ places)) (fraction_text places (unsigned_abs v % 10 ^ places))
    (minus_without v) (decimal_without (unsigned_abs v / 10 ^ places)) (point_without places (unsigned_abs v % 10 ^ places))

-- ---- values

number_without : (n : ℤ) (unit : List ℕ) → IsWithout unit → IsWithout (number_text n unit)
number_without n unit h = both (decimal_text 6 n) unit (decimal_text_without 6 n) h

sign_without : (n : ℤ) → IsWithout (sign_text n)
sign_without (pos n) = refl
sign_without (negsuc n) = refl

sum_without : (px pct : ℤ) → IsWithout (sum_text px pct)
unfolding sum_text
sum_without px pct =
    three (codes "calc(") (number_text pct (sign_text px)) (number_text (pos (unsigned_abs px)) (codes "px)"))
    refl (number_without pct (sign_text px) (sign_without px)) (number_without (pos (unsigned_abs px)) (codes "px)") refl)

size_without : (px pct : Fix) → IsWithout (size_text px pct)
unfolding size_text
size_without px pct =
    cond_both (int_eq pct.0 (pos 0)) (number_text px.0 (codes "px")) _ IsWithout (λ e. number_without px.0 (codes "px") refl)
    (λ e. cond_both (int_eq px.0 (pos 0)) (number_text pct.0 (codes "%")) (sum_text px.0 pct.0) IsWithout (λ f. number_without pct.0 (codes "%") refl) (λ f. sum_without px.0 pct.0))

pair_without : (x_px x_pct y_px y_pct : Fix) → IsWithout (pair_text x_px x_pct y_px y_pct)
unfolding pair_text
pair_without x_px x_pct y_px y_pct =
    cond_both (int_eq y_px.0 (pos 0) && int_eq y_pct.0 (pos 0)) (size_text x_px x_pct) (size_text x_px x_pct ++ codes " " ++ size_text y_px y_pct) IsWithout
    (λ e. size_without x_px x_pct)
    (λ e. three (size_text x_px x_pct) (codes " ") (size_text y_px y_pct) (size_without x_px x_pct) refl (size_without y_px y_pct))

channel_without : (c : ℕ) → IsWithout (whole_text (pos c))
channel_without c = decimal_text_without 0 (pos c)

channels_without : (r g b : ℕ) → IsWithout (channels_text r g b)
channels_without r g b =
    three (whole_text (pos r) ++ codes ", " ++ whole_text (pos g)) (codes ", ") (whole_text (pos b))
    (three (whole_text (pos r)) (codes ", ") (whole_text (pos g)) (channel_without r) refl (channel_without g)) refl (channel_without b)

color_without : (r g b : ℕ) (a : Fix) → IsWithout (color_text r g b a)
unfolding color_text
color_without r g b a =
    cond_both (int_eq a.0 ONE.0) (codes "rgb(" ++ channels_text r g b ++ codes ")") (codes "rgba(" ++ channels_text r g b ++ codes ", " ++ number_text a.0 (codes ")")) IsWithout
    (λ e. three (codes "rgb(") (channels_text r g b) (codes ")") refl (channels_without r g b) refl)
    (λ e. three (codes "rgba(" ++ channels_text r g b) (codes ", ") (number_text a.0 (codes ")"))
    (both (codes "rgba(") (channels_text r g b) refl (channels_without r g b)) refl (number_without a.0 (codes ")") refl))

visibility_without : (v : Visibility) → IsWithout (keyword_of_visibility v)
visibility_without visibility.Visible = refl
visibility_without visibility.Hidden = refl
visibility_without visibility.Collapse = refl

display_without : (d : Display) → IsWithout (keyword_of_display d)
display_without display.Nothing = refl
display_without display.Block = refl
display_without display.Inline = refl
display_without display.InlineBlock = refl
display_without display.FlowRoot = refl
display_without display.ListItem = refl
display_without display.Flex = refl
display_without display.InlineFlex = refl
display_without display.Grid = refl
display_without display.InlineGrid = refl
display_without display.Table = refl
display_without display.Contents = refl

pub value_without : (v : Value) → IsWithout (serialized_value v)
value_without (value.Number n) = number_without n.0 [] refl
value_without (value.Length px pct) = size_without px pct
value_without value.Auto = refl
value_without (value.Int i) = decimal_text_without 0 i
value_without (value.Color r g b a) = color_without r g b a
value_without (value.Angle n) = number_without n.0 (codes "deg") refl
value_without (value.Pair x_px x_pct y_px y_pct) = pair_without x_px x_pct y_px y_pct
value_without value.Absent = refl
value_without (value.Visible v) = visibility_without v
value_without (value.Display d) = display_without d

-- ---- names

pub property_without : (p : PropertyId) → IsWithout (name_of p)
property_without property.BackgroundColor = refl
property_without property.Bottom = refl
property_without property.Color = refl
property_without property.Display = refl
property_without property.FontSize = refl
property_without property.Height = refl
property_without property.Left = refl
property_without property.LetterSpacing = refl
property_without property.MarginBottom = refl
property_without property.MarginLeft = refl
property_without property.MarginRight = refl
property_without property.MarginTop = refl
property_without property.Opacity = refl
property_without property.PaddingBottom = refl
property_without property.PaddingLeft = refl
property_without property.PaddingRight = refl
property_without property.PaddingTop = refl
property_without property.Right = refl
property_without property.Rotate = refl
property_without property.Top = refl
property_without property.Translate = refl
property_without property.Visibility = refl
property_without property.Width = refl
property_without property.ZIndex = refl

name_byte_differs : (b : ℕ) → is_name b ≡ true → (b == 10) ≡ false
name_byte_differs b h = grind (arith, nat_tests)

pub name_without : (name : List ℕ) → list_all is_name name ≡ true → IsWithout name
name_without [] h = refl
name_without (b ∷ bytes) h =
    let parts = and_parts (is_name b) (list_all is_name bytes) h in more b bytes (name_byte_differs b parts.0) (name_without bytes parts.1)
