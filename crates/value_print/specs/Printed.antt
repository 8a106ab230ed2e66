-- Computed values as text (CSSOM, "Serializing CSS Values"; CSS Color 4, "Serializing <color> Values"; CSS Values 4,
-- "Serialization" of mathematical functions).
use Rattle.std.specs.Prelude.{ℕ, ℤ, pos, negsuc, unsigned_abs, ◌&&◌, if◌then◌else◌, List, [], ◌++◌, codes}
use Rattle.std.specs.Ordering.{int_eq}
use Rattle.fix_num.specs.Print.{decimal_text}
use Rattle.fix_num.specs.declared.units.Fix.{Fix}
use Rattle.fix_num.specs.declared.units.TheConstants.Fix.{ONE}
use Rattle.value_types.specs.declared.value.Value.{Value}
use Rattle.value_types.specs.declared.value.Value.TheVariants as value
use Rattle.value_types.specs.Keywords.{keyword_of_display, keyword_of_visibility}

-- a number of millionths and its unit
abbrev pub number_text : ℤ → List ℕ → List ℕ
number_text n unit = decimal_text 6 n ++ unit

-- a whole number
abbrev pub whole_text : ℤ → List ℕ
whole_text n = decimal_text 0 n

-- the sign of a sum's second part
abbrev pub sign_text : ℤ → List ℕ
sign_text (pos n) = codes "% + "
sign_text (negsuc n) = codes "% - "

-- the sum of a percent and a length that are not 0
unfoldable pub sum_text : ℤ → ℤ → List ℕ
sum_text px pct = codes "calc(" ++ number_text pct (sign_text px) ++ number_text (pos (unsigned_abs px)) (codes "px)")

-- a length and a percent together: one alone where the other is 0
unfoldable pub size_text : Fix → Fix → List ℕ
size_text px pct =
    (if int_eq pct.0 (pos 0) then number_text px.0 (codes "px")
    else if int_eq px.0 (pos 0) then number_text pct.0 (codes "%")
    else sum_text px.0 pct.0)

-- the two parts of translate, of which a second that is 0 is left out
unfoldable pub pair_text : Fix → Fix → Fix → Fix → List ℕ
pair_text x_px x_pct y_px y_pct =
    (if int_eq y_px.0 (pos 0) && int_eq y_pct.0 (pos 0) then size_text x_px x_pct
    else size_text x_px x_pct ++ codes " " ++ size_text y_px y_pct)

-- three channels
abbrev pub channels_text : ℕ → ℕ → ℕ → List ℕ
channels_text r g b = whole_text (pos r) ++ codes ", " ++ whole_text (pos g) ++ codes ", " ++ whole_text (pos b)

-- a colour, with its alpha where that isn't 1
unfoldable pub color_text : ℕ → ℕ → ℕ → Fix → List ℕ
color_text r g b a =
    (if int_eq a.0 ONE.0 then codes "rgb(" ++ channels_text r g b ++ codes ")"
    else codes "rgba(" ++ channels_text r g b ++ codes ", " ++ number_text a.0 (codes ")"))

-- the printed form of a computed value, of whatever property
abbrev pub serialized_value : Value → List ℕ
serialized_value (value.Number n) = number_text n.0 []
serialized_value (value.Length px pct) = size_text px pct
serialized_value value.Auto = codes "auto"
serialized_value (value.Int i) = whole_text i
serialized_value (value.Color r g b a) = color_text r g b a
serialized_value (value.Angle n) = number_text n.0 (codes "deg")
serialized_value (value.Pair x_px x_pct y_px y_pct) = pair_text x_px x_pct y_px y_pct
serialized_value value.Absent = codes "none"
serialized_value (value.Visible v) = keyword_of_visibility v
serialized_value (value.Display d) = keyword_of_display d
