-- Colours as they are written (CSS Color 4, "Named Colors", "The RGB Hexadecimal Notations: #RRGGBB", "The RGB functions: rgb() and
-- rgba()").
use Rattle.std.specs.Prelude.{◌≡◌, ℕ, ◌+◌, ◌-◌, ◌*◌, ℤ, pos, ◌*ℤ◌, Bool, true, nat_lt, if◌then◌else◌, List, [], ◌∷◌, codes, IsTrue, Option, None, Some, option_map}
use Rattle.std.specs.List.{list_all}
use Rattle.std.specs.Char.{is_ascii_hexdigit}
use Rattle.fix_num.specs.Rounding.{rounded_quotient}
use Rattle.fix_num.specs.declared.units.Fix.{Fix}
use Rattle.fix_num.specs.declared.units.TheConstants.Fix.{ONE}
use Rattle.token_parts.specs.Keywords.{is_keyword, look_up}
use Rattle.token_parts.specs.Parts.{TokenPart, Ident, Function, Hash, Number, Comma, Close}
use Rattle.value_types.specs.declared.range.ValueRange.TheVariants.{ZeroToOne}
use Rattle.value_text.specs.declared.color.Rgba.{Rgba}
use Rattle.value_text.specs.Numbers.{IsChannel, IsNumberText}

-- the names of opaque colours
abbrev pub color_words : List (List ℕ × (ℕ × ℕ × ℕ))
color_words =
    (codes "black", (0, 0, 0))
    ∷ (codes "silver", (192, 192, 192))
    ∷ (codes "gray", (128, 128, 128))
    ∷ (codes "white", (255, 255, 255))
    ∷ (codes "maroon", (128, 0, 0))
    ∷ (codes "red", (255, 0, 0))
    ∷ (codes "purple", (128, 0, 128))
    ∷ (codes "fuchsia", (255, 0, 255))
    ∷ (codes "green", (0, 128, 0))
    ∷ (codes "lime", (0, 255, 0))
    ∷ (codes "olive", (128, 128, 0))
    ∷ (codes "yellow", (255, 255, 0))
    ∷ (codes "navy", (0, 0, 128))
    ∷ (codes "blue", (0, 0, 255))
    ∷ (codes "teal", (0, 128, 128))
    ∷ (codes "aqua", (0, 255, 255))
    ∷ (codes "orange", (255, 165, 0))
    ∷ []

-- a colour of this many millionths of alpha
abbrev pub rgba : ℕ → ℕ → ℕ → ℤ → Rgba
rgba r g b a = record { r = r; g = g; b = b; a = record { 0 = a } }

-- a colour of alpha 1
abbrev pub opaque : ℕ × ℕ × ℕ → Rgba
opaque c = rgba c.0 c.1 c.2 ONE.0

-- the colour of this name
unfoldable pub color_named : List ℕ → Option Rgba
color_named word = (if is_keyword word (codes "transparent") then Some (rgba 0 0 0 (pos 0)) else option_map opaque (look_up color_words word))

-- ---- hexadecimal colours

-- the value of a hexadecimal digit
abbrev pub digit_of : ℕ → ℕ
digit_of c = (if nat_lt c 58 then c - 48 else if nat_lt c 91 then c - 55 else c - 87)

-- the number of two hexadecimal digits
abbrev pub pair_of : ℕ → ℕ → ℕ
pair_of c d = digit_of c * 16 + digit_of d

-- the number of one digit that is doubled
abbrev pub double_of : ℕ → ℕ
double_of c = pair_of c c

-- h of 255 parts, in millionths
abbrev pub alpha_of : ℕ → ℤ
alpha_of h = rounded_quotient (pos h *ℤ ONE.0) (pos 255)

-- the colour of three, four, six or eight digits
abbrev pub hex_digits : List ℕ → Option Rgba
hex_digits (r ∷ g ∷ b ∷ []) = Some (rgba (double_of r) (double_of g) (double_of b) ONE.0)
hex_digits (r ∷ g ∷ b ∷ a ∷ []) = Some (rgba (double_of r) (double_of g) (double_of b) (alpha_of (double_of a)))
hex_digits (r ∷ r2 ∷ g ∷ g2 ∷ b ∷ b2 ∷ []) = Some (rgba (pair_of r r2) (pair_of g g2) (pair_of b b2) ONE.0)
hex_digits (r ∷ r2 ∷ g ∷ g2 ∷ b ∷ b2 ∷ a ∷ a2 ∷ []) = Some (rgba (pair_of r r2) (pair_of g g2) (pair_of b b2) (alpha_of (pair_of a a2)))
hex_digits _ = None

-- the colour of a text that has hexadecimal digits only
unfoldable pub hex_color : List ℕ → Option Rgba
hex_color text = (if list_all is_ascii_hexdigit text then hex_digits text else None)

-- ---- the forms of a colour

-- the name of a function that makes colours
abbrev pub is_color_function : List ℕ → Bool
is_color_function name = (if is_keyword name (codes "rgb") then true else is_keyword name (codes "rgba"))

-- an alpha: a number from 0 to 1
abbrev pub IsAlphaText : List ℕ → Fix → Type 0
IsAlphaText text a = IsNumberText true ZeroToOne text a

-- the parts spell the colour
pub data IsColor : List TokenPart → Rgba → Type 0 where
  named : (word : List ℕ) (c : Rgba) → color_named word ≡ Some c → IsColor (Ident word ∷ []) c
  hexadecimal : (digits : List ℕ) (c : Rgba) → hex_color digits ≡ Some c → IsColor (Hash digits ∷ []) c
  channels : (name r g b : List ℕ) (c : Rgba) → IsTrue (is_color_function name) → IsChannel r c.r → IsChannel g c.g → IsChannel b c.b
      → c.a ≡ ONE → IsColor (Function name ∷ Number r ∷ Comma ∷ Number g ∷ Comma ∷ Number b ∷ Close ∷ []) c
  channels_and_alpha : (name r g b a : List ℕ) (c : Rgba) → IsTrue (is_color_function name) → IsChannel r c.r → IsChannel g c.g → IsChannel b c.b
      → IsAlphaText a c.a → IsColor (Function name ∷ Number r ∷ Comma ∷ Number g ∷ Comma ∷ Number b ∷ Comma ∷ Number a ∷ Close ∷ []) c
