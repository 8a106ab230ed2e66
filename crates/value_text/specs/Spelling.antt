-- The spellings of a property's values: the "Value" line of its definition, by CSS Values 3.
use Rattle.std.specs.Prelude.{◌≡◌, ℕ, ℤ, pos, Bool, true, false, List, [], ◌∷◌, codes, IsTrue, Option, None, Some, Result, Ok, Err, ⊤}
use Rattle.fix_num.specs.Rounding.{rounded_quotient}
use Rattle.fix_num.specs.declared.units.Fix.{Fix}
use Rattle.token_parts.specs.Keywords.{is_keyword, look_up}
use Rattle.token_parts.specs.Parts.{TokenPart, Ident, Number, Dimension}
use Rattle.token_parts.specs.declared.fault.ValueFault.{ValueFault}
use Rattle.token_parts.specs.declared.fault.ValueFault.TheVariants.{Unsupported, BoundItems, Bound, NoMemory}
use Rattle.value_types.specs.Keywords.{display_named, visibility_named}
use Rattle.value_types.specs.Table.{takes, is_inherited}
use Rattle.value_types.specs.Validity.{declared_range_of}
use Rattle.value_types.specs.declared.declared.Declared.{Declared}
use Rattle.value_types.specs.declared.declared.Declared.TheVariants as declared
use Rattle.value_types.specs.declared.declared.Size.{Size}
use Rattle.value_types.specs.declared.property.PropertyId.{PropertyId}
use Rattle.value_types.specs.declared.property.PropertyId.TheVariants.{Opacity}
use Rattle.value_types.specs.declared.table.ValueKind.{ValueKind}
use Rattle.value_types.specs.declared.table.ValueKind.TheVariants as kind
use Rattle.value_types.specs.declared.range.ValueRange.TheVariants.{All}
use Rattle.value_types.specs.declared.value.Display.{Display}
use Rattle.value_types.specs.declared.value.Visibility.{Visibility}
use Rattle.value_text.specs.declared.cascade.Keyword.{Keyword}
use Rattle.value_text.specs.declared.cascade.Keyword.TheVariants as cascade
use Rattle.value_text.specs.declared.color.Rgba.{Rgba}
use Rattle.value_text.specs.Colors.{IsColor}
use Rattle.value_text.specs.Numbers.{IsHeldInteger, IsNumberText}
use Rattle.value_text.specs.Sizes.{IsLength, IsPercent, zero_pixels}

-- ---- keywords

-- the keywords of the cascade (CSS Cascade 5, "Explicit Defaulting")
abbrev pub cascade_words : List (List ℕ × Keyword)
cascade_words = (codes "initial", cascade.Initial) ∷ (codes "inherit", cascade.Inherit) ∷ (codes "unset", cascade.Unset) ∷ []

-- the keyword of the cascade that the parts are
abbrev pub cascade_keyword : List TokenPart → Option Keyword
cascade_keyword (Ident word ∷ []) = look_up cascade_words word
cascade_keyword _ = None

-- what a keyword declares, where the property is inherited and where it isn't
abbrev pub declared_by : Bool → Keyword → Option Declared
declared_by inherited cascade.Initial = Some declared.Initial
declared_by true cascade.Inherit = Some declared.Inherit
declared_by false cascade.Inherit = None
declared_by true cascade.Unset = Some declared.Inherit
declared_by false cascade.Unset = Some declared.Initial

-- ---- the forms of values

-- a percent of opacity is declared as a number (CSS Color 4, "Transparency: the opacity property")
abbrev pub declared_percent : PropertyId → Size → Declared
declared_percent Opacity s = declared.Number (record { 0 = rounded_quotient s.amount.0 (pos 100) })
declared_percent p s = declared.Length s

-- a colour, declared
abbrev pub declared_color : Rgba → Declared
declared_color c = declared.Color c.r c.g c.b c.a

-- the part of a translation: a length or a percent
pub data IsPart (held : Bool) (part : TokenPart) (s : Size) : Type 0 where
  length : IsLength held All part s → IsPart held part s
  percent : IsPercent held All part s → IsPart held part s

-- the parts spell a value of this kind for the property; its numbers are within their limits where they are held to them
pub data IsSpelling (held : Bool) (p : PropertyId) : ValueKind → List TokenPart → Declared → Type 0 where
  number : (text : List ℕ) (n : Fix) → IsNumberText held (declared_range_of p) text n → IsSpelling held p kind.Number (Number text ∷ []) (declared.Number n)
  length : (part : TokenPart) (s : Size) → IsLength held (declared_range_of p) part s → IsSpelling held p kind.Length (part ∷ []) (declared.Length s)
  percent : (part : TokenPart) (s : Size) (d : Declared) → IsPercent held (declared_range_of p) part s → d ≡ declared_percent p s
      → IsSpelling held p kind.Percent (part ∷ []) d
  auto : (word : List ℕ) → IsTrue (is_keyword word (codes "auto")) → IsSpelling held p kind.Auto (Ident word ∷ []) declared.Auto
  normal : (word : List ℕ) → IsTrue (is_keyword word (codes "normal")) → IsSpelling held p kind.Normal (Ident word ∷ []) (declared.Length zero_pixels)
  integer : (text : List ℕ) (i : ℤ) → IsHeldInteger held text i → IsSpelling held p kind.Int (Number text ∷ []) (declared.Int i)
  color : (parts : List TokenPart) (c : Rgba) → IsColor parts c → IsSpelling held p kind.Color parts (declared_color c)
  angle : (text word : List ℕ) (n : Fix) → IsTrue (is_keyword word (codes "deg")) → IsNumberText held (declared_range_of p) text n
      → IsSpelling held p kind.Angle (Dimension text word ∷ []) (declared.Angle n)
  one_part : (part : TokenPart) (x : Size) → IsPart held part x → IsSpelling held p kind.Pair (part ∷ []) (declared.Pair x zero_pixels)
  two_parts : (first second : TokenPart) (x y : Size) → IsPart held first x → IsPart held second y
      → IsSpelling held p kind.Pair (first ∷ second ∷ []) (declared.Pair x y)
  absent : (word : List ℕ) → IsTrue (is_keyword word (codes "none")) → IsSpelling held p kind.Absent (Ident word ∷ []) declared.Absent
  visibility : (word : List ℕ) (v : Visibility) → visibility_named word ≡ Some v
      → IsSpelling held p kind.Visibility (Ident word ∷ []) (declared.Visible v)
  display : (word : List ℕ) (v : Display) → display_named word ≡ Some v
      → IsSpelling held p kind.Display (Ident word ∷ []) (declared.Display v)

-- the parts declare the property so: by a keyword of the cascade, or else by a value of a kind that its row names
pub data IsSpelled (held : Bool) (p : PropertyId) (parts : List TokenPart) (d : Declared) : Type 0 where
  keyword : (k : Keyword) → cascade_keyword parts ≡ Some k → declared_by (is_inherited p) k ≡ Some d → IsSpelled held p parts d
  value : (k : ValueKind) → cascade_keyword parts ≡ None → IsTrue (takes p k) → IsSpelling held p k parts d → IsSpelled held p parts d

-- the answer of the reader of these parts, unless memory runs out
abbrev pub IsValueAnswer : PropertyId → List TokenPart → Result Declared ValueFault → Type 0
IsValueAnswer p parts (Ok d) = IsSpelled true p parts d
IsValueAnswer p parts (Err Unsupported) = (d : Declared) → IsSpelled false p parts d → ⊥
IsValueAnswer p parts (Err BoundItems) = ⊥
IsValueAnswer p parts (Err Bound) = ((d : Declared) × IsSpelled false p parts d) × ((d : Declared) → IsSpelled true p parts d → ⊥)
IsValueAnswer p parts (Err NoMemory) = ⊤
