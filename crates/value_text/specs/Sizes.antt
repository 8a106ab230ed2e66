-- Lengths and percents as they are written (CSS Values 3, "Percentages: the <percentage> type", "Distance Units: the <length> type").
use Rattle.std.specs.Prelude.{◌≡◌, ℕ, pos, Bool, List, [], ◌∷◌, codes, Some}
use Rattle.token_parts.specs.Keywords.{look_up}
use Rattle.token_parts.specs.Parts.{TokenPart, Number, Percent, Dimension}
use Rattle.value_types.specs.declared.declared.Size.{Size}
use Rattle.value_types.specs.declared.declared.Unit.{«Unit»}
use Rattle.value_types.specs.declared.declared.Unit.TheVariants as unit
use Rattle.value_types.specs.declared.range.ValueRange.{ValueRange}
use Rattle.value_text.specs.Numbers.{IsNumberText}

-- the units of lengths
abbrev pub length_units : List (List ℕ × «Unit»)
length_units = (codes "px", unit.Px) ∷ (codes "em", unit.Em) ∷ (codes "rem", unit.Rem) ∷ []

-- the length 0
abbrev pub zero_pixels : Size
zero_pixels = record { amount = record { 0 = pos 0 }; unit = unit.Px }

-- the part is a length: a number with a unit, or the number 0 alone
pub data IsLength (held : Bool) (range : ValueRange) : TokenPart → Size → Type 0 where
  with_unit : (text word : List ℕ) (s : Size) → look_up length_units word ≡ Some s.unit → IsNumberText held range text s.amount
      → IsLength held range (Dimension text word) s
  zero : (text : List ℕ) (s : Size) → IsNumberText held range text (record { 0 = pos 0 }) → s ≡ zero_pixels → IsLength held range (Number text) s

-- the part is a percent
pub data IsPercent (held : Bool) (range : ValueRange) : TokenPart → Size → Type 0 where
  percent : (text : List ℕ) (s : Size) → s.unit ≡ unit.Percent → IsNumberText held range text s.amount → IsPercent held range (Percent text) s
