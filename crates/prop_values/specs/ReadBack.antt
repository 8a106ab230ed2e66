-- Printed values that are read back (CSSOM, "Serializing CSS Values"; CSS Cascade 5, "computed value").
use Rattle.std.specs.Prelude.{◌≡◌, ◌⊎◌, ℕ, pos, true, List, Ok, ⊤}
use Rattle.css_token.specs.TokenLists.{AreTokens}
use Rattle.css_token.specs.declared.token.Token.{Token}
use Rattle.fix_num.specs.declared.units.Fix.{Fix}
use Rattle.token_parts.specs.Parts.{token_parts_of}
use Rattle.value_types.specs.Validity.{IsDeclaredFor}
use Rattle.value_types.specs.declared.declared.Declared.{Declared}
use Rattle.value_types.specs.declared.property.PropertyId.{PropertyId}
use Rattle.value_types.specs.declared.value.Value.{Value}
use Rattle.value_types.specs.declared.value.Value.TheVariants as value
use Rattle.value_text.specs.Reading.{declared_reading}
use Rattle.value_text.specs.Spelling.{IsSpelled}
use Rattle.value_print.specs.Printed.{serialized_value}
use Rattle.computed_value.specs.Absolute.{IsSpecified, absolute_of}

-- ---- what is printed without calc()

-- of a length and a percent that stand for one size, one is 0
abbrev pub IsOneUnit : Fix → Fix → Type 0
IsOneUnit px pct = (px.0 ≡ pos 0) ⊎ (pct.0 ≡ pos 0)

-- no size of the value is the sum of a length and a percent; every other value is printed in the words of its property's grammar
abbrev pub IsPrintedWithoutSum : Value → Type 0
IsPrintedWithoutSum (value.Length px pct) = IsOneUnit px pct
IsPrintedWithoutSum (value.Pair x_px x_pct y_px y_pct) = IsOneUnit x_px x_pct × IsOneUnit y_px y_pct
IsPrintedWithoutSum _ = ⊤

-- ---- what it is read as

-- the text has tokens, and what they say is read as the declaration
pub record IsReadAs (p : PropertyId) (text : List ℕ) (d : Declared) : Type 0 where
  pub tokens : List Token
  pub are_tokens : AreTokens text tokens
  pub spelled : IsSpelled true p (token_parts_of text tokens) d
  pub reading : declared_reading p (token_parts_of text tokens) ≡ Ok d

-- the printed form of the value is read as the declaration, which may be made absolute, and has that value whatever the font
-- sizes of the parent, the element and the root
pub record IsReadBack (p : PropertyId) (v : Value) (d : Declared) : Type 0 where
  pub read : IsReadAs p (serialized_value v) d
  pub specified : IsSpecified d
  pub declared : IsDeclaredFor p d
  pub absolute : (parent own root : Fix) → absolute_of p d parent own root ≡ v
