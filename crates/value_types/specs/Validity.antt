-- Which values stand for a property: of a kind that its row names, in its range, within the limits.
use Rattle.std.specs.Prelude.{◌≡◌, ◌≤◌, ℕ, pos, IsTrue, MatchBool, ⊤}
use Rattle.fix_num.specs.declared.units.Fix.{Fix}
use Rattle.value_types.specs.declared.declared.Declared.{Declared}
use Rattle.value_types.specs.declared.declared.Declared.TheVariants as declared
use Rattle.value_types.specs.declared.declared.Size.{Size}
use Rattle.value_types.specs.declared.declared.Unit.{«Unit»}
use Rattle.value_types.specs.declared.declared.Unit.TheVariants.{Px, Em, Rem, Percent}
use Rattle.value_types.specs.declared.property.PropertyId.{PropertyId}
use Rattle.value_types.specs.declared.property.PropertyId.TheVariants.{Opacity}
use Rattle.value_types.specs.declared.table.ValueKind.{ValueKind}
use Rattle.value_types.specs.declared.table.ValueKind.TheVariants as kind
use Rattle.value_types.specs.declared.range.ValueRange.{ValueRange}
use Rattle.value_types.specs.declared.range.ValueRange.TheVariants.{All, ZeroToOne}
use Rattle.value_types.specs.declared.value.Value.{Value}
use Rattle.value_types.specs.declared.value.Value.TheVariants as value
use Rattle.value_types.specs.Ranges.{IsInRange, IsInteger, IsWithinLimit}
use Rattle.value_types.specs.Table.{takes, is_inherited, keeps_percent, range_of}

-- ---- colours

-- an alpha from 0 to 1
abbrev pub IsAlpha : Fix → Type 0
IsAlpha a = IsInRange ZeroToOne a

-- the channels of sRGB from 0 to 255, and the alpha
pub record IsRgba (r g b : ℕ) (a : Fix) : Type 0 where
  pub red : r ≤ 255
  pub green : g ≤ 255
  pub blue : b ≤ 255
  pub alpha : IsAlpha a

-- ---- computed values

-- a number of the property: within the limit and in its range
pub record IsNumberFor (p : PropertyId) (n : Fix) : Type 0 where
  pub limit : IsWithinLimit n
  pub in_range : IsInRange (range_of p) n

-- the percent beside a length: none where the property keeps no percents
abbrev pub IsPercentFor : PropertyId → Fix → Type 0
IsPercentFor p pct = MatchBool (keeps_percent p) (IsNumberFor p pct) (pct.0 ≡ pos 0)

-- the value is a computed value of the property
abbrev pub IsValid : PropertyId → Value → Type 0
IsValid p (value.Number n) = IsTrue (takes p kind.Number) × IsNumberFor p n
IsValid p (value.Length px pct) = IsTrue (takes p kind.Length) × IsNumberFor p px × IsPercentFor p pct
IsValid p value.Auto = IsTrue (takes p kind.Auto)
IsValid p (value.Int i) = IsTrue (takes p kind.Int) × IsInteger i
IsValid p (value.Color r g b a) = IsTrue (takes p kind.Color) × IsRgba r g b a
IsValid p (value.Angle n) = IsTrue (takes p kind.Angle) × IsNumberFor p n
IsValid p (value.Pair x_px x_pct y_px y_pct) =
    IsTrue (takes p kind.Pair) × IsNumberFor p x_px × IsNumberFor p x_pct × IsNumberFor p y_px × IsNumberFor p y_pct
IsValid p value.Absent = IsTrue (takes p kind.Absent)
IsValid p (value.Visible v) = IsTrue (takes p kind.Visibility)
IsValid p (value.Display d) = IsTrue (takes p kind.Display)

-- ---- declared values

-- the range of declared numbers: opacity is clamped only when it is computed (CSS Color 4, "Transparency: the opacity property")
abbrev pub declared_range_of : PropertyId → ValueRange
declared_range_of Opacity = All
declared_range_of p = range_of p

-- a declared number of the property: within the limit and in the range of declared numbers
pub record IsDeclaredNumberFor (p : PropertyId) (n : Fix) : Type 0 where
  pub limit : IsWithinLimit n
  pub in_range : IsInRange (declared_range_of p) n

-- a unit makes a length, or a percent
abbrev pub kind_of_unit : «Unit» → ValueKind
kind_of_unit Px = kind.Length
kind_of_unit Em = kind.Length
kind_of_unit Rem = kind.Length
kind_of_unit Percent = kind.Percent

-- a declared length or percent of the property; a percent of opacity is declared as a number
abbrev pub IsSizeFor : PropertyId → Size → Type 0
IsSizeFor p s = IsTrue (takes p kind.Length) × IsTrue (takes p (kind_of_unit s.unit)) × IsDeclaredNumberFor p s.amount

-- the property may be declared so
abbrev pub IsDeclaredFor : PropertyId → Declared → Type 0
IsDeclaredFor p declared.Inherit = IsTrue (is_inherited p)
IsDeclaredFor p declared.Initial = ⊤
IsDeclaredFor p (declared.Number n) = IsTrue (takes p kind.Number) × IsDeclaredNumberFor p n
IsDeclaredFor p (declared.Length s) = IsSizeFor p s
IsDeclaredFor p declared.Auto = IsTrue (takes p kind.Auto)
IsDeclaredFor p (declared.Int i) = IsTrue (takes p kind.Int) × IsInteger i
IsDeclaredFor p (declared.Color r g b a) = IsTrue (takes p kind.Color) × IsRgba r g b a
IsDeclaredFor p (declared.Angle n) = IsTrue (takes p kind.Angle) × IsDeclaredNumberFor p n
IsDeclaredFor p (declared.Pair x y) =
    IsTrue (takes p kind.Pair) × IsDeclaredNumberFor p x.amount × IsDeclaredNumberFor p y.amount
IsDeclaredFor p declared.Absent = IsTrue (takes p kind.Absent)
IsDeclaredFor p (declared.Visible v) = IsTrue (takes p kind.Visibility)
IsDeclaredFor p (declared.Display d) = IsTrue (takes p kind.Display)
