-- Computed values of declared ones: relative lengths and the percents of font-size as pixels (CSS Values 3, "Relative
-- Lengths"; CSS Fonts 4, "Font size: the font-size property"), opacity from 0 to 1 (CSS Color 4, "Transparency: the opacity
-- property").
use Rattle.std.specs.Prelude.{ℤ, pos, neg_ℤ, ◌*ℤ◌, Bool, true, false, ◌&&◌, if◌then◌else◌, ⊤}
use Rattle.fix_num.specs.Clamping.{clamped_number}
use Rattle.fix_num.specs.Rounding.{rounded_quotient}
use Rattle.fix_num.specs.declared.limits.TheConstants.{MAX_NUMBER}
use Rattle.fix_num.specs.declared.units.Fix.{Fix}
use Rattle.fix_num.specs.declared.units.TheConstants.Fix.{ONE}
use Rattle.value_types.specs.declared.declared.Declared.{Declared}
use Rattle.value_types.specs.declared.declared.Declared.TheVariants as declared
use Rattle.value_types.specs.declared.declared.Size.{Size}
use Rattle.value_types.specs.declared.declared.Unit.{«Unit»}
use Rattle.value_types.specs.declared.declared.Unit.TheVariants.{Px, Em, Rem, Percent}
use Rattle.value_types.specs.declared.property.PropertyId.{PropertyId}
use Rattle.value_types.specs.declared.property.PropertyId.TheVariants.{FontSize}
use Rattle.value_types.specs.declared.value.Value.{Value}
use Rattle.value_types.specs.declared.value.Value.TheVariants as value
use Rattle.value_types.specs.Table.{fix, initial_value, keeps_percent}

-- a specified value, and no keyword of the cascade
abbrev pub IsSpecified : Declared → Type 0
IsSpecified declared.Inherit = ⊥
IsSpecified declared.Initial = ⊥
IsSpecified d = ⊤

-- ---- numbers

-- a times b, of which a counts as the part of a whole: rounded, and within the limit of a million
unfoldable pub product_within : ℤ → ℤ → ℤ → ℤ
product_within a b whole = clamped_number (rounded_quotient (a *ℤ b) whole) (neg_ℤ (pos MAX_NUMBER)) (pos MAX_NUMBER)

-- a part of a size
abbrev pub size_times : Fix → Fix → ℤ → Fix
size_times a b whole = record { 0 = product_within a.0 b.0 whole }

-- an opacity is computed as from 0 to 1
unfoldable pub computed_opacity : Fix → Fix
computed_opacity n = record { 0 = clamped_number n.0 (pos 0) ONE.0 }

-- ---- lengths and percents

-- the font size that em is of: in font-size itself the parent's
abbrev pub em_size_of : PropertyId → Fix → Fix → Fix
em_size_of FontSize parent own = parent
em_size_of p parent own = own

-- the unit is percent
abbrev pub is_percent : «Unit» → Bool
is_percent Percent = true
is_percent unit = false

-- a percent that stays one in the computed value
abbrev pub is_kept : PropertyId → «Unit» → Bool
is_kept p unit = keeps_percent p && is_percent unit

-- an amount of a unit in pixels: em of one font size, rem of the root's, a percent of that of em
abbrev pub in_pixels : «Unit» → Fix → Fix → Fix → Fix
in_pixels Px em root amount = amount
in_pixels Em em root amount = size_times amount em ONE.0
in_pixels Rem em root amount = size_times amount root ONE.0
in_pixels Percent em root amount = size_times amount em (pos 100 *ℤ ONE.0)

-- the pixels of a declared length or percent
abbrev pub pixels_of : PropertyId → Fix → Fix → Size → Fix
pixels_of p em root s = (if is_kept p s.unit then fix 0 else in_pixels s.unit em root s.amount)

-- the percent that is kept of it
abbrev pub percent_of : PropertyId → Size → Fix
percent_of p s = (if is_kept p s.unit then s.amount else fix 0)

-- ---- values

-- the computed value of a declared one, with these font sizes for em and rem; a keyword of the cascade has no value of its
-- own, and the initial value stands in its place
abbrev pub resolved_value : PropertyId → Fix → Fix → Declared → Value
resolved_value p em root declared.Inherit = initial_value p
resolved_value p em root declared.Initial = initial_value p
resolved_value p em root (declared.Number n) = value.Number (computed_opacity n)
resolved_value p em root (declared.Length s) = value.Length (pixels_of p em root s) (percent_of p s)
resolved_value p em root declared.Auto = value.Auto
resolved_value p em root (declared.Int i) = value.Int i
resolved_value p em root (declared.Color r g b a) = value.Color r g b a
resolved_value p em root (declared.Angle n) = value.Angle n
resolved_value p em root (declared.Pair x y) = value.Pair (pixels_of p em root x) (percent_of p x) (pixels_of p em root y) (percent_of p y)
resolved_value p em root declared.Absent = value.Absent
resolved_value p em root (declared.Visible v) = value.Visible v
resolved_value p em root (declared.Display d) = value.Display d

-- the computed value of a property that is declared so, where the parent, the element and the root have these font sizes
abbrev pub absolute_of : PropertyId → Declared → Fix → Fix → Fix → Value
absolute_of p d parent own root = resolved_value p (em_size_of p parent own) root d
