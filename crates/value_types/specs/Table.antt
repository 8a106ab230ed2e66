-- The table of properties (the "Value", "Initial" and "Inherited" lines of their definitions in CSS Backgrounds 3, CSS Box 3,
-- CSS Color 4, CSS Display 3, CSS Fonts 4, CSS Position 3, CSS Sizing 3, CSS Text 3, CSS Transforms 2 and CSS 2.2).
use Rattle.std.specs.Prelude.{ℕ, pos, Bool, true, false}
use Rattle.fix_num.specs.declared.units.Fix.{Fix}
use Rattle.fix_num.specs.declared.units.TheConstants.Fix.{ONE}
use Rattle.value_types.specs.declared.property.PropertyId.{PropertyId}
use Rattle.value_types.specs.declared.property.PropertyId.TheVariants as property
use Rattle.value_types.specs.declared.table.ValueKind.{ValueKind}
use Rattle.value_types.specs.declared.table.ValueKind.TheVariants as kind
use Rattle.value_types.specs.declared.range.ValueRange.{ValueRange}
use Rattle.value_types.specs.declared.range.ValueRange.TheVariants as range
use Rattle.value_types.specs.declared.value.Value.{Value}
use Rattle.value_types.specs.declared.value.Value.TheVariants as value
use Rattle.value_types.specs.declared.value.Visibility.TheVariants.{Visible}
use Rattle.value_types.specs.declared.value.Display.TheVariants.{Inline}

-- ---- the kinds of values that a row names

-- colour
abbrev pub of_color : ValueKind → Bool
of_color kind.Color = true
of_color _ = false

-- a keyword of display
abbrev pub of_display : ValueKind → Bool
of_display kind.Display = true
of_display _ = false

-- visible, hidden, collapse
abbrev pub of_visibility : ValueKind → Bool
of_visibility kind.Visibility = true
of_visibility _ = false

-- length, normal
abbrev pub of_length_normal : ValueKind → Bool
of_length_normal kind.Length = true
of_length_normal kind.Normal = true
of_length_normal _ = false

-- number, percent
abbrev pub of_number_percent : ValueKind → Bool
of_number_percent kind.Number = true
of_number_percent kind.Percent = true
of_number_percent _ = false

-- none, angle
abbrev pub of_none_angle : ValueKind → Bool
of_none_angle kind.Absent = true
of_none_angle kind.Angle = true
of_none_angle _ = false

-- none, one or two of length and percent
abbrev pub of_none_pair : ValueKind → Bool
of_none_pair kind.Absent = true
of_none_pair kind.Pair = true
of_none_pair _ = false

-- integer, auto
abbrev pub of_integer_auto : ValueKind → Bool
of_integer_auto kind.Int = true
of_integer_auto kind.Auto = true
of_integer_auto _ = false

-- length, percent
abbrev pub of_length_percent : ValueKind → Bool
of_length_percent kind.Length = true
of_length_percent kind.Percent = true
of_length_percent _ = false

-- length, percent, auto
abbrev pub of_length_percent_auto : ValueKind → Bool
of_length_percent_auto kind.Length = true
of_length_percent_auto kind.Percent = true
of_length_percent_auto kind.Auto = true
of_length_percent_auto _ = false

-- whether the property's row names values of this kind
abbrev pub takes : PropertyId → ValueKind → Bool
takes property.BackgroundColor k = of_color k
takes property.Bottom k = of_length_percent_auto k
takes property.Color k = of_color k
takes property.Display k = of_display k
takes property.FontSize k = of_length_percent k
takes property.Height k = of_length_percent_auto k
takes property.Left k = of_length_percent_auto k
takes property.LetterSpacing k = of_length_normal k
takes property.MarginBottom k = of_length_percent_auto k
takes property.MarginLeft k = of_length_percent_auto k
takes property.MarginRight k = of_length_percent_auto k
takes property.MarginTop k = of_length_percent_auto k
takes property.Opacity k = of_number_percent k
takes property.PaddingBottom k = of_length_percent k
takes property.PaddingLeft k = of_length_percent k
takes property.PaddingRight k = of_length_percent k
takes property.PaddingTop k = of_length_percent k
takes property.Right k = of_length_percent_auto k
takes property.Rotate k = of_none_angle k
takes property.Top k = of_length_percent_auto k
takes property.Translate k = of_none_pair k
takes property.Visibility k = of_visibility k
takes property.Width k = of_length_percent_auto k
takes property.ZIndex k = of_integer_auto k

-- whether an element takes its parent's value where no declaration gives one
abbrev pub is_inherited : PropertyId → Bool
is_inherited property.BackgroundColor = false
is_inherited property.Bottom = false
is_inherited property.Color = true
is_inherited property.Display = false
is_inherited property.FontSize = true
is_inherited property.Height = false
is_inherited property.Left = false
is_inherited property.LetterSpacing = true
is_inherited property.MarginBottom = false
is_inherited property.MarginLeft = false
is_inherited property.MarginRight = false
is_inherited property.MarginTop = false
is_inherited property.Opacity = false
is_inherited property.PaddingBottom = false
is_inherited property.PaddingLeft = false
is_inherited property.PaddingRight = false
is_inherited property.PaddingTop = false
is_inherited property.Right = false
is_inherited property.Rotate = false
is_inherited property.Top = false
is_inherited property.Translate = false
is_inherited property.Visibility = true
is_inherited property.Width = false
is_inherited property.ZIndex = false

-- the range of the property's numbers
abbrev pub range_of : PropertyId → ValueRange
range_of property.BackgroundColor = range.Nothing
range_of property.Bottom = range.All
range_of property.Color = range.Nothing
range_of property.Display = range.Nothing
range_of property.FontSize = range.NotNegative
range_of property.Height = range.NotNegative
range_of property.Left = range.All
range_of property.LetterSpacing = range.All
range_of property.MarginBottom = range.All
range_of property.MarginLeft = range.All
range_of property.MarginRight = range.All
range_of property.MarginTop = range.All
range_of property.Opacity = range.ZeroToOne
range_of property.PaddingBottom = range.NotNegative
range_of property.PaddingLeft = range.NotNegative
range_of property.PaddingRight = range.NotNegative
range_of property.PaddingTop = range.NotNegative
range_of property.Right = range.All
range_of property.Rotate = range.All
range_of property.Top = range.All
range_of property.Translate = range.All
range_of property.Visibility = range.Nothing
range_of property.Width = range.NotNegative
range_of property.ZIndex = range.All

-- whether a percent stays one in the computed value: that of font-size is of the parent's and that of opacity is a number
abbrev pub keeps_percent : PropertyId → Bool
keeps_percent property.FontSize = false
keeps_percent property.Opacity = false
keeps_percent property.Translate = true
keeps_percent p = takes p kind.Percent

-- ---- the initial values

-- this many millionths
abbrev pub fix : ℕ → Fix
fix n = record { 0 = pos n }

-- a length of so many millionths of a pixel, with no percent
abbrev pub pixels : ℕ → Value
pixels n = value.Length (fix n) (fix 0)

-- black with this alpha
abbrev pub black : Fix → Value
black alpha = value.Color 0 0 0 alpha

-- the initial value of the property, as computed
abbrev pub initial_value : PropertyId → Value
initial_value property.BackgroundColor = black (fix 0)
initial_value property.Bottom = value.Auto
initial_value property.Color = black ONE
initial_value property.Display = value.Display Inline
initial_value property.FontSize = pixels 16000000
initial_value property.Height = value.Auto
initial_value property.Left = value.Auto
initial_value property.LetterSpacing = pixels 0
initial_value property.MarginBottom = pixels 0
initial_value property.MarginLeft = pixels 0
initial_value property.MarginRight = pixels 0
initial_value property.MarginTop = pixels 0
initial_value property.Opacity = value.Number ONE
initial_value property.PaddingBottom = pixels 0
initial_value property.PaddingLeft = pixels 0
initial_value property.PaddingRight = pixels 0
initial_value property.PaddingTop = pixels 0
initial_value property.Right = value.Auto
initial_value property.Rotate = value.Absent
initial_value property.Top = value.Auto
initial_value property.Translate = value.Absent
initial_value property.Visibility = value.Visible Visible
initial_value property.Width = value.Auto
initial_value property.ZIndex = value.Auto
