-- Computed styles, and what of them is inherited (CSS Cascade 5, sections 4.4 and 7.2).
use Rattle.std.specs.Prelude.{◌≡◌, List, [], ◌∷◌, map, set, length, slice_index_or, All}
use Rattle.fix_num.specs.declared.units.Fix.{Fix}
use Rattle.value_types.specs.Properties.{all_properties, number_of}
use Rattle.value_types.specs.Ranges.{IsSize}
use Rattle.value_types.specs.Table.{fix, initial_value}
use Rattle.timing_types.specs.TimingLists.{AnimationValues, initial_animations}
use Rattle.value_types.specs.TransitionLists.{TransitionValues, initial_transitions}
use Rattle.value_types.specs.Validity.{IsValid}
use Rattle.value_types.specs.declared.property.PropertyId.{PropertyId}
use Rattle.value_types.specs.declared.property.PropertyId.TheVariants.{Color, FontSize, LetterSpacing, Visibility}
use Rattle.value_types.specs.declared.value.Value.{Value}
use Rattle.value_types.specs.declared.value.Value.TheVariants.{Auto, Length}
use Rattle.computed_style.specs.declared.inherited.InheritedValues.{InheritedValues}

-- the values by property number, and the lists that time transitions and animations
pub record ComputedStyle : Type 0 where
  pub values : List Value
  pub transitions : TransitionValues
  pub animations : AnimationValues

abbrev pub style_of_values : List Value → TransitionValues → AnimationValues → ComputedStyle
style_of_values values transitions animations = record { values = values; transitions = transitions; animations = animations }

-- the value of a property, of values by number
abbrev pub value_at : List Value → PropertyId → Value
value_at values p = slice_index_or values (number_of p) Auto

-- the value of a property
abbrev pub value_of : ComputedStyle → PropertyId → Value
value_of s p = value_at s.values p

-- one value of each property, and each is a value of it
pub record AreValid (values : List Value) : Type 0 where
  pub count : length values ≡ 24
  pub each : (p : PropertyId) → IsValid p (value_at values p)

-- the initial value of each property
abbrev pub initial_values : List Value
initial_values = map initial_value all_properties

abbrev pub initial_style : ComputedStyle
initial_style = style_of_values initial_values initial_transitions initial_animations

-- ---- values that are given on top of a style, as transitions and animations give them

-- values, with those that are given to single properties in their places; the first that is given to a property counts
abbrev pub values_with : List Value → List (PropertyId × Value) → List Value
values_with values [] = values
values_with values (g ∷ given) = set (values_with values given) (number_of g.0) g.1

-- the style with these values in place of its own
abbrev pub style_with : ComputedStyle → List (PropertyId × Value) → ComputedStyle
style_with s given = record s { values = values_with s.values given }

-- each is a value of its property
abbrev pub AreGiven : List (PropertyId × Value) → Type 0
AreGiven given = All (λ g. IsValid g.0 g.1) given

-- ---- inherited values

-- the pixels of a length
abbrev pub pixels_of_length : Value → Fix
pixels_of_length (Length px pct) = px
pixels_of_length _ = fix 0

-- the font size
abbrev pub font_size_of : ComputedStyle → Fix
font_size_of s = pixels_of_length (value_of s FontSize)

-- inherited values, each a value of its property
pub record AreInherited (i : InheritedValues) : Type 0 where
  pub color : IsValid Color i.color
  pub font_size : IsSize i.font_size
  pub letter_spacing : IsValid LetterSpacing i.letter_spacing
  pub visibility : IsValid Visibility i.visibility
  pub root_size : IsSize i.root_size

-- what the elements below one of this style inherit, where the root has this font size
abbrev pub inherited_of : ComputedStyle → Fix → InheritedValues
inherited_of s root_size = record {
  color = value_of s Color;
  font_size = font_size_of s;
  letter_spacing = value_of s LetterSpacing;
  visibility = value_of s Visibility;
  root_size = root_size;
}

-- what the root inherits: the initial values, with the initial font size for the root's
abbrev pub initial_inherited : InheritedValues
initial_inherited = inherited_of initial_style (font_size_of initial_style)
