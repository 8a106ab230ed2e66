-- What styles may be computed from, and changes of it (CSS Cascade 5, section 6 "Cascading", section 7 "Defaulting").
use Rattle.std.specs.Prelude.{◌≡◌, ℕ, ◌≤◌, ◌<◌, List, map, slice_index_or, Bool, IfSome}
use Rattle.fix_num.specs.declared.units.Fix.{Fix}
use Rattle.value_types.specs.Properties.{all_properties, number_of}
use Rattle.value_types.specs.Ranges.{IsSize}
use Rattle.value_types.specs.Validity.{IsValid}
use Rattle.value_types.specs.declared.declared.Declared.{Declared}
use Rattle.value_types.specs.declared.property.PropertyId.{PropertyId}
use Rattle.value_types.specs.declared.value.Value.{Value}
use Rattle.value_types.specs.declared.value.Value.TheVariants.{Auto}
use Rattle.computed_style.specs.ComputedStyles.{AnimatedValues, StyleSources, computed_value}
use Rattle.computed_style.specs.Styles.{AreGiven, AreInherited, initial_values}
use Rattle.computed_style.specs.Winners.{AreDeclarations, with_declaration}

-- what animations give a property is a value of it, wherever they build on one and the font sizes are sizes
abbrev pub AreAnimated : AnimatedValues → Type 0
AreAnimated animated =
    (p : PropertyId) (parent own root : Fix) (under : Value) → IsValid p under → IsSize parent → IsSize own → IsSize root → IfSome (animated p parent own root under) (IsValid p)

-- each part is within its bounds
pub record AreSources (x : StyleSources) : Type 0 where
  pub declared : AreDeclarations x.declared
  pub animated : AreAnimated x.animated
  pub transitioned : AreGiven x.transitioned
  pub parent : IfSome x.parent AreInherited

-- the same sources, but that this declaration of the property wins among the important or the normal ones
abbrev pub with_declared : StyleSources → PropertyId → Bool → Declared → StyleSources
with_declared x p important v = record x { declared = with_declaration x.declared p important v }

-- the same sources, but that transitions give these values
abbrev pub with_transitioned : StyleSources → List (PropertyId × Value) → StyleSources
with_transitioned x given = record x { transitioned = given }

-- the same sources, but that animations give these values
abbrev pub with_animated : StyleSources → AnimatedValues → StyleSources
with_animated x animated = record x { animated = animated }

-- animations give each property the same, whatever they build on
abbrev pub GiveAlike : AnimatedValues → AnimatedValues → Type 0
GiveAlike a b = (p : PropertyId) (parent own root : Fix) (under : Value) → a p parent own root under ≡ b p parent own root under

-- values are initial from this number up to that one
abbrev pub AreInitial : List Value → ℕ → ℕ → Type 0
AreInitial values from to = (k : ℕ) → from ≤ k → k < to → slice_index_or values k Auto ≡ slice_index_or initial_values k Auto

-- of these values that of this property comes next, from a number on, that isn't known to be initial
pub record IsNextChanged (values : List Value) (from : ℕ) (x : PropertyId × Value) : Type 0 where
  pub after : from ≤ number_of x.0
  pub value : x.1 ≡ slice_index_or values (number_of x.0) Auto
  pub valid : IsValid x.0 x.1
  pub initial : AreInitial values from (number_of x.0)

-- the computed value of each property, by number
unfoldable pub computed_values : StyleSources → List Value
computed_values x = map (computed_value x) all_properties
