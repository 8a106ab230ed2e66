-- Computed styles (CSS Cascade 5, section 6 "Cascading", section 7 "Defaulting"): the value of each property by the table of
-- precedence, font-size first.
use Rattle.std.specs.Prelude.{◌≡◌, List, [], ◌∷◌, map, Option, None, Some, option_map}
use Rattle.std.specs.Option.{option_or}
use Rattle.fix_num.specs.declared.units.Fix.{Fix}
use Rattle.computed_value.specs.Absolute.{absolute_of}
use Rattle.value_types.specs.Properties.{all_properties}
use Rattle.value_types.specs.Table.{fix, initial_value}
use Rattle.timing_types.specs.TimingLists.{AnimationValues, animation_values, initial_animations}
use Rattle.value_types.specs.TransitionLists.{TransitionValues, initial_transitions, transition_values}
use Rattle.value_types.specs.declared.declared.Declared.{Declared}
use Rattle.value_types.specs.declared.declared.Declared.TheVariants.{Inherit}
use Rattle.value_types.specs.declared.list_value.ListName.{ListName}
use Rattle.value_types.specs.declared.list_value.ListName.TheVariants as list
use Rattle.value_types.specs.declared.list_value.ListValue.{ListValue}
use Rattle.value_types.specs.declared.property.PropertyId.{PropertyId}
use Rattle.value_types.specs.declared.property.PropertyId.TheVariants.{Color, FontSize, LetterSpacing, Visibility}
use Rattle.value_types.specs.declared.value.Value.{Value}
use Rattle.value_types.specs.declared.value.Value.TheVariants.{Length}
use Rattle.computed_style.specs.ByProperty.{kept_for}
use Rattle.computed_style.specs.DeclaredItems.{counts_or, directions_or, easings_or, fills_or, names_or, properties_or, states_or, times_or}
use Rattle.computed_style.specs.Styles.{ComputedStyle, pixels_of_length, style_of_values}
use Rattle.computed_style.specs.Winners.{Declarations, list_winners_of, winners_of}
use Rattle.computed_style.specs.declared.inherited.InheritedValues.{InheritedValues}

-- what animations give a property, where the parent, the element and the root have these font sizes and this is the value
-- that they build on
abbrev pub AnimatedValues : Type 0
AnimatedValues = PropertyId → Fix → Fix → Fix → Value → Option Value

-- animations give no property a value
abbrev pub GiveNothing : AnimatedValues → Type 0
GiveNothing animated = (p : PropertyId) (parent own root : Fix) (under : Value) → animated p parent own root under ≡ None

-- what a style is computed from: the winning declarations, what animations and transitions give, and what the parent hands
-- down, which the root has none of
pub record StyleSources : Type 0 where
  pub declared : Declarations
  pub animated : AnimatedValues
  pub transitioned : List (PropertyId × Value)
  pub parent : Option InheritedValues

abbrev pub style_sources : Declarations → AnimatedValues → List (PropertyId × Value) → Option InheritedValues → StyleSources
style_sources declared animated transitioned parent =
    record { declared = declared; animated = animated; transitioned = transitioned; parent = parent }

-- ---- font sizes

-- the font sizes of the parent, of the element and of the root, which relative lengths are of
pub record FontSizes : Type 0 where
  pub parent : Fix
  pub own : Fix
  pub root : Fix

-- the root has the initial font size in place of its parent's
abbrev pub parent_size : Option InheritedValues → Fix
parent_size None = pixels_of_length (initial_value FontSize)
parent_size (Some parent) = parent.font_size

-- the root's font size; that of the root is its own
abbrev pub root_size : Option InheritedValues → Fix → Fix
root_size None own = own
root_size (Some parent) own = parent.root_size

-- the font sizes around an element with this one
abbrev pub font_sizes : Option InheritedValues → Fix → FontSizes
font_sizes parent own = record { parent = parent_size parent; own = own; root = root_size parent own }

-- ---- the value of a property

-- what the parent hands down; the initial value of a property that isn't inherited, and of every property of the root
abbrev pub inherited_value : Option InheritedValues → PropertyId → Value
inherited_value (Some parent) Color = parent.color
inherited_value (Some parent) FontSize = Length parent.font_size (fix 0)
inherited_value (Some parent) LetterSpacing = parent.letter_spacing
inherited_value (Some parent) Visibility = parent.visibility
inherited_value parent p = initial_value p

-- the computed value of a property that is declared so
abbrev pub declared_value : Option InheritedValues → FontSizes → PropertyId → Declared → Value
declared_value parent sizes p Inherit = inherited_value parent p
declared_value parent sizes p d = absolute_of p d sizes.parent sizes.own sizes.root

-- the first value that there is
abbrev pub first_of : List (Option Value) → Value → Value
first_of [] otherwise = otherwise
first_of (None ∷ rest) otherwise = first_of rest otherwise
first_of (Some v ∷ rest) otherwise = v

-- the values of the winning important and of the winning normal declaration
abbrev pub important_value : StyleSources → FontSizes → PropertyId → Option Value
important_value x sizes p = option_map (declared_value x.parent sizes p) (winners_of x.declared p).important

abbrev pub normal_value : StyleSources → FontSizes → PropertyId → Option Value
normal_value x sizes p = option_map (declared_value x.parent sizes p) (winners_of x.declared p).normal

-- the value without transitions and animations, which animations build on
abbrev pub underlying_value : StyleSources → FontSizes → PropertyId → Value
underlying_value x sizes p = first_of (important_value x sizes p ∷ normal_value x sizes p ∷ []) (inherited_value x.parent p)

-- the value that animations give
abbrev pub animated_value : StyleSources → FontSizes → PropertyId → Option Value
animated_value x sizes p = x.animated p sizes.parent sizes.own sizes.root (underlying_value x sizes p)

-- the table of precedence (section 6.1 "Cascade Sorting Order"): transitions, important declarations, animations, normal
-- declarations; and the inherited or the initial value where none of them gives one
abbrev pub cascaded_value : StyleSources → FontSizes → PropertyId → Value
cascaded_value x sizes p =
    first_of (kept_for p x.transitioned ∷ important_value x sizes p ∷ animated_value x sizes p ∷ normal_value x sizes p ∷ [])
    (inherited_value x.parent p)

-- font-size comes first: its relative lengths are of the parent's
abbrev pub computed_font_size : StyleSources → Value
computed_font_size x = cascaded_value x (font_sizes x.parent (parent_size x.parent)) FontSize

-- the value of a property: relative lengths of the others are of that font size
abbrev pub computed_value : StyleSources → PropertyId → Value
computed_value x FontSize = computed_font_size x
computed_value x p = cascaded_value x (font_sizes x.parent (pixels_of_length (computed_font_size x))) p

-- ---- the lists that time transitions and animations

-- the winner of a timing list: important declarations before normal ones
abbrev pub list_winner : Declarations → ListName → Option ListValue
list_winner d name = option_or (list_winners_of d name).important (list_winners_of d name).normal

-- the lists with what is declared of them, or else their initial values
abbrev pub transition_lists_of : Declarations → TransitionValues
transition_lists_of d = transition_values
    (properties_or initial_transitions.items (list_winner d list.TransitionProperty))
    (times_or initial_transitions.durations (list_winner d list.TransitionDuration))
    (times_or initial_transitions.delays (list_winner d list.TransitionDelay))
    (easings_or initial_transitions.easings (list_winner d list.TransitionEasing))

abbrev pub animation_lists_of : Declarations → AnimationValues
animation_lists_of d = animation_values
    (names_or initial_animations.names (list_winner d list.AnimationName))
    (times_or initial_animations.durations (list_winner d list.AnimationDuration))
    (times_or initial_animations.delays (list_winner d list.AnimationDelay))
    (easings_or initial_animations.easings (list_winner d list.AnimationEasing))
    (counts_or initial_animations.counts (list_winner d list.AnimationCount))
    (directions_or initial_animations.directions (list_winner d list.AnimationDirection))
    (fills_or initial_animations.fills (list_winner d list.AnimationFill))
    (states_or initial_animations.states (list_winner d list.AnimationPlayState))

-- the computed style
unfoldable pub computed_style : StyleSources → ComputedStyle
computed_style x = style_of_values (map (computed_value x) all_properties) (transition_lists_of x.declared) (animation_lists_of x.declared)
