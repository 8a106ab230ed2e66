-- What a declaration gives values to (CSS Cascade 5, "Shorthand Properties"), and how many items its lists have.
use Rattle.std.specs.Prelude.{◌≡◌, ℕ, List, [], ◌∷◌, ◌++◌, map, ◌⊎◌, All}
use Rattle.list_text.specs.Lists.{item_count}
use Rattle.value_types.specs.Shorthands.{longhands_of}
use Rattle.value_types.specs.declared.list_value.ListName.TheVariants as list
use Rattle.value_types.specs.declared.list_value.ListValue.TheVariants.{Properties}
use Rattle.shorthand_text.specs.Sides.{lists_in}
use Rattle.shorthand_text.specs.TimingItems.{animation_lists, transition_lists}
use Rattle.shorthand_text.specs.declared.known_name.KnownName.{KnownName}
use Rattle.shorthand_text.specs.declared.known_name.KnownName.TheVariants as known
use Rattle.shorthand_text.specs.declared.longhand.Longhand.{Longhand}
use Rattle.shorthand_text.specs.declared.longhand.Longhand.TheVariants as given

-- the property or list that is given a value
abbrev pub target_of : Longhand → KnownName
target_of (given.Property p d) = known.Property p
target_of (given.List name v) = known.List name

-- the properties and lists that a known name stands for, in order
abbrev pub targets_of : KnownName → List KnownName
targets_of (known.Property p) = known.Property p ∷ []
targets_of (known.List name) = known.List name ∷ []
targets_of (known.Short s) = map known.Property (longhands_of s) ++ map known.List (lists_in s)
targets_of known.Transition = map known.List transition_lists
targets_of known.Animation = map known.List animation_lists

-- how many items it gives
abbrev pub items_given : Longhand → ℕ
items_given (given.Property p d) = 0
items_given (given.List name v) = item_count v

-- it gives so many items, or is `transition-property: none` beside lists of one item
abbrev pub HasItems : ℕ → Longhand → Type 0
HasItems n l = (items_given l ≡ n) ⊎ ((l ≡ given.List list.TransitionProperty (Properties [])) × (n ≡ 1))

-- the lists have as many items as each other
pub record AreOfOneLength (ls : List Longhand) : Type 0 where
  pub count : ℕ
  pub each : All (HasItems count) ls
