-- The items that a declaration gives a timing list, and these others where it gives none.
use Rattle.std.specs.Prelude.{ℕ, List, Option, Some}
use Rattle.fix_num.specs.declared.units.Micros.{Micros}
use Rattle.timing_types.specs.declared.easing.Easing.{Easing}
use Rattle.value_types.specs.declared.list_value.ListValue.{ListValue}
use Rattle.value_types.specs.declared.list_value.ListValue.TheVariants.{Properties, Times, Easings, Names, Counts, Directions, Fills, States}
use Rattle.value_types.specs.declared.shorthand.PropertyItem.{PropertyItem}
use Rattle.timing_types.specs.declared.timing.Count.{Count}
use Rattle.timing_types.specs.declared.timing.Direction.{Direction}
use Rattle.timing_types.specs.declared.timing.Fill.{Fill}
use Rattle.timing_types.specs.declared.timing.PlayState.{PlayState}

-- the items of transition-property
abbrev pub properties_or : List PropertyItem → Option ListValue → List PropertyItem
properties_or otherwise (Some (Properties xs)) = xs
properties_or otherwise _ = otherwise

-- durations or delays
abbrev pub times_or : List Micros → Option ListValue → List Micros
times_or otherwise (Some (Times xs)) = xs
times_or otherwise _ = otherwise

-- timing functions
abbrev pub easings_or : List Easing → Option ListValue → List Easing
easings_or otherwise (Some (Easings xs)) = xs
easings_or otherwise _ = otherwise

-- names of animations
abbrev pub names_or : List (Option (List ℕ)) → Option ListValue → List (Option (List ℕ))
names_or otherwise (Some (Names xs)) = xs
names_or otherwise _ = otherwise

-- iteration counts
abbrev pub counts_or : List Count → Option ListValue → List Count
counts_or otherwise (Some (Counts xs)) = xs
counts_or otherwise _ = otherwise

-- directions
abbrev pub directions_or : List Direction → Option ListValue → List Direction
directions_or otherwise (Some (Directions xs)) = xs
directions_or otherwise _ = otherwise

-- fill modes
abbrev pub fills_or : List Fill → Option ListValue → List Fill
fills_or otherwise (Some (Fills xs)) = xs
fills_or otherwise _ = otherwise

-- play states
abbrev pub states_or : List PlayState → Option ListValue → List PlayState
states_or otherwise (Some (States xs)) = xs
states_or otherwise _ = otherwise
