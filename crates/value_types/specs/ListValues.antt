-- The timing lists, and what a declaration gives one.
use Rattle.std.specs.Prelude.{◌≤◌, List, [], ◌∷◌, length, ⊤}
use Rattle.timing_types.specs.declared.limits.TheConstants.{MAX_ITEMS}
use Rattle.value_types.specs.declared.list_value.ListName.{ListName}
use Rattle.value_types.specs.declared.list_value.ListName.TheVariants as list
use Rattle.value_types.specs.declared.list_value.ListValue.{ListValue}
use Rattle.value_types.specs.declared.list_value.ListValue.TheVariants.{Inherit, Initial, Properties, Times, Easings, Names, Counts, Directions, Fills, States}
use Rattle.timing_types.specs.Names.{IsNameItem}
use Rattle.timing_types.specs.Timing.{IsAny, IsEasing, IsDuration, IsDelay, IsCount}
use Rattle.timing_types.specs.TimingLists.{IsListOf}

-- the timing lists, those of transitions first
abbrev pub timing_lists : List ListName
timing_lists =
    list.TransitionProperty ∷ list.TransitionDuration ∷ list.TransitionDelay ∷ list.TransitionEasing
    ∷ list.AnimationName ∷ list.AnimationDuration ∷ list.AnimationDelay ∷ list.AnimationEasing
    ∷ list.AnimationCount ∷ list.AnimationDirection ∷ list.AnimationFill ∷ list.AnimationPlayState ∷ []

-- the list may be declared so: as its initial value, or by items of the list's type within its bounds; no list is inherited
abbrev pub IsListValueFor : ListName → ListValue → Type 0
IsListValueFor n Inherit = ⊥
IsListValueFor n Initial = ⊤
IsListValueFor list.TransitionProperty (Properties xs) = length xs ≤ MAX_ITEMS
IsListValueFor list.TransitionDuration (Times xs) = IsListOf IsDuration xs
IsListValueFor list.TransitionDelay (Times xs) = IsListOf IsDelay xs
IsListValueFor list.TransitionEasing (Easings xs) = IsListOf IsEasing xs
IsListValueFor list.AnimationName (Names xs) = IsListOf IsNameItem xs
IsListValueFor list.AnimationDuration (Times xs) = IsListOf IsDuration xs
IsListValueFor list.AnimationDelay (Times xs) = IsListOf IsDelay xs
IsListValueFor list.AnimationEasing (Easings xs) = IsListOf IsEasing xs
IsListValueFor list.AnimationCount (Counts xs) = IsListOf IsCount xs
IsListValueFor list.AnimationDirection (Directions xs) = IsListOf IsAny xs
IsListValueFor list.AnimationFill (Fills xs) = IsListOf IsAny xs
IsListValueFor list.AnimationPlayState (States xs) = IsListOf IsAny xs
IsListValueFor _ _ = ⊥
