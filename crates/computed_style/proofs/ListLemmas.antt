-- The timing lists of a computed style keep their bounds.
use Rattle.std.proofs.Common.{zero, suc, arith, rules}
use Rattle.std.specs.Prelude.{◌≤◌, true, false, List, [], ◌∷◌, length, All, Option, None, Some, IfSome}
use Rattle.std.specs.Option.{option_or}
use Rattle.fix_num.specs.declared.units.Micros.{Micros}
use Rattle.timing_types.specs.declared.easing.Easing.{Easing}
use Rattle.timing_types.specs.declared.limits.TheConstants.{MAX_ITEMS}
use Rattle.timing_types.specs.Names.{IsNameItem}
use Rattle.timing_types.specs.Timing.{IsAny, IsCount, IsDelay, IsDuration, IsEasing}
use Rattle.timing_types.specs.TimingLists.{IsAnimationValues, IsListOf, initial_animations, no_time}
use Rattle.value_types.specs.ListValues.{IsListValueFor}
use Rattle.value_types.specs.TransitionLists.{IsTransitionValues, initial_transitions}
use Rattle.value_types.specs.declared.list_value.ListName.{ListName}
use Rattle.value_types.specs.declared.list_value.ListName.TheVariants as list
use Rattle.value_types.specs.declared.list_value.ListValue.{ListValue}
use Rattle.value_types.specs.declared.list_value.ListValue.TheVariants.{Properties, Times, Easings, Names, Counts, Directions, Fills, States}
use Rattle.computed_style.specs.ComputedStyles.{animation_lists_of, list_winner, transition_lists_of}
use Rattle.computed_style.specs.DeclaredItems.{counts_or, directions_or, easings_or, fills_or, names_or, properties_or, states_or, times_or}
use Rattle.computed_style.specs.Winners.{AreDeclarations, Declarations, list_winners_of}

all_of_one : {T : Type 0} (P : T → Type 0) (x : T) → P x → All P (x ∷ [])
all_of_one P x is zero d l = is
all_of_one P x is (suc k) d l = absurd (omega arith)

-- a list of one item
one : {T : Type 0} (P : T → Type 0) (x : T) → P x → IsListOf P (x ∷ [])
one P x is = record { some = omega arith; few = omega arith; each = all_of_one P x is }

-- the winner of a timing list is a declared value of it
winner_has : (P : ListValue → Type 0) (important normal : Option ListValue) → IfSome important P → IfSome normal P → IfSome (option_or important normal) P
winner_has P None normal first second = second
winner_has P (Some v) normal first second = first

list_winner_is : (d : Declarations) (name : ListName) → AreDeclarations d → IfSome (list_winner d name) (IsListValueFor name)
list_winner_is d name are =
    winner_has (IsListValueFor name) (list_winners_of d name).important (list_winners_of d name).normal (are.each_list name true) (are.each_list name false)

-- ---- the items of a declaration, or the initial ones

properties_are : (v : Option ListValue) → IfSome v (IsListValueFor list.TransitionProperty) → length (properties_or initial_transitions.items v) ≤ MAX_ITEMS
properties_are (Some (Properties xs)) is = is
properties_are v is = omega arith

times_are : (P : Micros → Type 0) (name : ListName) (v : Option ListValue) → ((xs : List Micros) → IsListValueFor name (Times xs) → IsListOf P xs) → P no_time
    → IfSome v (IsListValueFor name) → IsListOf P (times_or (no_time ∷ []) v)
times_are P name (Some (Times xs)) step initial is = step xs is
times_are P name v step initial is = one P no_time initial

easings_are : (name : ListName) (v : Option ListValue) → ((xs : List Easing) → IsListValueFor name (Easings xs) → IsListOf IsEasing xs)
    → IfSome v (IsListValueFor name) → IsListOf IsEasing (easings_or initial_transitions.easings v)
easings_are name (Some (Easings xs)) step is = step xs is
easings_are name v step is = one IsEasing _ (search rules)

names_are : (v : Option ListValue) → IfSome v (IsListValueFor list.AnimationName) → IsListOf IsNameItem (names_or initial_animations.names v)
names_are (Some (Names xs)) is = is
names_are v is = one IsNameItem None (search rules)

counts_are : (v : Option ListValue) → IfSome v (IsListValueFor list.AnimationCount) → IsListOf IsCount (counts_or initial_animations.counts v)
counts_are (Some (Counts xs)) is = is
counts_are v is = one IsCount _ (search rules)

directions_are : (v : Option ListValue) → IfSome v (IsListValueFor list.AnimationDirection) → IsListOf IsAny (directions_or initial_animations.directions v)
directions_are (Some (Directions xs)) is = is
directions_are v is = one IsAny _ tt

fills_are : (v : Option ListValue) → IfSome v (IsListValueFor list.AnimationFill) → IsListOf IsAny (fills_or initial_animations.fills v)
fills_are (Some (Fills xs)) is = is
fills_are v is = one IsAny _ tt

states_are : (v : Option ListValue) → IfSome v (IsListValueFor list.AnimationPlayState) → IsListOf IsAny (states_or initial_animations.states v)
states_are (Some (States xs)) is = is
states_are v is = one IsAny _ tt

no_duration : IsDuration no_time
no_duration = search rules

no_delay : IsDelay no_time
no_delay = search rules

-- ---- the lists

pub transition_lists_are : (d : Declarations) → AreDeclarations d → IsTransitionValues (transition_lists_of d)
transition_lists_are d are = record {
  items = properties_are (list_winner d list.TransitionProperty) (list_winner_is d list.TransitionProperty are);
  durations = times_are IsDuration list.TransitionDuration (list_winner d list.TransitionDuration) (λ xs is. is) no_duration (list_winner_is d list.TransitionDuration are);
  delays = times_are IsDelay list.TransitionDelay (list_winner d list.TransitionDelay) (λ xs is. is) no_delay (list_winner_is d list.TransitionDelay are);
  easings = easings_are list.TransitionEasing (list_winner d list.TransitionEasing) (λ xs is. is) (list_winner_is d list.TransitionEasing are);
}

pub animation_lists_are : (d : Declarations) → AreDeclarations d → IsAnimationValues (animation_lists_of d)
animation_lists_are d are = record {
  names = names_are (list_winner d list.AnimationName) (list_winner_is d list.AnimationName are);
  durations = times_are IsDuration list.AnimationDuration (list_winner d list.AnimationDuration) (λ xs is. is) no_duration (list_winner_is d list.AnimationDuration are);
  delays = times_are IsDelay list.AnimationDelay (list_winner d list.AnimationDelay) (λ xs is. is) no_delay (list_winner_is d list.AnimationDelay are);
  easings = easings_are list.AnimationEasing (list_winner d list.AnimationEasing) (λ xs is. is) (list_winner_is d list.AnimationEasing are);
  counts = counts_are (list_winner d list.AnimationCount) (list_winner_is d list.AnimationCount are);
  directions = directions_are (list_winner d list.AnimationDirection) (list_winner_is d list.AnimationDirection are);
  fills = fills_are (list_winner d list.AnimationFill) (list_winner_is d list.AnimationFill are);
  states = states_are (list_winner d list.AnimationPlayState) (list_winner_is d list.AnimationPlayState are);
}
