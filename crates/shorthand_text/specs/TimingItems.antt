-- The shorthands of timing lists (CSS Transitions 1, "The transition Shorthand Property"; CSS Animations 1, "The animation shorthand
-- property").
use Rattle.std.specs.Prelude.{ℕ, ◌==◌, pos, Bool, true, ◌&&◌, nat_lt, if◌then◌else◌, false, List, [], ◌∷◌, ◌++◌, length, map, filter_map, codes, Option, None, Some, option_map, unwrap_or, Result, Ok}
use Rattle.std.specs.Option.{is_none}
use Rattle.std.specs.List.{list_any}
use Rattle.fix_num.specs.declared.units.Micros.{Micros}
use Rattle.token_parts.specs.Keywords.{is_keyword, look_up}
use Rattle.token_parts.specs.Parts.{TokenPart}
use Rattle.token_parts.specs.Steps.{◌>>=◌}
use Rattle.token_parts.specs.declared.fault.ValueFault.{ValueFault}
use Rattle.timing_types.specs.Timing.{ease}
use Rattle.timing_types.specs.TimingLists.{no_time, once}
use Rattle.timing_types.specs.declared.easing.Easing.{Easing}
use Rattle.timing_types.specs.declared.timing.Count.{Count}
use Rattle.timing_types.specs.declared.timing.Direction.{Direction}
use Rattle.timing_types.specs.declared.timing.Direction.TheVariants.{Normal}
use Rattle.timing_types.specs.declared.timing.Fill.{Fill}
use Rattle.timing_types.specs.declared.timing.Fill.TheVariants.{Nothing}
use Rattle.timing_types.specs.declared.timing.PlayState.{PlayState}
use Rattle.timing_types.specs.declared.timing.PlayState.TheVariants.{Running}
use Rattle.value_types.specs.declared.list_value.ListName.{ListName}
use Rattle.value_types.specs.declared.list_value.ListName.TheVariants as list
use Rattle.value_types.specs.declared.list_value.ListValue.TheVariants.{Properties, Times, Easings, Names, Counts, Directions, Fills, States}
use Rattle.value_types.specs.declared.shorthand.PropertyItem.{PropertyItem}
use Rattle.value_types.specs.declared.shorthand.PropertyItem.TheVariants as item
use Rattle.list_text.specs.ItemReading.{count_of, count_within, each_of, groups_of, is_initial, is_word, items_within, micros, micros_of, micros_within, word_item}
use Rattle.list_text.specs.Lists.{direction_words, fill_words, name_of_word, property_of_word, state_words}
use Rattle.list_text.specs.Numbers.{clamped_nearest, not_negative}
use Rattle.list_text.specs.Reading.{easing_of, easing_within}
use Rattle.shorthand_text.specs.Components.{component_values_of, fitting, others}
use Rattle.shorthand_text.specs.Outcomes.{outcome_map}
use Rattle.shorthand_text.specs.Sides.{initial_lists}
use Rattle.shorthand_text.specs.declared.animation.AnimationItem.{AnimationItem}
use Rattle.shorthand_text.specs.declared.longhand.Longhand.{Longhand}
use Rattle.shorthand_text.specs.declared.longhand.Longhand.TheVariants as given
use Rattle.shorthand_text.specs.declared.transition.TransitionItem.{TransitionItem}

-- ---- the parts of an item

-- a component as a part of an item, with its numbers clamped: an easing, a time, a count, a direction, a fill mode, a play state
abbrev pub easing_in : List TokenPart → Option Easing
easing_in c = easing_of clamped_nearest c

abbrev pub time_in : List TokenPart → Option Micros
time_in c = micros_of clamped_nearest true c

abbrev pub count_in : List TokenPart → Option Count
count_in c = count_of clamped_nearest c

abbrev pub direction_in : List TokenPart → Option Direction
direction_in c = word_item (look_up direction_words) c

abbrev pub fill_in : List TokenPart → Option Fill
fill_in c = word_item (look_up fill_words) c

abbrev pub state_in : List TokenPart → Option PlayState
state_in c = word_item (look_up state_words) c

-- the first time is the duration, which is not negative
abbrev pub item_duration : Option Micros → Option Micros
item_duration t = option_map (λ n. micros (pos n)) (not_negative (unwrap_or t no_time).0)

-- what transitions, by the components that are nothing else: at most one word; None is `none`
abbrev pub property_of : List (List TokenPart) → Option (Option PropertyItem)
property_of [] = Some (Some item.All)
property_of (c ∷ []) = (if is_word (λ w. is_keyword w (codes "none")) c then Some None else option_map Some (word_item property_of_word c))
property_of _ = None

-- an animation's name, by the components that are nothing else: at most one word
abbrev pub name_in : List (List TokenPart) → Option (Option (List ℕ))
name_in [] = Some None
name_in (c ∷ []) = word_item name_of_word c
name_in _ = None

-- ---- items

-- the item of this property, of these times and easing or the initial ones
abbrev pub transition_with : Option PropertyItem → Option Micros → Option Micros → Option Easing → Option TransitionItem
transition_with property first second easing = item_duration first >>= λ duration. Some (record {
  property = property;
  duration = duration;
  delay = unwrap_or second no_time;
  easing = unwrap_or easing ease;
})

-- the item of these components, in any order: the first that fits is the easing, the first time of the others the duration, the next the
-- delay
abbrev pub transition_of_values : List (List TokenPart) → Option TransitionItem
transition_of_values cs =
    let c1 = others easing_in cs in
    let c2 = others time_in c1 in
    property_of (others time_in c2) >>= λ property. transition_with property (fitting time_in c1) (fitting time_in c2) (fitting easing_in cs)

-- the item that the parts are, which are one at least
unfoldable pub transition_item : List TokenPart → Option TransitionItem
transition_item parts = (if length parts == 0 then None else transition_of_values (component_values_of false parts))

-- the item of this name, of these times, easing and count or the initial ones, and played so
abbrev pub animation_with : Option (List ℕ) → Option Micros → Option Micros → Option Easing → Option Count → Option Direction → Option Fill → Option PlayState → Option AnimationItem
animation_with name first second easing count direction fill state = item_duration first >>= λ duration. Some (record {
  name = name;
  duration = duration;
  delay = unwrap_or second no_time;
  easing = unwrap_or easing ease;
  count = unwrap_or count once;
  direction = unwrap_or direction Normal;
  fill = unwrap_or fill Nothing;
  state = unwrap_or state Running;
})

-- the item of these components, in any order: each is the first of these that it fits and that is none yet
abbrev pub animation_of_values : List (List TokenPart) → Option AnimationItem
animation_of_values cs =
    let c1 = others direction_in cs in
    let c2 = others fill_in c1 in
    let c3 = others state_in c2 in
    let c4 = others easing_in c3 in
    let c5 = others count_in c4 in
    let c6 = others time_in c5 in
    name_in (others time_in c6) >>= λ name.
    animation_with name (fitting time_in c5) (fitting time_in c6) (fitting easing_in c3) (fitting count_in c4) (fitting direction_in cs) (fitting fill_in c1) (fitting state_in c2)

-- the item that the parts are, which are one at least
unfoldable pub animation_item : List TokenPart → Option AnimationItem
animation_item parts = (if length parts == 0 then None else animation_of_values (component_values_of false parts))

-- its numbers are within their limits
abbrev pub transition_within : TransitionItem → Bool
transition_within i = micros_within i.duration && micros_within i.delay && easing_within i.easing

abbrev pub animation_within : AnimationItem → Bool
animation_within i = micros_within i.duration && micros_within i.delay && easing_within i.easing && count_within i.count

-- ---- lists

-- `transition-property: none` has no item
abbrev pub is_nothing : TransitionItem → Bool
is_nothing i = is_none i.property

-- the items, where `none` stands alone
abbrev pub lone_nothing : Option (List TransitionItem) → Option (List TransitionItem)
lone_nothing None = None
lone_nothing (Some items) = (if list_any is_nothing items && nat_lt 1 (length items) then None else Some items)

-- the four lists of these items
abbrev pub transition_longhands : List TransitionItem → List Longhand
transition_longhands items =
    given.List list.TransitionProperty (Properties (filter_map (λ i. i.property) items))
    ∷ given.List list.TransitionDuration (Times (map (λ i. i.duration) items))
    ∷ given.List list.TransitionDelay (Times (map (λ i. i.delay) items))
    ∷ given.List list.TransitionEasing (Easings (map (λ i. i.easing) items))
    ∷ []

-- the first four lists of these items
abbrev pub timing_longhands : List AnimationItem → List Longhand
timing_longhands items =
    given.List list.AnimationName (Names (map (λ i. i.name) items))
    ∷ given.List list.AnimationDuration (Times (map (λ i. i.duration) items))
    ∷ given.List list.AnimationDelay (Times (map (λ i. i.delay) items))
    ∷ given.List list.AnimationEasing (Easings (map (λ i. i.easing) items))
    ∷ []

-- the other four
abbrev pub playing_longhands : List AnimationItem → List Longhand
playing_longhands items =
    given.List list.AnimationCount (Counts (map (λ i. i.count) items))
    ∷ given.List list.AnimationDirection (Directions (map (λ i. i.direction) items))
    ∷ given.List list.AnimationFill (Fills (map (λ i. i.fill) items))
    ∷ given.List list.AnimationPlayState (States (map (λ i. i.state) items))
    ∷ []

-- the eight lists of these items
abbrev pub animation_longhands : List AnimationItem → List Longhand
animation_longhands items = timing_longhands items ++ playing_longhands items

-- the lists of each shorthand
abbrev pub transition_lists : List ListName
transition_lists = list.TransitionProperty ∷ list.TransitionDuration ∷ list.TransitionDelay ∷ list.TransitionEasing ∷ []

abbrev pub animation_lists : List ListName
animation_lists =
    list.AnimationName ∷ list.AnimationDuration ∷ list.AnimationDelay ∷ list.AnimationEasing ∷ list.AnimationCount ∷ list.AnimationDirection
    ∷ list.AnimationFill ∷ list.AnimationPlayState ∷ []

-- what the parts declare of the lists of transitions
unfoldable pub transition_in : List TokenPart → Result (List Longhand) ValueFault
transition_in parts =
    (if is_initial parts then Ok (initial_lists transition_lists)
    else outcome_map transition_longhands (items_within transition_within (lone_nothing (each_of transition_item (groups_of false parts)))))

-- what the parts declare of the lists of animations
unfoldable pub animation_in : List TokenPart → Result (List Longhand) ValueFault
animation_in parts =
    (if is_initial parts then Ok (initial_lists animation_lists)
    else outcome_map animation_longhands (items_within animation_within (each_of animation_item (groups_of false parts))))
