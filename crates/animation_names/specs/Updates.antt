-- The animations of an element after a style change event, and those that it cancels (CSS Animations Level 1, "The animation-name property").
use Rattle.std.specs.Prelude.{◌≡◌, ◌==◌, ℕ, zero, suc, Bool, false, ◌||◌, List, Option, None, Some, count_by, filter, is_some, length, nat_lt, option_map, reverse, slice_get, if◌then◌else◌}
use Rattle.std.specs.Option.{option_and_then, option_map_or}
use Rattle.fix_num.specs.declared.units.Micros.{Micros}
use Rattle.sheet_types.specs.Sheets.{SheetRules}
use Rattle.style_data.specs.declared.animation.AnimationState.{AnimationState}
use Rattle.style_data.specs.declared.gone.Gone.{Gone}
use Rattle.timing_types.specs.TimingLists.{AnimationValues}
use Rattle.animation_names.specs.Continuing.{animation_from, cancelled_animation, is_paused_at, timing_at}
use Rattle.animation_names.specs.NameLists.{NamesUpdate, animated_at, called_after, has_keyframes, is_called, name_at, names_update, old_name_at, places_after}
use Rattle.animation_names.specs.Numbered.{given_below}
use Rattle.animation_names.specs.Pairings.{IsPairing}

-- ---- by a pairing

-- the animation at a place, which goes on with what the place takes
abbrev pub animation_taking : NamesUpdate → (ℕ → Option ℕ) → ℕ → Option AnimationState
animation_taking u takes i = option_map (λ name. animation_from u i name (option_and_then (slice_get u.old) (takes i))) (name_at u i)

-- whether one of the first n places takes an animation
abbrev pub some_takes : (ℕ → Option ℕ) → ℕ → ℕ → Bool
some_takes takes zero j = false
some_takes takes (suc n) j = option_map_or (λ i. i == j) (takes n) false || some_takes takes n j

-- an animation that no place takes is cancelled
abbrev pub gone_leaving : NamesUpdate → (ℕ → Option ℕ) → ℕ → Option Gone
gone_leaving u takes j = (if some_takes takes (length u.lists.names) j then None else option_map (cancelled_animation u.time) (slice_get u.old j))

-- by a pairing of the new list with the old one, the animations by their places, and those that are cancelled, in the order of the old list
pub record AreUpdated (u : NamesUpdate) (animations : List AnimationState) (gone : List Gone) : Type 0 where
  pub takes : ℕ → Option ℕ
  pub pairing : IsPairing (name_at u) (old_name_at u) takes
  pub continued : animations ≡ given_below (animation_taking u takes) (length u.lists.names)
  pub cancelled : gone ≡ given_below (gone_leaving u takes) (length u.old)

-- ---- the same as functions

-- the old animation that goes on at a place with the name: that with as many of the name after it as the place has
abbrev pub kept_at : List AnimationState → List (Option (List ℕ)) → ℕ → List ℕ → Option AnimationState
kept_at old names i name = slice_get (filter (is_called name) (reverse old)) (places_after names i name)

-- the animation at a place: none where the place has no name
abbrev pub animation_at : NamesUpdate → ℕ → Option AnimationState
animation_at u i = option_map (λ name. animation_from u i name (kept_at u.old u.lists.names i name)) (name_at u i)

-- the animations after the event
unfoldable pub animations_after : NamesUpdate → List AnimationState
animations_after u = given_below (animation_at u) (length u.lists.names)

-- an old animation goes on where fewer of its name stand after it than there are now
abbrev pub goes_on : List AnimationState → List AnimationState → ℕ → AnimationState → Bool
goes_on old animations j a = nat_lt (called_after old j a.name) (count_by (is_called a.name) animations)

-- an old animation that doesn't go on among these is cancelled
abbrev pub gone_from : Micros → List AnimationState → List AnimationState → ℕ → AnimationState → Option Gone
gone_from time old animations j a = (if goes_on old animations j a then None else Some (cancelled_animation time a))

-- that at an index of the old list
abbrev pub gone_at : Micros → List AnimationState → List AnimationState → ℕ → Option Gone
gone_at time old animations j = option_and_then (gone_from time old animations j) (slice_get old j)

-- those of the old animations that don't go on among these
abbrev pub gone_among : Micros → List AnimationState → List AnimationState → List Gone
gone_among time old animations = given_below (gone_at time old animations) (length old)

-- the animations that the event cancels, in the order of the old list
unfoldable pub gone_after : NamesUpdate → List Gone
gone_after u = gone_among u.time u.old (animations_after u)

-- ---- both together

-- the animations after an event, and those that it cancels
pub record PairedLists : Type 0 where
  pub animations : List AnimationState
  pub gone : List Gone

-- what a style change event at a time, in the frame of this number, makes of an element's animations at this tree position
abbrev pub paired_of : List AnimationState → AnimationValues → List (Option SheetRules) → Micros → ℕ → ℕ → PairedLists
paired_of old lists sheets time generation position =
    let u = names_update old lists sheets time generation position in
    record { animations = animations_after u; gone = gone_after u }

-- ---- animations that lists have left

-- the animation of a place: it has its name, its timing and its play state, and there is none where the place has no name
abbrev pub IsAnimationOf : AnimationValues → ℕ → Option (List ℕ) → Option AnimationState → Type 0
IsAnimationOf lists i None None = Unit {0}
IsAnimationOf lists i (Some name) (Some a) =
    (a.name ≡ name) × (a.place ≡ i) × (a.timing ≡ timing_at lists i) × (is_some a.hold ≡ is_paused_at lists i)
IsAnimationOf lists i None (Some a) = ⊥
IsAnimationOf lists i (Some name) None = ⊥

-- the animations are those of the places of these lists, whose names have rules in these sheets
pub record AreAnimationsOf (lists : AnimationValues) (sheets : List (Option SheetRules)) (animations : List AnimationState) : Type 0 where
  pub at : ℕ → Option AnimationState
  pub list : animations ≡ given_below at (length lists.names)
  pub each : (i : ℕ) → IsAnimationOf lists i (animated_at (has_keyframes sheets) lists.names i) (at i)
