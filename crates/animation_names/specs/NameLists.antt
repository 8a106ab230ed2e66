-- What a style change event has of the animations of an element: those of the event before, and the names of now (CSS Animations
-- Level 1, "The animation-name property").
use Rattle.std.specs.Prelude.{ℕ, ◌+◌, Bool, false, List, Option, None, Some, count_by, drop, is_some, option_map, slice_get, if◌then◌else◌}
use Rattle.std.specs.Option.{option_and_then}
use Rattle.std.specs.Str.{bytes_eq}
use Rattle.fix_num.specs.declared.units.Micros.{Micros}
use Rattle.sheet_types.specs.Sheets.{SheetRules, keyframes_in}
use Rattle.style_data.specs.declared.animation.AnimationState.{AnimationState}
use Rattle.timing_types.specs.TimingLists.{AnimationValues}

-- the animations of the event before, the lists of the after-change style, the sheets, the time of the event, the number of its frame and the
-- tree position of the element
pub record NamesUpdate : Type 0 where
  pub old : List AnimationState
  pub lists : AnimationValues
  pub sheets : List (Option SheetRules)
  pub time : Micros
  pub generation : ℕ
  pub position : ℕ

-- these together
abbrev pub names_update : List AnimationState → AnimationValues → List (Option SheetRules) → Micros → ℕ → ℕ → NamesUpdate
names_update old lists sheets time generation position =
    record { old = old; lists = lists; sheets = sheets; time = time; generation = generation; position = position }

-- ---- names

-- whether a sheet has a keyframes rule of the name
unfoldable pub has_keyframes : List (Option SheetRules) → List ℕ → Bool
has_keyframes sheets name = is_some (keyframes_in name sheets)

-- the name of an item, where it is other than `none` and has a keyframes rule
abbrev pub animated_name : (List ℕ → Bool) → Option (List ℕ) → Option (List ℕ)
animated_name has None = None
animated_name has (Some name) = (if has name then Some name else None)

-- that at a place of the list
abbrev pub animated_at : (List ℕ → Bool) → List (Option (List ℕ)) → ℕ → Option (List ℕ)
animated_at has names i = option_and_then (animated_name has) (slice_get names i)

-- the name of the animation at a place of the new list: none where the place has none, and past the end
abbrev pub name_at : NamesUpdate → ℕ → Option (List ℕ)
name_at u i = animated_at (has_keyframes u.sheets) u.lists.names i

-- the name of an animation of the old list
abbrev pub old_name_at : NamesUpdate → ℕ → Option (List ℕ)
old_name_at u j = option_map (λ a. a.name) (slice_get u.old j)

-- ---- counting

-- whether an item is the name
abbrev pub is_item : List ℕ → Option (List ℕ) → Bool
is_item name None = false
is_item name (Some n) = bytes_eq n name

-- whether an animation has the name
abbrev pub is_called : List ℕ → AnimationState → Bool
is_called name a = bytes_eq a.name name

-- how many places after this one have the name
abbrev pub places_after : List (Option (List ℕ)) → ℕ → List ℕ → ℕ
places_after names i name = count_by (is_item name) (drop (i + 1) names)

-- how many animations after this one have the name
abbrev pub called_after : List AnimationState → ℕ → List ℕ → ℕ
called_after old j name = count_by (is_called name) (drop (j + 1) old)
