-- The lists that time the animations of an element (CSS Animations 1, "Declaring Animations").
use Rattle.std.specs.Prelude.{ℕ, ◌<◌, ◌≤◌, List, [], ◌∷◌, length, All, pos, Option, None}
use Rattle.fix_num.specs.declared.units.Micros.{Micros}
use Rattle.fix_num.specs.declared.units.TheConstants.Fix.{ONE}
use Rattle.timing_types.specs.declared.easing.Easing.{Easing}
use Rattle.timing_types.specs.declared.limits.TheConstants.{MAX_ITEMS}
use Rattle.timing_types.specs.declared.timing.Count.{Count}
use Rattle.timing_types.specs.declared.timing.Count.TheVariants.{Times}
use Rattle.timing_types.specs.declared.timing.Direction.{Direction}
use Rattle.timing_types.specs.declared.timing.Direction.TheVariants.{Normal}
use Rattle.timing_types.specs.declared.timing.Fill.{Fill}
use Rattle.timing_types.specs.declared.timing.Fill.TheVariants.{Nothing}
use Rattle.timing_types.specs.declared.timing.PlayState.{PlayState}
use Rattle.timing_types.specs.declared.timing.PlayState.TheVariants.{Running}
use Rattle.timing_types.specs.Names.{IsNameItem}
use Rattle.timing_types.specs.Timing.{IsAny, IsEasing, IsDuration, IsDelay, IsCount, ease}

-- the eight lists that time animations; no name is the keyword none
pub record AnimationValues : Type 0 where
  pub names : List (Option (List ℕ))
  pub durations : List Micros
  pub delays : List Micros
  pub easings : List Easing
  pub counts : List Count
  pub directions : List Direction
  pub fills : List Fill
  pub states : List PlayState

-- a list of such items: at least one, and at most as many as a list has
pub record IsListOf {T : Type 0} (P : T → Type 0) (xs : List T) : Type 0 where
  pub some : 0 < length xs
  pub few : length xs ≤ MAX_ITEMS
  pub each : All P xs

-- the lists keep their bounds, and none is empty
pub record IsAnimationValues (v : AnimationValues) : Type 0 where
  pub names : IsListOf IsNameItem v.names
  pub durations : IsListOf IsDuration v.durations
  pub delays : IsListOf IsDelay v.delays
  pub easings : IsListOf IsEasing v.easings
  pub counts : IsListOf IsCount v.counts
  pub directions : IsListOf IsAny v.directions
  pub fills : IsListOf IsAny v.fills
  pub states : IsListOf IsAny v.states

-- the eight lists together
abbrev pub animation_values : List (Option (List ℕ)) → List Micros → List Micros → List Easing → List Count → List Direction → List Fill → List PlayState → AnimationValues
animation_values names durations delays easings counts directions fills states =
    record {
      names = names;
      durations = durations;
      delays = delays;
      easings = easings;
      counts = counts;
      directions = directions;
      fills = fills;
      states = states;
    }

-- 0s
abbrev pub no_time : Micros
no_time = record { 0 = pos 0 }

-- an iteration count of 1
abbrev pub once : Count
once = Times ONE

-- the initial values: none, 0s, 0s, ease, 1, normal, none, running
abbrev pub initial_animations : AnimationValues
initial_animations =
    animation_values (None ∷ []) (no_time ∷ []) (no_time ∷ []) (ease ∷ []) (once ∷ []) (Normal ∷ []) (Nothing ∷ []) (Running ∷ [])
