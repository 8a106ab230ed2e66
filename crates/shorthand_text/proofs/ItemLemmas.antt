-- The parts of an item that were taken one after the other are the item's.
use Rattle.std.proofs.Common.{◌≡◌, refl, List, ℕ, Option}
use Rattle.fix_num.specs.declared.units.Micros.{Micros}
use Rattle.token_parts.specs.Parts.{TokenPart}
use Rattle.token_parts.specs.Steps.{◌>>=◌}
use Rattle.timing_types.specs.declared.easing.Easing.{Easing}
use Rattle.timing_types.specs.declared.timing.Count.{Count}
use Rattle.timing_types.specs.declared.timing.Direction.{Direction}
use Rattle.timing_types.specs.declared.timing.Fill.{Fill}
use Rattle.timing_types.specs.declared.timing.PlayState.{PlayState}
use Rattle.value_types.specs.declared.shorthand.PropertyItem.{PropertyItem}
use Rattle.shorthand_text.specs.Components.{fitting, others}
use Rattle.shorthand_text.specs.TimingItems.{animation_of_values, animation_with, count_in, direction_in, easing_in, fill_in, name_in, property_of, state_in, time_in, transition_of_values, transition_with}

-- the first that fits was taken out
abbrev pub IsTaken : {T : Type 0} → (List TokenPart → Option T) → Option T → List (List TokenPart) → List (List TokenPart) → Type 0
IsTaken meaning found cs rest = (found ≡ fitting meaning cs) × (rest ≡ others meaning cs)

pub transition_taken : (cs c1 c2 c3 : List (List TokenPart)) (easing : Option Easing) (duration delay : Option Micros) (property : Option (Option PropertyItem))
    → IsTaken easing_in easing cs c1 → IsTaken time_in duration c1 c2 → IsTaken time_in delay c2 c3 → property ≡ property_of c3
    → property >>= (λ p. transition_with p duration delay easing) ≡ transition_of_values cs
transition_taken cs c1 c2 c3 easing duration delay property e d l p = rw (p, l.1, l.0, d.1, d.0, e.1, e.0) refl

pub animation_taken : (cs c1 c2 c3 c4 c5 c6 c7 : List (List TokenPart)) (direction : Option Direction) (fill : Option Fill) (state : Option PlayState)
    (easing : Option Easing) (count : Option Count) (duration delay : Option Micros) (name : Option (Option (List ℕ)))
    → IsTaken direction_in direction cs c1 → IsTaken fill_in fill c1 c2 → IsTaken state_in state c2 c3 → IsTaken easing_in easing c3 c4
    → IsTaken count_in count c4 c5 → IsTaken time_in duration c5 c6 → IsTaken time_in delay c6 c7 → name ≡ name_in c7
    → name >>= (λ n. animation_with n duration delay easing count direction fill state) ≡ animation_of_values cs
animation_taken cs c1 c2 c3 c4 c5 c6 c7 direction fill state easing count duration delay name a b s e n d l is =
    rw (is, l.1, l.0, d.1, d.0, n.1, n.0, e.1, e.0, s.1, s.0, b.1, b.0, a.1, a.0) refl
