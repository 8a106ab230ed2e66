-- What the parts of a value declare of a known name.
use Rattle.std.specs.Prelude.{◌≡◌, List, [], ◌∷◌, Result, Ok, Err, ⊤}
use Rattle.token_parts.specs.Parts.{TokenPart}
use Rattle.token_parts.specs.declared.fault.ValueFault.{ValueFault}
use Rattle.token_parts.specs.declared.fault.ValueFault.TheVariants.{NoMemory}
use Rattle.value_text.specs.Reading.{declared_reading}
use Rattle.list_text.specs.ItemReading.{list_of}
use Rattle.shorthand_text.specs.Outcomes.{outcome_map}
use Rattle.shorthand_text.specs.Sides.{shorthand_in}
use Rattle.shorthand_text.specs.TimingItems.{animation_in, transition_in}
use Rattle.shorthand_text.specs.declared.known_name.KnownName.{KnownName}
use Rattle.shorthand_text.specs.declared.known_name.KnownName.TheVariants as known
use Rattle.shorthand_text.specs.declared.longhand.Longhand.{Longhand}
use Rattle.shorthand_text.specs.declared.longhand.Longhand.TheVariants as given

-- the longhands that the parts declare
unfoldable pub declared_of : KnownName → List TokenPart → Result (List Longhand) ValueFault
declared_of (known.Property p) parts = outcome_map (λ d. given.Property p d ∷ []) (declared_reading p parts)
declared_of (known.List n) parts = outcome_map (λ v. given.List n v ∷ []) (list_of n parts)
declared_of (known.Short s) parts = shorthand_in s parts
declared_of known.Transition parts = transition_in parts
declared_of known.Animation parts = animation_in parts

-- the result is that outcome, unless memory ran out
abbrev pub Reads : {X Y : Type 0} → (X → Y) → Result X ValueFault → Result Y ValueFault → Type 0
Reads view (Ok x) wanted = wanted ≡ Ok (view x)
Reads view (Err NoMemory) wanted = ⊤
Reads view (Err fault) wanted = wanted ≡ Err fault
