-- Lists of what properties have, each item with its property.
use Rattle.std.specs.Prelude.{◌<◌, nat_eq, List, find, Option, option_map}
use Rattle.value_types.specs.Properties.{number_of}
use Rattle.value_types.specs.declared.property.PropertyId.{PropertyId}

-- of a smaller property number than the other
abbrev pub IsBefore : {A : Type 0} → PropertyId × A → PropertyId × A → Type 0
IsBefore a b = number_of a.0 < number_of b.0

-- what the list has for the property: the first, if it has several
abbrev pub kept_for : {A : Type 0} → PropertyId → List (PropertyId × A) → Option A
kept_for p kept = option_map (λ k. k.1) (find (λ k. nat_eq (number_of k.0) (number_of p)) kept)
