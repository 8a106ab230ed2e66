-- How an index stands for the places of selectors.
use Rattle.std.specs.Prelude.{◌≡◌, ℕ, Bool, List, [], ◌++◌, length, map, slice_index_or}
use Rattle.std.specs.Global.{Vec}
use Rattle.std.specs.List.{position_or_len}
use Rattle.std.specs.Str.{bytes_eq}
use Rattle.selectors_mini.specs.Compounds.{CompoundSelector}
use Rattle.sheet_types.specs.declared.name_index.NameIndex.{NameIndex}
use Rattle.sheet_types.specs.declared.rule.Rule.{Rule}
use Rattle.sheet_types.specs.declared.selector_index.SelectorIndex.{SelectorIndex}
use Rattle.sheet_types.specs.declared.selector_place.SelectorPlace.{SelectorPlace}
use Rattle.sheet_types.specs.Candidates.{SelectorKey, ById, ByClass, ByType, ForAny, candidates_of, place_if, places_in, same_key}

-- ---- by name

abbrev pub is_named : List ℕ → Vec ℕ → Bool
is_named name key = bytes_eq name key.items

-- there is a list for each name
abbrev pub IsAligned : NameIndex → Type 0
IsAligned index = length index.names.keys ≡ length index.lists.items

-- the list at the place of the name; none where the name has no place
unfoldable pub held_in : List (Vec ℕ) → List (Vec SelectorPlace) → List ℕ → List SelectorPlace
held_in names lists name = slice_index_or (map (λ list. list.items) lists) (position_or_len (is_named name) names) []

abbrev pub held_under : NameIndex → List ℕ → List SelectorPlace
held_under index name = held_in index.names.keys index.lists.items name

abbrev pub HoldsNothing : NameIndex → Type 0
HoldsNothing index = (name : List ℕ) → held_under index name ≡ []

-- the place was put under the name, after those that stood there, and under no other
abbrev pub IsPutUnder : NameIndex → List ℕ → SelectorPlace → NameIndex → Type 0
IsPutUnder before name place after = (other : List ℕ)
    → held_under after other ≡ held_under before other ++ place_if (bytes_eq other name) place

-- ---- by key

pub record IsSound (index : SelectorIndex) : Type 0 where
  pub ids : IsAligned index.ids
  pub classes : IsAligned index.classes
  pub types : IsAligned index.types

-- the places under the key
unfoldable pub held : SelectorIndex → SelectorKey → List SelectorPlace
held index (ById id) = held_under index.ids id
held index (ByClass class) = held_under index.classes class
held index (ByType tag) = held_under index.types tag
held index ForAny = index.others.items

abbrev pub IsEmptyIndex : SelectorIndex → Type 0
IsEmptyIndex index = (key : SelectorKey) → held index key ≡ []

-- the place was put under the key, after those that stood there, and under no other
abbrev pub IsPut : SelectorIndex → SelectorKey → SelectorPlace → SelectorIndex → Type 0
IsPut before key place after = (other : SelectorKey) → held after other ≡ held before other ++ place_if (same_key other key) place

-- so were the selectors of a rule, each under its key
abbrev pub IsPutRule : SelectorIndex → ℕ → List (List CompoundSelector) → SelectorIndex → Type 0
IsPutRule before rule selectors after = (key : SelectorKey) → held after key ≡ held before key ++ places_in key rule 0 selectors

-- under each key the index has the selectors of the rules with that key, and misses none
abbrev pub IsIndexOf : SelectorIndex → List Rule → Type 0
IsIndexOf index rules = (key : SelectorKey) → held index key ≡ candidates_of key rules
