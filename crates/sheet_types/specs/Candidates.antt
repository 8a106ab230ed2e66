-- Which selectors of a sheet may match an element, by what their last compounds name (Selectors 4, section 3.1, "compound
-- selector").
use Rattle.std.specs.Prelude.{◌≡◌, ℕ, ◌+◌, Bool, true, false, List, [], ◌∷◌, ◌++◌, Contains, IsTrue, slice_get, Option, None, Some}
use Rattle.std.specs.Option.{option_map_or}
use Rattle.std.specs.Str.{bytes_eq}
use Rattle.doc_tree.specs.Element.{Element}
use Rattle.selectors_mini.specs.Compounds.{CompoundSelector, subject_of}
use Rattle.sheet_types.specs.declared.rule.Rule.{Rule}
use Rattle.sheet_types.specs.declared.selector_place.SelectorPlace.{SelectorPlace}

-- what the elements that a selector matches have in common
pub data SelectorKey : Type 0 where
  ById : List ℕ → SelectorKey
  ByClass : List ℕ → SelectorKey
  ByType : List ℕ → SelectorKey
  ForAny : SelectorKey

-- the element has it
abbrev pub HasKey : Element → SelectorKey → Type 0
HasKey e (ById id) = e.id ≡ Some id
HasKey e (ByClass class) = Contains e.classes class
HasKey e (ByType tag) = e.tag ≡ tag
HasKey e ForAny = Unit {0}

abbrev pub type_key : Option (List ℕ) → SelectorKey
type_key (Some tag) = ByType tag
type_key None = ForAny

abbrev pub class_key : List (List ℕ) → Option (List ℕ) → SelectorKey
class_key (class ∷ classes) tag = ByClass class
class_key [] tag = type_key tag

abbrev pub id_key : List (List ℕ) → List (List ℕ) → Option (List ℕ) → SelectorKey
id_key (id ∷ ids) classes tag = ById id
id_key [] classes tag = class_key classes tag

-- a compound's key: its first id, else its first class, else its type, where it names one
abbrev pub key_of : CompoundSelector → SelectorKey
key_of c = id_key c.ids c.classes c.tag

abbrev pub same_key : SelectorKey → SelectorKey → Bool
same_key (ById a) (ById b) = bytes_eq a b
same_key (ByClass a) (ByClass b) = bytes_eq a b
same_key (ByType a) (ByType b) = bytes_eq a b
same_key ForAny ForAny = true
same_key _ _ = false

-- the key is that of the selector's last compound
abbrev pub has_key : SelectorKey → List CompoundSelector → Bool
has_key key s = option_map_or (λ c. same_key key (key_of c)) (subject_of s) false

abbrev pub selector_place : ℕ → ℕ → SelectorPlace
selector_place rule at = record { rule = rule; selector = at }

-- one place where the test holds
abbrev pub place_if : Bool → SelectorPlace → List SelectorPlace
place_if true place = place ∷ []
place_if false place = []

-- those of a rule's selectors that have the key, counted from the index
abbrev pub places_in : SelectorKey → ℕ → ℕ → List (List CompoundSelector) → List SelectorPlace
places_in key rule at [] = []
places_in key rule at (s ∷ ss) = place_if (has_key key s) (selector_place rule at) ++ places_in key rule (at + 1) ss

abbrev pub candidates_from : SelectorKey → ℕ → List Rule → List SelectorPlace
candidates_from key at [] = []
candidates_from key at (r ∷ rs) = places_in key at 0 r.selectors ++ candidates_from key (at + 1) rs

-- the places of the selectors with the key, in the order of the sheet
abbrev pub candidates_of : SelectorKey → List Rule → List SelectorPlace
candidates_of key rules = candidates_from key 0 rules

-- the selector at the place
abbrev pub selector_at : List Rule → SelectorPlace → Option (List CompoundSelector)
selector_at rules place = option_map_or (λ r. slice_get r.selectors place.selector) (slice_get rules place.rule) None

-- at the place stands a selector with the key
pub record IsKeyed (rules : List Rule) (key : SelectorKey) (place : SelectorPlace) : Type 0 where
  pub selector : List CompoundSelector
  pub stands : selector_at rules place ≡ Some selector
  pub keyed : IsTrue (has_key key selector)
