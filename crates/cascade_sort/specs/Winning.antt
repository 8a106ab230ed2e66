-- The winners among the declarations that apply to an element (CSS Cascade 5, section 6).
use Rattle.std.specs.Prelude.{◌≡◌, ◌↔◌, ℕ, ◌+◌, ◌==◌, Bool, true, false, if◌then◌else◌, List, filter, map, All, Contains, IsTrue, Option, None, Some, option_map}
use Rattle.computed_style.specs.Winners.{Declarations, ListWinners, declarations, list_winner_of, place_of, winners_of}
use Rattle.computed_style.specs.declared.winners.Winners.{Winners}
use Rattle.doc_tree.specs.Element.{Element}
use Rattle.sheet_types.specs.Sheets.{SheetRules}
use Rattle.shorthand_text.specs.Targets.{target_of}
use Rattle.shorthand_text.specs.declared.known_name.KnownName.{KnownName}
use Rattle.shorthand_text.specs.declared.known_name.KnownName.TheVariants as known
use Rattle.shorthand_text.specs.declared.longhand.Longhand.{Longhand}
use Rattle.shorthand_text.specs.declared.longhand.Longhand.TheVariants as given
use Rattle.value_types.specs.ListValues.{timing_lists}
use Rattle.value_types.specs.Properties.{all_properties, number_of}
use Rattle.value_types.specs.declared.declared.Declared.{Declared}
use Rattle.value_types.specs.declared.list_value.ListName.{ListName}
use Rattle.value_types.specs.declared.list_value.ListValue.{ListValue}
use Rattle.value_types.specs.declared.property.PropertyId.{PropertyId}
use Rattle.cascade_sort.specs.Applying.{Applied, applied_to}
use Rattle.cascade_sort.specs.Lexicographic.{greatest_by, is_at_most}
use Rattle.cascade_sort.specs.Precedences.{keys_of}

-- ---- as a relation

-- the declaration is of this property or timing list, and of this importance
pub record IsDeclarationOf (target : KnownName) (important : Bool) (a : Applied) : Type 0 where
  pub of_target : target_of a.longhand ≡ target
  pub of_importance : a.important ≡ important

-- the precedence of the first is at most that of the second
abbrev pub IsAtMost : Applied → Applied → Type 0
IsAtMost a b = IsTrue (is_at_most (keys_of a.precedence) (keys_of b.precedence))

-- the declaration wins: it is in the list, of the target and the importance, and every other one of them is at most it
pub record IsWinner (xs : List Applied) (target : KnownName) (important : Bool) (a : Applied) : Type 0 where
  pub applies : Contains xs a
  pub is_of : IsDeclarationOf target important a
  pub most : All (λ b. IsDeclarationOf target important b → IsAtMost b a) xs

-- this value wins, or none exactly where no declaration is of the target and the importance
abbrev pub Wins : List Applied → KnownName → Bool → Option Longhand → Type 0
Wins xs target important None = All (λ a. IsDeclarationOf target important a → ⊥) xs
Wins xs target important (Some l) = (a : Applied) × (a.longhand ≡ l) × IsWinner xs target important a

-- the winner of a property among the important or the normal declarations
abbrev pub winner_of : Declarations → PropertyId → Bool → Option Declared
winner_of d p important = (if important then (winners_of d p).important else (winners_of d p).normal)

-- of each property and of each timing list the important and the normal declaration that win
pub record AreWinners (xs : List Applied) (d : Declarations) : Type 0 where
  pub properties : (p : PropertyId) (important : Bool) → Wins xs (known.Property p) important (option_map (given.Property p) (winner_of d p important))
  pub lists : (name : ListName) (important : Bool) → Wins xs (known.List name) important (option_map (given.List name) (list_winner_of d name important))

-- the same winners
pub record HaveSameWinners (d e : Declarations) : Type 0 where
  pub properties : (p : PropertyId) (important : Bool) → winner_of d p important ≡ winner_of e p important
  pub lists : (name : ListName) (important : Bool) → list_winner_of d name important ≡ list_winner_of e name important

-- the lists have the same declarations, in any order
abbrev pub HaveSameMembers : List Applied → List Applied → Type 0
HaveSameMembers xs ys = (a : Applied) → Contains xs a ↔ Contains ys a

-- declarations of one precedence are the same
abbrev pub AreApart : List Applied → Type 0
AreApart xs = (a b : Applied) → Contains xs a → Contains xs b → a.precedence ≡ b.precedence → a ≡ b

-- ---- as a function

-- the number of the property or timing list that is given a value, among the 36
abbrev pub longhand_number : Longhand → ℕ
longhand_number (given.Property p d) = number_of p
longhand_number (given.List name v) = place_of name + 24

-- the number of a property or timing list, and after all normal ones of an important one
abbrev pub slot : Bool → ℕ → ℕ
slot true number = number + 36
slot false number = number

abbrev pub slot_of : Applied → ℕ
slot_of a = slot a.important (longhand_number a.longhand)

abbrev pub is_in_slot : ℕ → Applied → Bool
is_in_slot n a = slot_of a == n

-- the winner of a slot; of several of the greatest precedence, which no two declarations of an element have, the last
abbrev pub winner_in : List Applied → ℕ → Option Applied
winner_in xs n = greatest_by (λ a. keys_of a.precedence) (filter (is_in_slot n) xs)

-- what it gives a property
abbrev pub given_property : Longhand → Option Declared
given_property (given.Property p d) = Some d
given_property (given.List name v) = None

-- what it gives a timing list
abbrev pub given_list : Longhand → Option ListValue
given_list (given.Property p d) = None
given_list (given.List name v) = Some v

abbrev pub property_in : Option Applied → Option Declared
property_in None = None
property_in (Some a) = given_property a.longhand

abbrev pub list_in : Option Applied → Option ListValue
list_in None = None
list_in (Some a) = given_list a.longhand

abbrev pub property_winners : List Applied → PropertyId → Winners
property_winners xs p = record {
  important = property_in (winner_in xs (slot true (number_of p)));
  normal = property_in (winner_in xs (slot false (number_of p)));
}

abbrev pub list_winners : List Applied → ListName → ListWinners
list_winners xs name = record {
  important = list_in (winner_in xs (slot true (place_of name + 24)));
  normal = list_in (winner_in xs (slot false (place_of name + 24)));
}

-- the winners of each property and of each timing list
unfoldable pub all_winners : List Applied → Declarations
all_winners xs = declarations (map (property_winners xs) all_properties) (map (list_winners xs) timing_lists)

-- the winning declarations of element n
abbrev pub declared_of : List (Option SheetRules) → List Element → ℕ → Declarations
declared_of sheets es n = all_winners (applied_to sheets es n)
