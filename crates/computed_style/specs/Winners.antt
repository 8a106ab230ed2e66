-- The winning declarations of an element (CSS Cascade 5, section 6).
use Rattle.std.specs.Prelude.{◌≡◌, ℕ, nat_eq, Bool, true, false, ◌||◌, is_some, List, map, set, length, slice_index_or, find, IfSome, Option, None, Some, option_map, if◌then◌else◌}
use Rattle.value_types.specs.ListValues.{IsListValueFor, timing_lists}
use Rattle.value_types.specs.Properties.{all_properties, number_of}
use Rattle.value_types.specs.Validity.{IsDeclaredFor}
use Rattle.value_types.specs.declared.declared.Declared.{Declared}
use Rattle.value_types.specs.declared.list_value.ListName.{ListName}
use Rattle.value_types.specs.declared.list_value.ListName.TheVariants as list
use Rattle.value_types.specs.declared.list_value.ListValue.{ListValue}
use Rattle.value_types.specs.declared.property.PropertyId.{PropertyId}
use Rattle.computed_style.specs.declared.winners.Winners.{Winners}

-- the declarations of one timing list that win among the important and among the normal ones
pub record ListWinners : Type 0 where
  pub important : Option ListValue
  pub normal : Option ListValue

-- the winners of each property, by number, and of each timing list, by place
pub record Declarations : Type 0 where
  pub properties : List Winners
  pub lists : List ListWinners

abbrev pub declarations : List Winners → List ListWinners → Declarations
declarations properties lists = record { properties = properties; lists = lists }

-- the place of a timing list among the twelve
abbrev pub place_of : ListName → ℕ
place_of list.TransitionProperty = 0
place_of list.TransitionDuration = 1
place_of list.TransitionDelay = 2
place_of list.TransitionEasing = 3
place_of list.AnimationName = 4
place_of list.AnimationDuration = 5
place_of list.AnimationDelay = 6
place_of list.AnimationEasing = 7
place_of list.AnimationCount = 8
place_of list.AnimationDirection = 9
place_of list.AnimationFill = 10
place_of list.AnimationPlayState = 11

-- no declaration wins
abbrev pub no_winners : Winners
no_winners = record { important = None; normal = None }

-- something is declared of the property
abbrev pub is_declared : Winners → Bool
is_declared w = is_some w.important || is_some w.normal

abbrev pub no_list_winners : ListWinners
no_list_winners = record { important = None; normal = None }

-- the winners of a property
abbrev pub winners_of : Declarations → PropertyId → Winners
winners_of d p = slice_index_or d.properties (number_of p) no_winners

-- the winners of a timing list
abbrev pub list_winners_of : Declarations → ListName → ListWinners
list_winners_of d name = slice_index_or d.lists (place_of name) no_list_winners

-- the winner of a timing list among the important or the normal declarations
abbrev pub list_winner_of : Declarations → ListName → Bool → Option ListValue
list_winner_of d name important = (if important then (list_winners_of d name).important else (list_winners_of d name).normal)

-- declared values of the property
pub record AreWinnersFor (p : PropertyId) (w : Winners) : Type 0 where
  pub important : IfSome w.important (IsDeclaredFor p)
  pub normal : IfSome w.normal (IsDeclaredFor p)

-- of each property and of each list, what is declared is a declared value of it
pub record AreDeclarations (d : Declarations) : Type 0 where
  pub count : length d.properties ≡ 24
  pub list_count : length d.lists ≡ 12
  pub each : (p : PropertyId) → AreWinnersFor p (winners_of d p)
  pub each_list : (name : ListName) (important : Bool) → IfSome (list_winner_of d name important) (IsListValueFor name)

-- nothing is declared
abbrev pub no_declarations : Declarations
no_declarations = declarations (map (λ p. no_winners) all_properties) (map (λ name. no_list_winners) timing_lists)

-- the winners with this one among the important or the normal ones
abbrev pub with_winner : Winners → Bool → Declared → Winners
with_winner w true d = record w { important = Some d }
with_winner w false d = record w { normal = Some d }

abbrev pub with_list_winner : ListWinners → Bool → ListValue → ListWinners
with_list_winner w true v = record w { important = Some v }
with_list_winner w false v = record w { normal = Some v }

-- the same declarations, but that this one of the property wins
abbrev pub with_declaration : Declarations → PropertyId → Bool → Declared → Declarations
with_declaration d p important v = record d { properties = set d.properties (number_of p) (with_winner (winners_of d p) important v) }

-- the same declarations, but that this one of the timing list wins
abbrev pub with_list_declaration : Declarations → ListName → Bool → ListValue → Declarations
with_list_declaration d name important v =
    record d { lists = set d.lists (place_of name) (with_list_winner (list_winners_of d name) important v) }

-- ---- as they are kept: what is declared alone

-- what is declared of the timing list: the first, if there are several
abbrev pub kept_for_list : {A : Type 0} → ListName → List (ListName × A) → Option A
kept_for_list name kept = option_map (λ k. k.1) (find (λ k. nat_eq (place_of k.0) (place_of name)) kept)
