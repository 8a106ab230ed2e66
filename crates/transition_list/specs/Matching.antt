-- Matching of transition-property values (CSS Transitions 1, section 3; the repeating of lists: section 2.1).
use Rattle.std.specs.Prelude.{◌≡◌, ℕ, ◌+◌, ◌<◌, ◌%◌, nat_eq, Bool, true, false, List, [], ◌∷◌, All, length, slice_get, slice_index_or, Option, None, Some, IfSome, IsSomeAnd, IsTrue, option_map}
use Rattle.std.specs.List.{list_any}
use Rattle.transition_list.specs.declared.matched.MatchedItem.{MatchedItem}
use Rattle.value_types.specs.Properties.{number_of}
use Rattle.value_types.specs.Shorthands.{longhands_of}
use Rattle.timing_types.specs.Timing.{ease}
use Rattle.timing_types.specs.TimingLists.{no_time}
use Rattle.value_types.specs.TransitionLists.{TransitionValues}
use Rattle.value_types.specs.declared.property.PropertyId.{PropertyId}
use Rattle.value_types.specs.declared.shorthand.PropertyItem.{PropertyItem}
use Rattle.value_types.specs.declared.shorthand.PropertyItem.TheVariants as item

-- the property is among these
abbrev pub is_among : PropertyId → List PropertyId → Bool
is_among p properties = list_any (λ q. nat_eq (number_of q) (number_of p)) properties

-- whether the item names the property: it is the property, a shorthand that stands for it, or `all`
abbrev pub names : PropertyItem → PropertyId → Bool
names item.All p = true
names (item.Property q) p = nat_eq (number_of q) (number_of p)
names (item.Short s) p = is_among p (longhands_of s)
names item.Unknown p = false

-- the item at i is the last that names the property
pub record IsLastNamed (p : PropertyId) (items : List PropertyItem) (i : ℕ) : Type 0 where
  pub names_it : IsSomeAnd (slice_get items i) (λ x. IsTrue (names x p))
  pub last : (j : ℕ) → i < j → IfSome (slice_get items j) (λ x. names x p ≡ false)

-- the item at an index of a list that is repeated
abbrev pub repeated : {A : Type 0} → A → List A → ℕ → A
repeated none xs i = slice_index_or xs (i % length xs) none

-- what the lists give at an index
abbrev pub match_at : TransitionValues → ℕ → MatchedItem
match_at lists i = record {
  duration = repeated no_time lists.durations i;
  delay = repeated no_time lists.delays i;
  easing = repeated ease lists.easings i;
}

-- the match of a property: what the lists give at the index of the last item that names it, and none where no item does
abbrev pub IsMatchOf : TransitionValues → PropertyId → Option MatchedItem → Type 0
IsMatchOf lists p (Some m) = (i : ℕ) × IsLastNamed p lists.items i × (m ≡ match_at lists i)
IsMatchOf lists p None = All (λ x. names x p ≡ false) lists.items

-- ---- the same as functions

-- the later one, else this one where it names the property
abbrev pub later : Option ℕ → Bool → ℕ → Option ℕ
later (Some i) named n = Some i
later None true n = Some n
later None false n = None

-- the index of the last item that names the property, the first item having this one
unfoldable pub last_named_from : ℕ → PropertyId → List PropertyItem → Option ℕ
last_named_from n p [] = None
last_named_from n p (x ∷ xs) = later (last_named_from (n + 1) p xs) (names x p) n

abbrev pub last_named : PropertyId → List PropertyItem → Option ℕ
last_named p items = last_named_from 0 p items

abbrev pub match_of : TransitionValues → PropertyId → Option MatchedItem
match_of lists p = option_map (match_at lists) (last_named p lists.items)
