-- The spellings of timing lists (CSS Transitions 1, "Transitions"; CSS Animations 1, "Declaring Animations").
use Rattle.std.specs.Prelude.{◌≡◌, ℕ, ◌<◌, ◌≤◌, ℤ, pos, ◌≤ℤ◌, ◌||◌, if◌then◌else◌, List, [], ◌∷◌, ◌++◌, length, codes, IsTrue, Option, None, Some, Result, Ok, Err, ⊤}
use Rattle.fix_num.specs.Rounded.{StandsNear}
use Rattle.fix_num.specs.declared.units.Micros.{Micros}
use Rattle.token_parts.specs.Keywords.{is_keyword, look_up}
use Rattle.token_parts.specs.Parts.{TokenPart, Ident, Number, Dimension, Comma}
use Rattle.token_parts.specs.declared.fault.ValueFault.{ValueFault}
use Rattle.token_parts.specs.declared.fault.ValueFault.TheVariants.{Unsupported, BoundItems, Bound, NoMemory}
use Rattle.value_types.specs.ListValues.{IsListValueFor}
use Rattle.timing_types.specs.Names.{is_animation_name, is_reserved}
use Rattle.value_types.specs.Properties.{property_named}
use Rattle.timing_types.specs.declared.limits.TheConstants.{MAX_ITEMS}
use Rattle.value_types.specs.declared.list_value.ListName.{ListName}
use Rattle.value_types.specs.declared.list_value.ListName.TheVariants as list
use Rattle.value_types.specs.declared.list_value.ListValue.{ListValue}
use Rattle.value_types.specs.declared.list_value.ListValue.TheVariants.{Inherit, Initial, Properties, Times, Easings, Names, Counts, Directions, Fills, States}
use Rattle.value_types.specs.declared.property.PropertyId.{PropertyId}
use Rattle.value_types.specs.declared.shorthand.PropertyItem.{PropertyItem}
use Rattle.value_types.specs.declared.shorthand.PropertyItem.TheVariants as item
use Rattle.value_types.specs.declared.shorthand.Shorthand.{Shorthand}
use Rattle.value_types.specs.declared.shorthand.Shorthand.TheVariants.{Background, Inset, Margin, Padding}
use Rattle.timing_types.specs.declared.timing.Count.{Count}
use Rattle.timing_types.specs.declared.timing.Count.TheVariants as count
use Rattle.timing_types.specs.declared.timing.Direction.{Direction}
use Rattle.timing_types.specs.declared.timing.Direction.TheVariants.{Normal, Reverse, Alternate, AlternateReverse}
use Rattle.timing_types.specs.declared.timing.Fill.{Fill}
use Rattle.timing_types.specs.declared.timing.Fill.TheVariants.{Nothing, Forwards, Backwards, Both}
use Rattle.timing_types.specs.declared.timing.PlayState.{PlayState}
use Rattle.timing_types.specs.declared.timing.PlayState.TheVariants.{Running, Paused}
use Rattle.list_text.specs.Easings.{IsEasingSpelling}

-- ---- items

-- the part is a word with that meaning
abbrev pub IsWord : {T : Type 0} → (List ℕ → Option T) → List TokenPart → T → Type 0
IsWord meaning parts x = (w : List ℕ) × (parts ≡ Ident w ∷ []) × (meaning w ≡ Some x)

-- the directions by keyword
abbrev pub direction_words : List (List ℕ × Direction)
direction_words = (codes "normal", Normal) ∷ (codes "reverse", Reverse) ∷ (codes "alternate", Alternate)
    ∷ (codes "alternate-reverse", AlternateReverse) ∷ []

-- the fill modes by keyword
abbrev pub fill_words : List (List ℕ × Fill)
fill_words = (codes "none", Nothing) ∷ (codes "forwards", Forwards) ∷ (codes "backwards", Backwards) ∷ (codes "both", Both) ∷ []

-- the play states by keyword
abbrev pub state_words : List (List ℕ × PlayState)
state_words = (codes "running", Running) ∷ (codes "paused", Paused) ∷ []

-- the shorthands but `all` by keyword
abbrev pub shorthand_words : List (List ℕ × Shorthand)
shorthand_words = (codes "background", Background) ∷ (codes "inset", Inset) ∷ (codes "margin", Margin) ∷ (codes "padding", Padding) ∷ []

-- an animation's name, as it is written, or `none`
abbrev pub name_of_word : List ℕ → Option (Option (List ℕ))
name_of_word w = (if is_keyword w (codes "none") then Some None else if is_animation_name w then Some (Some w) else None)

-- the property, else the shorthand that has the name
abbrev pub property_item : Option PropertyId → Option Shorthand → PropertyItem
property_item (Some p) s = item.Property p
property_item None (Some s) = item.Short s
property_item None None = item.Unknown

-- what transitions: `none` and the keywords of the cascade are no items
abbrev pub property_of_word : List ℕ → Option PropertyItem
property_of_word w =
    (if is_reserved w then None
    else if is_keyword w (codes "all") then Some item.All
    else Some (property_item (property_named w) (look_up shorthand_words w)))

-- a time in microseconds: of seconds to six places, of milliseconds to three
pub data IsTime : List TokenPart → ℤ → Type 0 where
  seconds : (n u : List ℕ) (v : ℤ) → IsTrue (is_keyword u (codes "s")) → StandsNear 6 n v → IsTime (Dimension n u ∷ []) v
  milliseconds : (n u : List ℕ) (v : ℤ) → IsTrue (is_keyword u (codes "ms")) → StandsNear 3 n v → IsTime (Dimension n u ∷ []) v

-- a delay is any time
abbrev pub IsDelaySpelling : List TokenPart → Micros → Type 0
IsDelaySpelling parts t = IsTime parts t.0

-- a duration is not negative
abbrev pub IsDurationSpelling : List TokenPart → Micros → Type 0
IsDurationSpelling parts t = IsTime parts t.0 × (pos 0 ≤ℤ t.0)

-- a count is a number that is not negative, in millionths, or `infinite`
pub data IsCountSpelling : List TokenPart → Count → Type 0 where
  times : (n : List ℕ) (v : ℤ) → StandsNear 6 n v → pos 0 ≤ℤ v → IsCountSpelling (Number n ∷ []) (count.Times (record { 0 = v }))
  infinite : (w : List ℕ) → IsTrue (is_keyword w (codes "infinite")) → IsCountSpelling (Ident w ∷ []) count.Infinite

-- ---- lists

-- items, with a comma between each and the next
pub data AreItems {T : Type 0} (P : List TokenPart → T → Type 0) : List TokenPart → List T → Type 0 where
  last : (parts : List TokenPart) (x : T) → P parts x → AreItems P parts (x ∷ [])
  more : (parts rest : List TokenPart) (x : T) (xs : List T) → P parts x → AreItems P rest xs
      → AreItems P (parts ++ Comma ∷ rest) (x ∷ xs)

-- the parts are items of the list
abbrev pub AreItemsOf : ListName → List TokenPart → ListValue → Type 0
AreItemsOf list.TransitionProperty parts (Properties xs) = AreItems (IsWord property_of_word) parts xs
AreItemsOf list.TransitionDuration parts (Times xs) = AreItems IsDurationSpelling parts xs
AreItemsOf list.TransitionDelay parts (Times xs) = AreItems IsDelaySpelling parts xs
AreItemsOf list.TransitionEasing parts (Easings xs) = AreItems IsEasingSpelling parts xs
AreItemsOf list.AnimationName parts (Names xs) = AreItems (IsWord name_of_word) parts xs
AreItemsOf list.AnimationDuration parts (Times xs) = AreItems IsDurationSpelling parts xs
AreItemsOf list.AnimationDelay parts (Times xs) = AreItems IsDelaySpelling parts xs
AreItemsOf list.AnimationEasing parts (Easings xs) = AreItems IsEasingSpelling parts xs
AreItemsOf list.AnimationCount parts (Counts xs) = AreItems IsCountSpelling parts xs
AreItemsOf list.AnimationDirection parts (Directions xs) = AreItems (IsWord (look_up direction_words)) parts xs
AreItemsOf list.AnimationFill parts (Fills xs) = AreItems (IsWord (look_up fill_words)) parts xs
AreItemsOf list.AnimationPlayState parts (States xs) = AreItems (IsWord (look_up state_words)) parts xs
AreItemsOf _ parts _ = ⊥

-- the parts spell the value of the list, whatever the size of its numbers: no list is inherited, so `unset` is `initial`
pub data IsListSpelling : ListName → List TokenPart → ListValue → Type 0 where
  initial : (name : ListName) (w : List ℕ) → IsTrue (is_keyword w (codes "initial") || is_keyword w (codes "unset"))
      → IsListSpelling name (Ident w ∷ []) Initial
  nothing : (w : List ℕ) → IsTrue (is_keyword w (codes "none")) → IsListSpelling list.TransitionProperty (Ident w ∷ []) (Properties [])
  items : (name : ListName) (parts : List TokenPart) (v : ListValue) → AreItemsOf name parts v → IsListSpelling name parts v

-- how many items it has
abbrev pub item_count : ListValue → ℕ
item_count Inherit = 0
item_count Initial = 0
item_count (Properties xs) = length xs
item_count (Times xs) = length xs
item_count (Easings xs) = length xs
item_count (Names xs) = length xs
item_count (Counts xs) = length xs
item_count (Directions xs) = length xs
item_count (Fills xs) = length xs
item_count (States xs) = length xs

-- the answer of the reader of these parts, unless memory runs out
abbrev pub IsListAnswer : ListName → List TokenPart → Result ListValue ValueFault → Type 0
IsListAnswer name parts (Ok v) = IsListSpelling name parts v × (item_count v ≤ MAX_ITEMS) × IsListValueFor name v
IsListAnswer name parts (Err Unsupported) = (v : ListValue) → IsListSpelling name parts v → ⊥
IsListAnswer name parts (Err BoundItems) = (v : ListValue) × IsListSpelling name parts v × (MAX_ITEMS < item_count v)
IsListAnswer name parts (Err Bound) = (v : ListValue) × IsListSpelling name parts v × (item_count v ≤ MAX_ITEMS) × (IsListValueFor name v → ⊥)
IsListAnswer name parts (Err NoMemory) = ⊤
