-- The items of timing lists as functions of the parts.
use Rattle.std.specs.Prelude.{◌≡◌, ℕ, ℤ, pos, Bool, true, false, ◌||◌, nat_le, nat_lt, if◌then◌else◌, unsigned_abs, List, [], ◌∷◌, ◌++◌, length, codes, Option, None, Some, option_map, Result, Ok, Err, ⊤}
use Rattle.std.specs.List.{list_all}
use Rattle.fix_num.specs.declared.limits.TheConstants.{MAX_NUMBER, MAX_TIME}
use Rattle.fix_num.specs.declared.units.Micros.{Micros}
use Rattle.token_parts.specs.Keywords.{is_keyword, look_up}
use Rattle.token_parts.specs.Parts.{TokenPart, Ident, Function, Number, Dimension, Comma, Close}
use Rattle.token_parts.specs.declared.fault.ValueFault.{ValueFault}
use Rattle.token_parts.specs.declared.fault.ValueFault.TheVariants.{Unsupported, BoundItems, Bound, NoMemory}
use Rattle.timing_types.specs.declared.easing.Easing.{Easing}
use Rattle.timing_types.specs.declared.limits.TheConstants.{MAX_ITEMS}
use Rattle.value_types.specs.declared.list_value.ListName.{ListName}
use Rattle.value_types.specs.declared.list_value.ListName.TheVariants as list
use Rattle.value_types.specs.declared.list_value.ListValue.{ListValue}
use Rattle.value_types.specs.declared.list_value.ListValue.TheVariants.{Initial, Properties, Times, Easings, Names, Counts, Directions, Fills, States}
use Rattle.timing_types.specs.declared.timing.Count.{Count}
use Rattle.timing_types.specs.declared.timing.Count.TheVariants as count
use Rattle.list_text.specs.Lists.{direction_words, fill_words, state_words, name_of_word, property_of_word}
use Rattle.list_text.specs.Numbers.{clamped_nearest, not_negative}
use Rattle.token_parts.specs.Steps.{◌>>=◌}
use Rattle.list_text.specs.Reading.{Numbers, natural, word_of, easing_of, easing_within}

-- the item that a word is
abbrev pub word_item : {T : Type 0} → (List ℕ → Option T) → List TokenPart → Option T
word_item meaning parts = word_of parts >>= meaning

-- a time with its unit
unfoldable pub time_with : Numbers → List ℕ → List ℕ → Option ℤ
time_with num n u =
    (if is_keyword u (codes "s") then num 6 MAX_TIME n
    else if is_keyword u (codes "ms") then num 3 MAX_TIME n else None)

-- the time that one part is
abbrev pub time_of : Numbers → List TokenPart → Option ℤ
time_of num (Dimension n u ∷ []) = time_with num n u
time_of num _ = None

-- so many microseconds
abbrev pub micros : ℤ → Micros
micros v = record { 0 = v }

-- a time that may be negative, or may not
unfoldable pub micros_of : Numbers → Bool → List TokenPart → Option Micros
micros_of num signed parts = do
  v ← time_of num parts
  if signed then Some (micros v) else option_map (λ n. micros (pos n)) (not_negative v)

-- the count that a word is
abbrev pub count_word : List ℕ → Option Count
count_word w = (if is_keyword w (codes "infinite") then Some count.Infinite else None)

-- the count that one part is
abbrev pub count_of : Numbers → List TokenPart → Option Count
count_of num (Ident w ∷ []) = count_word w
count_of num (Number n ∷ []) = option_map (λ k. count.Times (record { 0 = pos k })) (natural num 6 MAX_NUMBER n)
count_of num _ = None

-- durations are not negative
abbrev pub has_sign : ListName → Bool
has_sign list.TransitionDuration = false
has_sign list.AnimationDuration = false
has_sign _ = true

-- the time is within its limit
abbrev pub micros_within : Micros → Bool
micros_within t = nat_le (unsigned_abs t.0) MAX_TIME

-- the count is within its limit
abbrev pub count_within : Count → Bool
count_within (count.Times n) = nat_le (unsigned_abs n.0) MAX_NUMBER
count_within count.Infinite = true

-- ---- lists

-- whether a bracket is open after the part
abbrev pub is_inside : Bool → TokenPart → Bool
is_inside inside (Function f) = true
is_inside inside Close = false
is_inside inside _ = inside

-- the part before those of the first group
abbrev pub onto_first_group : {A : Type 0} → List A → List (List A) → List (List A)
onto_first_group xs [] = []
onto_first_group xs (ys ∷ yss) = (xs ++ ys) ∷ yss

-- whether the part is a comma outside brackets
abbrev pub parts_items : Bool → TokenPart → Bool
parts_items false Comma = true
parts_items _ _ = false

-- the parts between commas outside brackets
abbrev pub groups_of : Bool → List TokenPart → List (List TokenPart)
groups_of inside [] = [] ∷ []
groups_of inside (p ∷ ps) = (if parts_items inside p then [] ∷ groups_of false ps else onto_first_group (p ∷ []) (groups_of (is_inside inside p) ps))

-- each item, where each group is one
abbrev pub each_of : {A B : Type 0} → (A → Option B) → List A → Option (List B)
each_of f [] = Some []
each_of f (x ∷ xs) = do
  y ← f x
  ys ← each_of f xs
  Some (y ∷ ys)

-- these in front of what was found
abbrev pub with_front : {B : Type 0} → List B → Option (List B) → Option (List B)
with_front front found = option_map (λ ys. front ++ ys) found

-- the items of a list, unless there are too many or one passes a limit
abbrev pub items_within : {B : Type 0} → (B → Bool) → Option (List B) → Result (List B) ValueFault
items_within within None = Err Unsupported
items_within within (Some xs) = (if nat_lt MAX_ITEMS (length xs) then Err BoundItems else if list_all within xs then Ok xs else Err Bound)

-- what was found, unless there is none or it passes a limit
abbrev pub judgement_of : {B : Type 0} → (B → Bool) → Option B → Result B ValueFault
judgement_of within None = Err Unsupported
judgement_of within (Some x) = (if within x then Ok x else Err Bound)

-- the answer for an easing
abbrev pub easing_read : List TokenPart → Result Easing ValueFault
easing_read parts = judgement_of easing_within (easing_of clamped_nearest parts)

-- the answer is that one, unless memory ran out
abbrev pub Gives : {X Y : Type 0} → (X → Y) → Result X ValueFault → Result Y ValueFault → Type 0
Gives view (Ok x) wanted = wanted ≡ Ok (view x)
Gives view (Err NoMemory) wanted = ⊤
Gives view (Err e) wanted = wanted ≡ Err e

-- the answer with f of what it gives
abbrev pub result_map : {X Y : Type 0} → (X → Y) → Result X ValueFault → Result Y ValueFault
result_map f (Ok x) = Ok (f x)
result_map f (Err e) = Err e

-- the answer for the items that stand between commas
abbrev pub items_of : {B : Type 0} → (List TokenPart → Option B) → (B → Bool) → List TokenPart → Result (List B) ValueFault
items_of item within parts = items_within within (each_of item (groups_of false parts))

-- every value is within
abbrev pub any : {B : Type 0} → B → Bool
any x = true

-- the parts are one word, and that passes
abbrev pub is_word : (List ℕ → Bool) → List TokenPart → Bool
is_word test (Ident w ∷ []) = test w
is_word test _ = false

-- the parts are one of the keywords that stand for the initial value
abbrev pub is_initial : List TokenPart → Bool
is_initial = is_word (λ w. is_keyword w (codes "initial") || is_keyword w (codes "unset"))

-- the answer for transition-property, where `none` alone is the list of no item
unfoldable pub properties_of : List TokenPart → Result ListValue ValueFault
properties_of parts =
    (if is_word (λ w. is_keyword w (codes "none")) parts then Ok (Properties [])
    else result_map Properties (items_of (word_item property_of_word) any parts))

-- the list's value by its items
abbrev pub list_value_of : ListName → List TokenPart → Result ListValue ValueFault
list_value_of list.TransitionProperty parts = properties_of parts
list_value_of list.TransitionDuration parts = result_map Times (items_of (micros_of clamped_nearest false) micros_within parts)
list_value_of list.TransitionDelay parts = result_map Times (items_of (micros_of clamped_nearest true) micros_within parts)
list_value_of list.TransitionEasing parts = result_map Easings (items_of (easing_of clamped_nearest) easing_within parts)
list_value_of list.AnimationName parts = result_map Names (items_of (word_item name_of_word) any parts)
list_value_of list.AnimationDuration parts = result_map Times (items_of (micros_of clamped_nearest false) micros_within parts)
list_value_of list.AnimationDelay parts = result_map Times (items_of (micros_of clamped_nearest true) micros_within parts)
list_value_of list.AnimationEasing parts = result_map Easings (items_of (easing_of clamped_nearest) easing_within parts)
list_value_of list.AnimationCount parts = result_map Counts (items_of (count_of clamped_nearest) count_within parts)
list_value_of list.AnimationDirection parts = result_map Directions (items_of (word_item (look_up direction_words)) any parts)
list_value_of list.AnimationFill parts = result_map Fills (items_of (word_item (look_up fill_words)) any parts)
list_value_of list.AnimationPlayState parts = result_map States (items_of (word_item (look_up state_words)) any parts)

-- the answer for the list
abbrev pub list_of : ListName → List TokenPart → Result ListValue ValueFault
list_of name parts = (if is_initial parts then Ok Initial else list_value_of name parts)
