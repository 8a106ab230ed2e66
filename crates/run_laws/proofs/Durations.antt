-- No duration that a declaration gives transitions is negative.
use Rattle.std.proofs.Common.{◌≡◌, refl, sym, subst, inl, inr, arith, Bool, true, false, Option, Some, None, List, [], ◌∷◌, ◌++◌, map}
use Rattle.std.specs.Prelude.{◌⊎◌, ⊤, ℤ, pos, negsuc, ◌≤ℤ◌, ◌==◌, nat_lt, option_map, if◌then◌else◌, Result, Ok, Err, length, unwrap_or}
use Rattle.std.specs.List.{AllByRecursion, list_all}
use Rattle.std.proofs.lemmas.Int.{ints}
use Rattle.fix_num.specs.declared.units.Micros.{Micros}
use Rattle.list_text.specs.ItemReading.{each_of, groups_of, is_initial, items_of, items_within, list_of, list_value_of, micros, micros_of, micros_within, result_map, time_of}
use Rattle.list_text.specs.Numbers.{clamped_nearest, not_negative}
use Rattle.list_text.specs.Reading.{Numbers}
use Rattle.shorthand_text.specs.Components.{component_values_of, fitting, others}
use Rattle.shorthand_text.specs.Declaring.{declared_of}
use Rattle.shorthand_text.specs.Outcomes.{all_given, outcome_map}
use Rattle.shorthand_text.specs.Sides.{box_in, initial_lists, keyword_in_all, lists_in, property_by, shorthand_from, shorthand_in, sides_in, value_in_all}
use Rattle.shorthand_text.specs.TimingItems.{animation_in, animation_lists, animation_longhands, animation_within, animation_item, easing_in, item_duration, lone_nothing, property_of, time_in, transition_in, transition_item, transition_lists, transition_longhands, transition_of_values, transition_with, transition_within}
use Rattle.shorthand_text.specs.declared.known_name.KnownName.{KnownName}
use Rattle.shorthand_text.specs.declared.known_name.KnownName.TheVariants as known
use Rattle.shorthand_text.specs.declared.longhand.Longhand.{Longhand}
use Rattle.shorthand_text.specs.declared.longhand.Longhand.TheVariants as given
use Rattle.timing_types.specs.Timing.{ease}
use Rattle.timing_types.specs.TimingLists.{no_time}
use Rattle.timing_types.specs.declared.easing.Easing.{Easing}
use Rattle.timing_types.specs.declared.limits.TheConstants.{MAX_ITEMS}
use Rattle.token_parts.specs.Parts.{TokenPart}
use Rattle.token_parts.specs.Steps.{◌>>=◌}
use Rattle.token_parts.specs.declared.fault.ValueFault.{ValueFault}
use Rattle.token_parts.specs.declared.fault.ValueFault.TheVariants.{Unsupported, BoundItems, Bound, NoMemory}
use Rattle.value_text.specs.Reading.{both, declared_reading, or_unsupported, value_in}
use Rattle.value_text.specs.Spelling.{cascade_keyword, declared_by}
use Rattle.value_text.specs.declared.cascade.Keyword.{Keyword}
use Rattle.value_types.specs.Shorthands.{longhands_of}
use Rattle.value_types.specs.Table.{is_inherited}
use Rattle.value_types.specs.declared.declared.Declared.{Declared}
use Rattle.value_types.specs.declared.list_value.ListName.{ListName}
use Rattle.value_types.specs.declared.list_value.ListName.TheVariants as list
use Rattle.value_types.specs.declared.list_value.ListValue.{ListValue}
use Rattle.value_types.specs.declared.list_value.ListValue.TheVariants.{Initial, Times}
use Rattle.value_types.specs.declared.property.PropertyId.{PropertyId}
use Rattle.value_types.specs.declared.property.PropertyId.TheVariants.{BackgroundColor}
use Rattle.value_types.specs.declared.shorthand.PropertyItem.{PropertyItem}
use Rattle.value_types.specs.declared.shorthand.Shorthand.{Shorthand}
use Rattle.value_types.specs.declared.shorthand.Shorthand.TheVariants as short

-- ---- durations

abbrev pub IsNotNegative : Micros → Type 0
IsNotNegative t = pos 0 ≤ℤ t.0

-- the value of a timing list, a longhand: of transition-duration no time is negative
abbrev pub IsTimelyFor : ListName → ListValue → Type 0
IsTimelyFor list.TransitionDuration (Times ts) = AllByRecursion IsNotNegative ts
IsTimelyFor _ _ = ⊤

abbrev pub IsTimely : Longhand → Type 0
IsTimely (given.Property p d) = ⊤
IsTimely (given.List name v) = IsTimelyFor name v

-- ---- what is read

-- it holds of what there is
abbrev pub Given : {A : Type 0} → (A → Type 0) → Option A → Type 0
Given P None = ⊤
Given P (Some x) = P x

-- it holds of what was read
abbrev pub HoldsIn : {A : Type 0} → (A → Type 0) → Result A ValueFault → Type 0
HoldsIn P (Ok x) = P x
HoldsIn P (Err fault) = ⊤

always : {A : Type 0} (P : A → Type 0) (r : Result A ValueFault) → ((x : A) → P x) → HoldsIn P r
always P (Ok x) each = each x
always P (Err fault) each = tt

in_outcome : {A B : Type 0} (P : B → Type 0) (f : A → B) (r : Result A ValueFault) → HoldsIn (λ x. P (f x)) r → HoldsIn P (outcome_map f r)
in_outcome P f (Ok x) holds = holds
in_outcome P f (Err fault) holds = tt

in_result : {A B : Type 0} (P : B → Type 0) (f : A → B) (r : Result A ValueFault) → HoldsIn (λ x. P (f x)) r → HoldsIn P (result_map f r)
in_result P f (Ok x) holds = holds
in_result P f (Err fault) holds = tt

of_all : {A B : Type 0} (P : B → Type 0) (f : A → B) (xs : List A) → AllByRecursion (λ x. P (f x)) xs → AllByRecursion P (map f xs)
of_all P f [] holds = tt
of_all P f (x ∷ xs) holds = (holds.0, of_all P f xs holds.1)

pub of_both : {A : Type 0} (P : A → Type 0) (xs ys : List A) → AllByRecursion P xs → AllByRecursion P ys → AllByRecursion P (xs ++ ys)
of_both P [] ys first second = second
of_both P (x ∷ xs) ys first second = (first.0, of_both P xs ys first.1 second)

of_each : {A B : Type 0} (P : B → Type 0) (f : A → Option B) (xs : List A) → ((x : A) → Given P (f x)) → Given (AllByRecursion P) (each_of f xs)
of_each P f [] each = tt
of_each {A} {B} P f (x ∷ xs) each = go (f x) (each_of f xs) (each x) (of_each P f xs each)
  where
    go : (o : Option B) (os : Option (List B)) → Given P o → Given (AllByRecursion P) os → Given (AllByRecursion P) (o >>= λ y. os >>= λ ys. Some (y ∷ ys))
    go None os first rest = tt
    go (Some y) None first rest = tt
    go (Some y) (Some ys) first rest = (first, rest)

of_items : {B : Type 0} (P : B → Type 0) (within : B → Bool) (o : Option (List B)) → Given (AllByRecursion P) o → HoldsIn (AllByRecursion P) (items_within within o)
of_items P within None all = tt
of_items {B} P within (Some xs) all = go (nat_lt MAX_ITEMS (length xs)) (list_all within xs)
  where
    go : (b c : Bool) → HoldsIn (AllByRecursion P) (if b then Err BoundItems else if c then Ok xs else Err Bound)
    go true c = tt
    go false true = all
    go false false = tt

-- ---- timing lists

from_natural : (v : ℤ) → Given IsNotNegative (option_map (λ n. micros (pos n)) (not_negative v))
from_natural (pos n) = omega (arith, ints)
from_natural (negsuc n) = tt

not_negative_time : (num : Numbers) (parts : List TokenPart) → Given IsNotNegative (micros_of num false parts)
unfolding micros_of
not_negative_time num parts = go (time_of num parts)
  where
    go : (o : Option ℤ) → Given IsNotNegative (o >>= λ v. option_map (λ n. micros (pos n)) (not_negative v))
    go None = tt
    go (Some v) = from_natural v

initial_timely : (name : ListName) → IsTimelyFor name Initial
initial_timely list.TransitionDuration = tt
initial_timely name = tt

all_initial : (names : List ListName) → AllByRecursion IsTimely (initial_lists names)
all_initial [] = tt
all_initial (name ∷ names) = (initial_timely name, all_initial names)

list_timely : (name : ListName) (parts : List TokenPart) → HoldsIn (IsTimelyFor name) (list_of name parts)
list_timely list.TransitionDuration parts = go (is_initial parts)
  where
    go : (b : Bool) → HoldsIn (IsTimelyFor list.TransitionDuration) (if b then Ok Initial else list_value_of list.TransitionDuration parts)
    go true = tt
    go false =
        in_result (IsTimelyFor list.TransitionDuration) Times (items_of (micros_of clamped_nearest false) micros_within parts)
        (of_items IsNotNegative micros_within (each_of (micros_of clamped_nearest false) (groups_of false parts))
        (of_each IsNotNegative (micros_of clamped_nearest false) (groups_of false parts) (not_negative_time clamped_nearest)))
list_timely name parts = always (IsTimelyFor name) (list_of name parts) (λ v. tt)

-- ---- shorthands of properties

of_all_given : {A B : Type 0} (P : B → Type 0) (f : A → Result B ValueFault) (xs : List A) → ((x : A) → HoldsIn P (f x)) → HoldsIn (AllByRecursion P) (all_given (map f xs))
of_all_given P f [] each = tt
of_all_given {A} {B} P f (x ∷ xs) each = go (f x) (all_given (map f xs)) (each x) (of_all_given P f xs each)
  where
    go : (r : Result B ValueFault) (rs : Result (List B) ValueFault) → HoldsIn P r → HoldsIn (AllByRecursion P) rs → HoldsIn (AllByRecursion P) (both ◌∷◌ r rs)
    go (Ok y) (Ok ys) first rest = (first, rest)
    go (Ok y) (Err fault) first rest = tt
    go (Err fault) (Ok ys) first rest = tt
    go (Err Unsupported) (Err other) first rest = tt
    go (Err BoundItems) (Err other) first rest = tt
    go (Err Bound) (Err other) first rest = tt
    go (Err NoMemory) (Err other) first rest = tt

by_keyword : (k : Keyword) (p : PropertyId) → HoldsIn IsTimely (property_by k p)
by_keyword k p = go (declared_by (is_inherited p) k)
  where
    go : (o : Option Declared) → HoldsIn IsTimely (or_unsupported (option_map (given.Property p) o))
    go None = tt
    go (Some d) = tt

all_by_keyword : (s : Shorthand) (k : Keyword) → HoldsIn (AllByRecursion IsTimely) (keyword_in_all s k)
unfolding keyword_in_all
all_by_keyword s k =
    in_outcome (AllByRecursion IsTimely) (λ given. given ++ initial_lists (lists_in s)) (all_given (map (property_by k) (longhands_of s)))
    (with_lists (all_given (map (property_by k) (longhands_of s))) (of_all_given IsTimely (property_by k) (longhands_of s) (by_keyword k)))
  where
    with_lists : (r : Result (List Longhand) ValueFault) → HoldsIn (AllByRecursion IsTimely) r → HoldsIn (λ given. AllByRecursion IsTimely (given ++ initial_lists (lists_in s))) r
    with_lists (Ok ls) all = of_both IsTimely ls (initial_lists (lists_in s)) all (all_initial (lists_in s))
    with_lists (Err fault) all = tt

in_box : (bottom left right top : PropertyId) (parts : List TokenPart) → HoldsIn (AllByRecursion IsTimely) (box_in (bottom ∷ left ∷ right ∷ top ∷ []) parts)
in_box bottom left right top parts =
    in_outcome (AllByRecursion IsTimely) (λ s. given.Property bottom s.bottom ∷ given.Property left s.left ∷ given.Property right s.right ∷ given.Property top s.top ∷ [])
    (sides_in top parts) (always _ (sides_in top parts) (λ s. (tt, (tt, (tt, (tt, tt))))))

by_values : (s : Shorthand) (parts : List TokenPart) → HoldsIn (AllByRecursion IsTimely) (value_in_all s parts)
by_values short.All parts = tt
by_values short.Background parts =
    in_outcome (AllByRecursion IsTimely) (λ d. given.Property BackgroundColor d ∷ []) (value_in BackgroundColor parts) (always _ (value_in BackgroundColor parts) (λ d. (tt, tt)))
by_values short.Inset parts = in_box _ _ _ _ parts
by_values short.Margin parts = in_box _ _ _ _ parts
by_values short.Padding parts = in_box _ _ _ _ parts

short_timely : (s : Shorthand) (parts : List TokenPart) → HoldsIn (AllByRecursion IsTimely) (shorthand_in s parts)
unfolding shorthand_in
short_timely s parts = go (cascade_keyword parts)
  where
    go : (o : Option Keyword) → HoldsIn (AllByRecursion IsTimely) (shorthand_from s parts o)
    go None = by_values s parts
    go (Some k) = all_by_keyword s k

-- ---- shorthands of timing lists

guarded : {T : Type 0} (P : T → Type 0) (b : Bool) (o : Option T) → Given P o → Given P (if b then None else o)
guarded P true o holds = tt
guarded P false o holds = holds

after_one : {A T : Type 0} (P : T → Type 0) (o : Option A) (f : A → Option T) → ((x : A) → Given P (f x)) → Given P (o >>= f)
after_one P None f each = tt
after_one P (Some x) f each = each x

made_of : {A T : Type 0} (Q : A → Type 0) (P : T → Type 0) (o : Option A) (f : A → T) → Given Q o → ((x : A) → Q x → P (f x)) → Given P (o >>= λ x. Some (f x))
made_of Q P None f holds each = tt
made_of Q P (Some x) f holds each = each x holds

-- nothing is left of some, and the same of others
unless : {T : Type 0} (P : T → Type 0) (o : Option T) (leave : Option T → Option T) → Given P (leave None)
    → ((x : T) → (leave (Some x) ≡ None) ⊎ (leave (Some x) ≡ Some x)) → Given P o → Given P (leave o)
unless P None leave none either holds = none
unless {T} P (Some x) leave none either holds = elim (either x) [
  | inl gone ↦ subst (Given P) (sym gone) tt
  | inr stays ↦ subst (Given P) (sym stays) holds
]

if_left : {A : Type 0} (b : Bool) (o : Option A) → ((if b then None else o) ≡ None) ⊎ ((if b then None else o) ≡ o)
if_left true o = inl refl
if_left false o = inr refl

each_duration : {T : Type 0} (P : T → Type 0) (duration : T → Micros) (xs : List T) → ((x : T) → P x → IsNotNegative (duration x)) → AllByRecursion P xs
    → AllByRecursion IsNotNegative (map duration xs)
each_duration P duration [] each all = tt
each_duration P duration (x ∷ xs) each all = (each x all.0, each_duration P duration xs each all.1)

in_items : {T : Type 0} (P : T → Type 0) (within : T → Bool) (longhands : List T → List Longhand) (o : Option (List T))
    → ((xs : List T) → AllByRecursion P xs → AllByRecursion IsTimely (longhands xs)) → Given (AllByRecursion P) o
    → HoldsIn (AllByRecursion IsTimely) (outcome_map longhands (items_within within o))
in_items {T} P within longhands o each all = go (items_within within o) (of_items P within o all)
  where
    go : (r : Result (List T) ValueFault) → HoldsIn (AllByRecursion P) r → HoldsIn (AllByRecursion IsTimely) (outcome_map longhands r)
    go (Ok xs) holds = each xs holds
    go (Err fault) holds = tt

-- of an item alone the lists are timely
with_times : (property : Option PropertyItem) (first second : Option Micros) (easing : Option Easing)
    → Given (λ i. AllByRecursion IsTimely (transition_longhands (i ∷ []))) (transition_with property first second easing)
with_times property first second easing =
    made_of IsNotNegative (λ i. AllByRecursion IsTimely (transition_longhands (i ∷ []))) (item_duration first)
    (λ duration. record { property = property; duration = duration; delay = unwrap_or second no_time; easing = unwrap_or easing ease })
    (from_natural (unwrap_or first no_time).0) (λ d holds. (tt, ((holds, tt), (tt, (tt, tt)))))

item_timely : (parts : List TokenPart) → Given (λ i. AllByRecursion IsTimely (transition_longhands (i ∷ []))) (transition_item parts)
unfolding transition_item
item_timely parts =
    let cs = component_values_of false parts in
    let c1 = others easing_in cs in
    let c2 = others time_in c1 in
    guarded (λ i. AllByRecursion IsTimely (transition_longhands (i ∷ []))) (length parts == 0) (transition_of_values cs)
    (after_one (λ i. AllByRecursion IsTimely (transition_longhands (i ∷ []))) (property_of (others time_in c2))
    (λ property. transition_with property (fitting time_in c1) (fitting time_in c2) (fitting easing_in cs))
    (λ property. with_times property (fitting time_in c1) (fitting time_in c2) (fitting easing_in cs)))

transition_timely : (parts : List TokenPart) → HoldsIn (AllByRecursion IsTimely) (transition_in parts)
unfolding transition_in
transition_timely parts = go (is_initial parts)
  where
    go : (b : Bool) → HoldsIn (AllByRecursion IsTimely)
        (if b then Ok (initial_lists transition_lists) else outcome_map transition_longhands (items_within transition_within (lone_nothing (each_of transition_item (groups_of false parts)))))
    go true = all_initial transition_lists
    go false =
        in_items (λ i. AllByRecursion IsTimely (transition_longhands (i ∷ []))) transition_within transition_longhands (lone_nothing (each_of transition_item (groups_of false parts)))
        (λ is all. (tt, (each_duration _ _ is (λ i holds. holds.1.0.0) all, (tt, (tt, tt)))))
        (unless _ (each_of transition_item (groups_of false parts)) lone_nothing tt (λ is. if_left _ (Some is))
        (of_each _ transition_item (groups_of false parts) item_timely))

animation_timely : (parts : List TokenPart) → HoldsIn (AllByRecursion IsTimely) (animation_in parts)
unfolding animation_in
animation_timely parts = go (is_initial parts)
  where
    go : (b : Bool) → HoldsIn (AllByRecursion IsTimely)
        (if b then Ok (initial_lists animation_lists) else outcome_map animation_longhands (items_within animation_within (each_of animation_item (groups_of false parts))))
    go true = all_initial animation_lists
    go false =
        in_outcome (AllByRecursion IsTimely) animation_longhands (items_within animation_within (each_of animation_item (groups_of false parts)))
        (always _ (items_within animation_within (each_of animation_item (groups_of false parts))) (λ is. (tt, (tt, (tt, (tt, (tt, (tt, (tt, (tt, tt))))))))))

-- ---- all names

pub declared_timely : (name : KnownName) (parts : List TokenPart) → HoldsIn (AllByRecursion IsTimely) (declared_of name parts)
unfolding declared_of
declared_timely (known.Property p) parts =
    in_outcome (AllByRecursion IsTimely) (λ d. given.Property p d ∷ []) (declared_reading p parts)
    (always (λ d. AllByRecursion IsTimely (given.Property p d ∷ [])) (declared_reading p parts) (λ d. (tt, tt)))
declared_timely (known.List n) parts =
    in_outcome (AllByRecursion IsTimely) (λ v. given.List n v ∷ []) (list_of n parts) (single (list_of n parts) (list_timely n parts))
  where
    single : (r : Result ListValue ValueFault) → HoldsIn (IsTimelyFor n) r → HoldsIn (λ v. AllByRecursion IsTimely (given.List n v ∷ [])) r
    single (Ok v) timely = (timely, tt)
    single (Err fault) timely = tt
declared_timely (known.Short s) parts = short_timely s parts
declared_timely known.Transition parts = transition_timely parts
declared_timely known.Animation parts = animation_timely parts
