-- The answer for each list is that of the spellings.
use Rattle.std.proofs.Common.{◌≡◌, ℕ, ◌<◌, ◌≤◌, refl, arith, sym, subst, List, ◌∷◌, [], length, Bool, true, false, Option, Result, Ok, Err, codes}
use Rattle.std.specs.Prelude.{All}
use Rattle.std.proofs.lemmas.List.Elements.{All-cons, All-head, All-nil, All-tail}
use Rattle.token_parts.specs.Keywords.{is_keyword, look_up}
use Rattle.token_parts.specs.Parts.{TokenPart, Ident}
use Rattle.token_parts.specs.declared.fault.ValueFault.{ValueFault}
use Rattle.token_parts.specs.declared.fault.ValueFault.TheVariants.{Unsupported, BoundItems, Bound, NoMemory}
use Rattle.value_types.specs.ListValues.{IsListValueFor}
use Rattle.timing_types.specs.Names.{IsNameItem}
use Rattle.timing_types.specs.Timing.{IsAny, IsCount, IsDelay, IsDuration, IsEasing}
use Rattle.timing_types.specs.TimingLists.{IsListOf}
use Rattle.value_types.specs.declared.list_value.ListName.{ListName}
use Rattle.value_types.specs.declared.list_value.ListName.TheVariants as list
use Rattle.value_types.specs.declared.list_value.ListValue.{ListValue}
use Rattle.value_types.specs.declared.list_value.ListValue.TheVariants.{Initial, Properties, Times, Easings, Names, Counts, Directions, Fills, States}
use Rattle.fix_num.specs.declared.units.Micros.{Micros}
use Rattle.timing_types.specs.declared.easing.Easing.{Easing}
use Rattle.value_types.specs.declared.shorthand.PropertyItem.{PropertyItem}
use Rattle.timing_types.specs.declared.timing.Count.{Count}
use Rattle.timing_types.specs.declared.timing.Direction.{Direction}
use Rattle.timing_types.specs.declared.timing.Fill.{Fill}
use Rattle.timing_types.specs.declared.timing.PlayState.{PlayState}
use Rattle.list_text.specs.Easings.{IsEasingSpelling}
use Rattle.list_text.specs.Numbers.{clamped_nearest}
use Rattle.list_text.specs.Lists.{AreItems, AreItemsOf, IsCountSpelling, IsDelaySpelling, IsDurationSpelling, IsListAnswer, IsListSpelling, IsWord, direction_words, fill_words, initial, item_count, items, last, more, name_of_word, nothing, property_of_word, state_words}
use Rattle.list_text.specs.ItemReading.{Gives, any, count_of, count_within, is_initial, is_word, items_of, list_of, micros_of, micros_within, properties_of, result_map, list_value_of, word_item}
use Rattle.list_text.specs.Reading.{easing_of, easing_within}
use Rattle.list_text.proofs.ListLemmas.{Answers, EachIs, answers, easing_judges, name_judges, word_judges}
use Rattle.list_text.proofs.TimeLemmas.{count_judges, delay_judges, duration_judges}

-- ---- the special words

-- `none` for the properties
abbrev pub is_nothing : ListName → List TokenPart → Bool
is_nothing list.TransitionProperty parts = is_word (λ w. is_keyword w (codes "none")) parts
is_nothing _ parts = false

-- what is spelled without a special word is items
split : {name : ListName} {parts : List TokenPart} {v : ListValue} → IsListSpelling name parts v → is_initial parts ≡ false → is_nothing name parts ≡ false → AreItemsOf name parts v
split (initial name w is) h k = absurd (cc)
split (nothing w is) h k = absurd (cc)
split (items name parts v s) h k = s

initial_answer : (name : ListName) (parts : List TokenPart) → is_initial parts ≡ true → IsListAnswer name parts (Ok Initial)
initial_answer name (Ident w ∷ []) h = (initial name w h, omega arith, tt)
initial_answer name _ h = absurd (cc)

nothing_answer : (parts : List TokenPart) → is_nothing list.TransitionProperty parts ≡ true → IsListAnswer list.TransitionProperty parts (Ok (Properties []))
nothing_answer (Ident w ∷ []) h = (nothing w h, omega arith, omega arith)
nothing_answer _ h = absurd (cc)

-- ---- one kind of items

some_items : {T : Type 0} {P : List TokenPart → T → Type 0} {parts : List TokenPart} {xs : List T} → AreItems P parts xs → 0 < length xs
some_items (last parts x h) = omega arith
some_items (more parts rest x xs h hs) = omega arith

each_all : {T : Type 0} (W : T → Type 0) (xs : List T) → EachIs W xs → All W xs
each_all W [] h = All-nil W
each_all W (x ∷ xs) h = All-cons W x xs h.0 (each_all W xs h.1)

all_each : {T : Type 0} (W : T → Type 0) (xs : List T) → All W xs → EachIs W xs
all_each W [] h = tt
all_each W (x ∷ xs) h = (All-head W x xs h, all_each W xs (All-tail W x xs h))

each_any : {T : Type 0} (xs : List T) → EachIs IsAny xs
each_any [] = tt
each_any (x ∷ xs) = (tt, each_any xs)

is_list : {T : Type 0} (W : T → Type 0) (xs : List T) → 0 < length xs → length xs ≤ 32 → EachIs W xs → IsListOf W xs
is_list W xs some few h = record { some = some; few = few; each = each_all W xs h }

-- the values of the list are such items, and within its bounds where each item is
pub record IsSort {T : Type 0} (name : ListName) (P : List TokenPart → T → Type 0) (W : T → Type 0) (C : List T → ListValue) : Type 0 where
  pub only : (parts : List TokenPart) (v : ListValue) → AreItemsOf name parts v → (xs : List T) × (v ≡ C xs) × AreItems P parts xs
  pub are : (parts : List TokenPart) (xs : List T) → AreItems P parts xs → AreItemsOf name parts (C xs)
  pub size : (xs : List T) → item_count (C xs) ≡ length xs
  pub fits : (xs : List T) → 0 < length xs → length xs ≤ 32 → EachIs W xs → IsListValueFor name (C xs)
  pub fitted : (xs : List T) → IsListValueFor name (C xs) → EachIs W xs

sort_answer : {T : Type 0} (name : ListName) (P : List TokenPart → T → Type 0) (W : T → Type 0) (C : List T → ListValue) (parts : List TokenPart) (r : Result (List T) ValueFault)
    → IsSort name P W C → Answers P W parts r → is_initial parts ≡ false → is_nothing name parts ≡ false → IsListAnswer name parts (result_map C r)
sort_answer name P W C parts (Ok xs) s a one none =
    let k = a.ok xs refl in
    (items name parts (C xs) (s.are parts xs k.0), subst (λ n. n ≤ 32) (sym (s.size xs)) k.1, s.fits xs (some_items k.0) k.1 k.2)
sort_answer name P W C parts (Err Unsupported) s a one none =
    λ v spelled. let h = s.only parts v (split spelled one none) in a.unsupported refl h.0 h.2
sort_answer name P W C parts (Err BoundItems) s a one none =
    let k = a.bound_items refl in
    (C k.0, items name parts (C k.0) (s.are parts k.0 k.1), subst (λ n. 32 < n) (sym (s.size k.0)) k.2)
sort_answer name P W C parts (Err Bound) s a one none =
    let k = a.past_bound refl in
    (C k.0, items name parts (C k.0) (s.are parts k.0 k.1), subst (λ n. n ≤ 32) (sym (s.size k.0)) k.2, λ f. k.3 (s.fitted k.0 f))
sort_answer name P W C parts (Err NoMemory) s a one none = tt

-- ---- the twelve lists

properties_only : (parts : List TokenPart) (v : ListValue) → AreItemsOf list.TransitionProperty parts v → (xs : List PropertyItem) × (v ≡ Properties xs) × AreItems (IsWord property_of_word) parts xs
properties_only parts (Properties xs) h = (xs, refl, h)
properties_only parts _ h = absurd h

transition_durations_only : (parts : List TokenPart) (v : ListValue) → AreItemsOf list.TransitionDuration parts v → (xs : List Micros) × (v ≡ Times xs) × AreItems IsDurationSpelling parts xs
transition_durations_only parts (Times xs) h = (xs, refl, h)
transition_durations_only parts _ h = absurd h

transition_delays_only : (parts : List TokenPart) (v : ListValue) → AreItemsOf list.TransitionDelay parts v → (xs : List Micros) × (v ≡ Times xs) × AreItems IsDelaySpelling parts xs
transition_delays_only parts (Times xs) h = (xs, refl, h)
transition_delays_only parts _ h = absurd h

transition_easings_only : (parts : List TokenPart) (v : ListValue) → AreItemsOf list.TransitionEasing parts v → (xs : List Easing) × (v ≡ Easings xs) × AreItems IsEasingSpelling parts xs
transition_easings_only parts (Easings xs) h = (xs, refl, h)
transition_easings_only parts _ h = absurd h

animation_names_only : (parts : List TokenPart) (v : ListValue) → AreItemsOf list.AnimationName parts v → (xs : List (Option (List ℕ))) × (v ≡ Names xs) × AreItems (IsWord name_of_word) parts xs
animation_names_only parts (Names xs) h = (xs, refl, h)
animation_names_only parts _ h = absurd h

animation_durations_only : (parts : List TokenPart) (v : ListValue) → AreItemsOf list.AnimationDuration parts v → (xs : List Micros) × (v ≡ Times xs) × AreItems IsDurationSpelling parts xs
animation_durations_only parts (Times xs) h = (xs, refl, h)
animation_durations_only parts _ h = absurd h

animation_delays_only : (parts : List TokenPart) (v : ListValue) → AreItemsOf list.AnimationDelay parts v → (xs : List Micros) × (v ≡ Times xs) × AreItems IsDelaySpelling parts xs
animation_delays_only parts (Times xs) h = (xs, refl, h)
animation_delays_only parts _ h = absurd h

animation_easings_only : (parts : List TokenPart) (v : ListValue) → AreItemsOf list.AnimationEasing parts v → (xs : List Easing) × (v ≡ Easings xs) × AreItems IsEasingSpelling parts xs
animation_easings_only parts (Easings xs) h = (xs, refl, h)
animation_easings_only parts _ h = absurd h

animation_counts_only : (parts : List TokenPart) (v : ListValue) → AreItemsOf list.AnimationCount parts v → (xs : List Count) × (v ≡ Counts xs) × AreItems IsCountSpelling parts xs
animation_counts_only parts (Counts xs) h = (xs, refl, h)
animation_counts_only parts _ h = absurd h

animation_directions_only : (parts : List TokenPart) (v : ListValue) → AreItemsOf list.AnimationDirection parts v → (xs : List Direction) × (v ≡ Directions xs) × AreItems (IsWord (look_up direction_words)) parts xs
animation_directions_only parts (Directions xs) h = (xs, refl, h)
animation_directions_only parts _ h = absurd h

animation_fills_only : (parts : List TokenPart) (v : ListValue) → AreItemsOf list.AnimationFill parts v → (xs : List Fill) × (v ≡ Fills xs) × AreItems (IsWord (look_up fill_words)) parts xs
animation_fills_only parts (Fills xs) h = (xs, refl, h)
animation_fills_only parts _ h = absurd h

animation_states_only : (parts : List TokenPart) (v : ListValue) → AreItemsOf list.AnimationPlayState parts v → (xs : List PlayState) × (v ≡ States xs) × AreItems (IsWord (look_up state_words)) parts xs
animation_states_only parts (States xs) h = (xs, refl, h)
animation_states_only parts _ h = absurd h

properties_sort : IsSort list.TransitionProperty (IsWord property_of_word) IsAny Properties
properties_sort = record { only = properties_only; are = λ parts xs h. h; size = λ xs. refl; fits = λ xs some few h. few; fitted = λ xs h. each_any xs }

transition_durations_sort : IsSort list.TransitionDuration IsDurationSpelling IsDuration Times
transition_durations_sort = record { only = transition_durations_only; are = λ parts xs h. h; size = λ xs. refl; fits = is_list IsDuration; fitted = λ xs h. all_each IsDuration xs h.each }

transition_delays_sort : IsSort list.TransitionDelay IsDelaySpelling IsDelay Times
transition_delays_sort = record { only = transition_delays_only; are = λ parts xs h. h; size = λ xs. refl; fits = is_list IsDelay; fitted = λ xs h. all_each IsDelay xs h.each }

transition_easings_sort : IsSort list.TransitionEasing IsEasingSpelling IsEasing Easings
transition_easings_sort = record { only = transition_easings_only; are = λ parts xs h. h; size = λ xs. refl; fits = is_list IsEasing; fitted = λ xs h. all_each IsEasing xs h.each }

animation_names_sort : IsSort list.AnimationName (IsWord name_of_word) IsNameItem Names
animation_names_sort = record { only = animation_names_only; are = λ parts xs h. h; size = λ xs. refl; fits = is_list IsNameItem; fitted = λ xs h. all_each IsNameItem xs h.each }

animation_durations_sort : IsSort list.AnimationDuration IsDurationSpelling IsDuration Times
animation_durations_sort = record { only = animation_durations_only; are = λ parts xs h. h; size = λ xs. refl; fits = is_list IsDuration; fitted = λ xs h. all_each IsDuration xs h.each }

animation_delays_sort : IsSort list.AnimationDelay IsDelaySpelling IsDelay Times
animation_delays_sort = record { only = animation_delays_only; are = λ parts xs h. h; size = λ xs. refl; fits = is_list IsDelay; fitted = λ xs h. all_each IsDelay xs h.each }

animation_easings_sort : IsSort list.AnimationEasing IsEasingSpelling IsEasing Easings
animation_easings_sort = record { only = animation_easings_only; are = λ parts xs h. h; size = λ xs. refl; fits = is_list IsEasing; fitted = λ xs h. all_each IsEasing xs h.each }

animation_counts_sort : IsSort list.AnimationCount IsCountSpelling IsCount Counts
animation_counts_sort = record { only = animation_counts_only; are = λ parts xs h. h; size = λ xs. refl; fits = is_list IsCount; fitted = λ xs h. all_each IsCount xs h.each }

animation_directions_sort : IsSort list.AnimationDirection (IsWord (look_up direction_words)) IsAny Directions
animation_directions_sort = record { only = animation_directions_only; are = λ parts xs h. h; size = λ xs. refl; fits = is_list IsAny; fitted = λ xs h. each_any xs }

animation_fills_sort : IsSort list.AnimationFill (IsWord (look_up fill_words)) IsAny Fills
animation_fills_sort = record { only = animation_fills_only; are = λ parts xs h. h; size = λ xs. refl; fits = is_list IsAny; fitted = λ xs h. each_any xs }

animation_states_sort : IsSort list.AnimationPlayState (IsWord (look_up state_words)) IsAny States
animation_states_sort = record { only = animation_states_only; are = λ parts xs h. h; size = λ xs. refl; fits = is_list IsAny; fitted = λ xs h. each_any xs }

property_answer : (parts : List TokenPart) (b : Bool) → is_initial parts ≡ false → is_nothing list.TransitionProperty parts ≡ b
    → IsListAnswer list.TransitionProperty parts (properties_of parts)
unfolding properties_of
property_answer parts true one none = rw none (nothing_answer parts none)
property_answer parts false one none =
    rw none (sort_answer list.TransitionProperty (IsWord property_of_word) IsAny Properties parts (items_of (word_item property_of_word) any parts) properties_sort
    (answers (IsWord property_of_word) IsAny (word_item property_of_word) any (word_judges property_of_word) parts) one none)

value_answer : (name : ListName) (parts : List TokenPart) → is_initial parts ≡ false → IsListAnswer name parts (list_value_of name parts)
value_answer list.TransitionProperty parts one = property_answer parts (is_nothing list.TransitionProperty parts) one refl
value_answer list.TransitionDuration parts one =
    sort_answer list.TransitionDuration IsDurationSpelling IsDuration Times parts (items_of (micros_of clamped_nearest false) micros_within parts) transition_durations_sort (answers IsDurationSpelling IsDuration (micros_of clamped_nearest false) micros_within duration_judges parts) one refl
value_answer list.TransitionDelay parts one =
    sort_answer list.TransitionDelay IsDelaySpelling IsDelay Times parts (items_of (micros_of clamped_nearest true) micros_within parts) transition_delays_sort (answers IsDelaySpelling IsDelay (micros_of clamped_nearest true) micros_within delay_judges parts) one refl
value_answer list.TransitionEasing parts one =
    sort_answer list.TransitionEasing IsEasingSpelling IsEasing Easings parts (items_of (easing_of clamped_nearest) easing_within parts) transition_easings_sort (answers IsEasingSpelling IsEasing (easing_of clamped_nearest) easing_within easing_judges parts) one refl
value_answer list.AnimationName parts one =
    sort_answer list.AnimationName (IsWord name_of_word) IsNameItem Names parts (items_of (word_item name_of_word) any parts) animation_names_sort (answers (IsWord name_of_word) IsNameItem (word_item name_of_word) any name_judges parts) one refl
value_answer list.AnimationDuration parts one =
    sort_answer list.AnimationDuration IsDurationSpelling IsDuration Times parts (items_of (micros_of clamped_nearest false) micros_within parts) animation_durations_sort (answers IsDurationSpelling IsDuration (micros_of clamped_nearest false) micros_within duration_judges parts) one refl
value_answer list.AnimationDelay parts one =
    sort_answer list.AnimationDelay IsDelaySpelling IsDelay Times parts (items_of (micros_of clamped_nearest true) micros_within parts) animation_delays_sort (answers IsDelaySpelling IsDelay (micros_of clamped_nearest true) micros_within delay_judges parts) one refl
value_answer list.AnimationEasing parts one =
    sort_answer list.AnimationEasing IsEasingSpelling IsEasing Easings parts (items_of (easing_of clamped_nearest) easing_within parts) animation_easings_sort (answers IsEasingSpelling IsEasing (easing_of clamped_nearest) easing_within easing_judges parts) one refl
value_answer list.AnimationCount parts one =
    sort_answer list.AnimationCount IsCountSpelling IsCount Counts parts (items_of (count_of clamped_nearest) count_within parts) animation_counts_sort (answers IsCountSpelling IsCount (count_of clamped_nearest) count_within count_judges parts) one refl
value_answer list.AnimationDirection parts one =
    sort_answer list.AnimationDirection (IsWord (look_up direction_words)) IsAny Directions parts (items_of (word_item (look_up direction_words)) any parts) animation_directions_sort (answers (IsWord (look_up direction_words)) IsAny (word_item (look_up direction_words)) any (word_judges (look_up direction_words)) parts) one refl
value_answer list.AnimationFill parts one =
    sort_answer list.AnimationFill (IsWord (look_up fill_words)) IsAny Fills parts (items_of (word_item (look_up fill_words)) any parts) animation_fills_sort (answers (IsWord (look_up fill_words)) IsAny (word_item (look_up fill_words)) any (word_judges (look_up fill_words)) parts) one refl
value_answer list.AnimationPlayState parts one =
    sort_answer list.AnimationPlayState (IsWord (look_up state_words)) IsAny States parts (items_of (word_item (look_up state_words)) any parts) animation_states_sort (answers (IsWord (look_up state_words)) IsAny (word_item (look_up state_words)) any (word_judges (look_up state_words)) parts) one refl

-- ---- any list

list_answer_at : (name : ListName) (parts : List TokenPart) (b : Bool) → is_initial parts ≡ b → IsListAnswer name parts (list_of name parts)
list_answer_at name parts true h = rw h (initial_answer name parts h)
list_answer_at name parts false h = rw h (value_answer name parts h)

pub list_answer_of : (name : ListName) (parts : List TokenPart) → IsListAnswer name parts (list_of name parts)
list_answer_of name parts = list_answer_at name parts (is_initial parts) refl

pub list_answer : (name : ListName) (parts : List TokenPart) (r : Result ListValue ValueFault) → Gives (λ v. v) r (list_of name parts) → IsListAnswer name parts r
list_answer name parts (Ok v) h = subst (IsListAnswer name parts) h (list_answer_of name parts)
list_answer name parts (Err Unsupported) h = subst (IsListAnswer name parts) h (list_answer_of name parts)
list_answer name parts (Err BoundItems) h = subst (IsListAnswer name parts) h (list_answer_of name parts)
list_answer name parts (Err Bound) h = subst (IsListAnswer name parts) h (list_answer_of name parts)
list_answer name parts (Err NoMemory) h = tt
