-- Parts spell at most one value of a list: a reader of numbers as they are finds it.
use Rattle.std.proofs.Common.{◌≡◌, ℕ, refl, ap, sym, subst, ◌∙◌, List, ◌∷◌, [], ◌++◌, cond, Bool, true, false, not, Option, Some, None, ℤ, ◌||◌, codes}
use Rattle.std.specs.Prelude.{option_map}
use Rattle.std.specs.List.{list_all}
use Rattle.std.specs.Str.{bytes_eq, str_to_ascii_lowercase}
use Rattle.std.proofs.lemmas.Bool.{and_parts}
use Rattle.token_parts.specs.Keywords.{is_keyword, look_up}
use Rattle.token_parts.specs.Parts.{TokenPart, Ident, Comma}
use Rattle.timing_types.specs.Names.{is_animation_name, is_reserved}
use Rattle.timing_types.proofs.NameLemmas.{animation_name_told}
use Rattle.timing_types.specs.declared.easing.Easing.{Easing}
use Rattle.value_types.specs.declared.list_value.ListName.{ListName}
use Rattle.value_types.specs.declared.list_value.ListName.TheVariants as list
use Rattle.value_types.specs.declared.list_value.ListValue.{ListValue}
use Rattle.value_types.specs.declared.list_value.ListValue.TheVariants.{Initial, Properties, Times, Easings, Names, Counts, Directions, Fills, States}
use Rattle.value_types.specs.declared.shorthand.PropertyItem.{PropertyItem}
use Rattle.timing_types.specs.declared.timing.Count.{Count}
use Rattle.timing_types.specs.declared.timing.Count.TheVariants as count
use Rattle.list_text.specs.Easings.{IsEasingSpelling, curve, easing_words, steps, steps_and_jump, word}
use Rattle.list_text.specs.Numbers.{nearest}
use Rattle.list_text.specs.Lists.{AreItems, AreItemsOf, IsCountSpelling, IsDelaySpelling, IsDurationSpelling, IsListSpelling, IsTime, IsWord, direction_words, fill_words, infinite, initial, items, last, milliseconds, more, name_of_word, nothing, property_of_word, seconds, state_words, times}
use Rattle.list_text.specs.ItemReading.{count_of, each_of, groups_of, is_initial, is_word, micros_of, word_item}
use Rattle.list_text.specs.Reading.{easing_of}
use Rattle.list_text.proofs.AnswerLemmas.{is_nothing}
use Rattle.list_text.proofs.EasingLemmas.{exact}
use Rattle.list_text.proofs.ListLemmas.{IsWhole, easing_whole, word_whole}
use Rattle.token_parts.proofs.KeywordLemmas.{only_one}
use Rattle.list_text.proofs.TimeLemmas.{count_found, count_whole, delay_found, duration_found, time_whole, view_count}
use Rattle.list_text.proofs.ViewLemmas.{as_it_is, plain}

-- ---- words that are no items

-- no row has this name
abbrev pub differs : {V : Type 0} → List ℕ → List (List ℕ × V) → Bool
differs keyword rows = list_all (λ row. not (bytes_eq (str_to_ascii_lowercase keyword) (str_to_ascii_lowercase row.0))) rows

from_not : (b : Bool) → not b ≡ true → b ≡ false
from_not true h = absurd (cc)
from_not false h = refl

not_found : {V : Type 0} (keyword w : List ℕ) (rows : List (List ℕ × V)) → differs keyword rows ≡ true → is_keyword w keyword ≡ true → look_up rows w ≡ None
not_found keyword w [] h is = refl
not_found keyword w (row ∷ rows) h is =
    let both = and_parts _ _ h in
    rw (only_one w keyword row.0 is (from_not _ both.0)) (not_found keyword w rows both.1 is)

no_row_at : {V : Type 0} (keyword w : List ℕ) (rows : List (List ℕ × V)) (x : V) (b : Bool) → differs keyword rows ≡ true → look_up rows w ≡ Some x → is_keyword w keyword ≡ b
    → is_keyword w keyword ≡ false
no_row_at keyword w rows x true h found is = let none = not_found keyword w rows h is in absurd (cc)
no_row_at keyword w rows x false h found is = is

-- a word of the table isn't the keyword
no_row : {V : Type 0} (keyword w : List ℕ) (rows : List (List ℕ × V)) (x : V) → differs keyword rows ≡ true → look_up rows w ≡ Some x → is_keyword w keyword ≡ false
no_row keyword w rows x h found = no_row_at keyword w rows x (is_keyword w keyword) h found refl

neither : (a b : Bool) → a ≡ false → b ≡ false → a || b ≡ false
neither true b h k = absurd (cc)
neither false b h k = k

-- a word of the table is neither `initial` nor `unset`
abbrev pub IsTable : {V : Type 0} → List (List ℕ × V) → Type 0
IsTable rows = (differs (codes "initial") rows ≡ true) × (differs (codes "unset") rows ≡ true)

row_free : {V : Type 0} (rows : List (List ℕ × V)) (w : List ℕ) (x : V) → IsTable rows → look_up rows w ≡ Some x → is_initial (Ident w ∷ []) ≡ false
row_free rows w x h found = neither _ _ (no_row (codes "initial") w rows x h.0 found) (no_row (codes "unset") w rows x h.1 found)

-- the answer of a test that must fail
failed : {V : Type 0} (b : Bool) (o : Option V) (x : V) → cond b None o ≡ Some x → b ≡ false
failed true o x h = absurd (cc)
failed false o x h = refl

-- a word that isn't reserved is none of the four
not_reserved : (none initial inherit unset : Bool) → none || (initial || (inherit || (unset || false))) ≡ false → (none ≡ false) × (initial || unset ≡ false)
not_reserved true b c d h = absurd (cc)
not_reserved false true c d h = absurd (cc)
not_reserved false false true d h = absurd (cc)
not_reserved false false false true h = absurd (cc)
not_reserved false false false false h = (refl, refl)

free_word : (w : List ℕ) → is_reserved w ≡ false → (is_keyword w (codes "none") ≡ false) × (is_initial (Ident w ∷ []) ≡ false)
free_word w h = not_reserved (is_keyword w (codes "none")) (is_keyword w (codes "initial")) (is_keyword w (codes "inherit")) (is_keyword w (codes "unset")) h

not_true : (b : Bool) → not b ≡ true → b ≡ false
not_true true h = absurd (cc)
not_true false h = refl

name_at : (w : List ℕ) (a b : Bool) (x : Option (List ℕ)) → is_keyword w (codes "none") ≡ a → is_animation_name w ≡ b
    → cond a (Some None) (cond b (Some (Some w)) None) ≡ Some x → is_initial (Ident w ∷ []) ≡ false
name_at w true b x none name h = neither _ _ (only_one w (codes "none") (codes "initial") none refl) (only_one w (codes "none") (codes "unset") none refl)
name_at w false true x none name h = (free_word w (not_true (is_reserved w) (animation_name_told w name).free)).1
name_at w false false x none name h = absurd (cc)

name_free : (w : List ℕ) (x : Option (List ℕ)) → name_of_word w ≡ Some x → is_initial (Ident w ∷ []) ≡ false
name_free w x h = name_at w (is_keyword w (codes "none")) (is_animation_name w) x refl refl h

property_free : (w : List ℕ) (x : PropertyItem) → property_of_word w ≡ Some x → (is_initial (Ident w ∷ []) ≡ false) × (is_keyword w (codes "none") ≡ false)
property_free w x h = let free = free_word w (failed (is_reserved w) _ x h) in (free.1, free.0)

-- items with a comma aren't one word
no_word : (test : List ℕ → Bool) (parts rest : List TokenPart) → is_word test (parts ++ Comma ∷ rest) ≡ false
no_word test [] rest = refl
no_word test (Ident w ∷ []) rest = refl
no_word test (Ident w ∷ p ∷ ps) rest = refl
no_word test (p ∷ ps) rest = refl

-- ---- items

-- the reader finds what the parts spell, which isn't a word for the whole list
pub record Finds {T : Type 0} (P : List TokenPart → T → Type 0) (item : List TokenPart → Option T) : Type 0 where
  pub whole : (parts : List TokenPart) (x : T) → P parts x → IsWhole parts
  pub exact : (parts : List TokenPart) (x : T) → P parts x → item parts ≡ Some x
  pub free : (parts : List TokenPart) (x : T) → P parts x → is_initial parts ≡ false

each_exact : {T : Type 0} {P : List TokenPart → T → Type 0} {parts : List TokenPart} {xs : List T} (item : List TokenPart → Option T) → Finds P item → AreItems P parts xs
    → each_of item (groups_of false parts) ≡ Some xs
each_exact item f (last parts x h) = rw ((f.whole parts x h).alone, f.exact parts x h) refl
each_exact item f (more parts rest x xs h hs) = rw ((f.whole parts x h).before rest, f.exact parts x h, each_exact item f hs) refl

items_free : {T : Type 0} {P : List TokenPart → T → Type 0} {parts : List TokenPart} {xs : List T} (item : List TokenPart → Option T) → Finds P item → AreItems P parts xs
    → is_initial parts ≡ false
items_free item f (last parts x h) = f.free parts x h
items_free item f (more parts rest x xs h hs) = no_word _ parts rest

time_free : {parts : List TokenPart} {v : ℤ} → IsTime parts v → is_initial parts ≡ false
time_free (seconds n u v is near) = refl
time_free (milliseconds n u v is near) = refl

easing_free : {parts : List TokenPart} {e : Easing} → IsEasingSpelling parts e → is_initial parts ≡ false
easing_free (word w e is) = row_free easing_words w e (refl, refl) is
easing_free (steps f n count is h) = refl
easing_free (steps_and_jump f n j count jump is jumps h) = refl
easing_free (curve f a b c d x1 y1 x2 y2 is one up two upper) = refl

count_free : {parts : List TokenPart} {x : Count} → IsCountSpelling parts x → is_initial parts ≡ false
count_free (times n v near low) = refl
count_free (infinite w is) = neither _ _ (only_one w (codes "infinite") (codes "initial") is refl) (only_one w (codes "infinite") (codes "unset") is refl)

plain_count : (x : Count) → view_count plain x ≡ x
plain_count (count.Times n) = refl
plain_count count.Infinite = refl

durations_find : Finds IsDurationSpelling (micros_of nearest false)
durations_find = record {
  whole = λ parts x h. time_whole h.0;
  exact = λ parts x h. duration_found nearest plain parts x as_it_is h;
  free = λ parts x h. time_free h.0;
}

delays_find : Finds IsDelaySpelling (micros_of nearest true)
delays_find = record {
  whole = λ parts x h. time_whole h;
  exact = λ parts x h. delay_found nearest plain parts x as_it_is h;
  free = λ parts x h. time_free h;
}

easings_find : Finds IsEasingSpelling (easing_of nearest)
easings_find = record { whole = λ parts x h. easing_whole h; exact = λ parts x h. exact parts x h; free = λ parts x h. easing_free h }

counts_find : Finds IsCountSpelling (count_of nearest)
counts_find = record {
  whole = λ parts x h. count_whole h;
  exact = λ parts x h. count_found nearest plain as_it_is h ∙ ap Some (plain_count x);
  free = λ parts x h. count_free h;
}

words_find : {T : Type 0} (meaning : List ℕ → Option T) → ((w : List ℕ) (x : T) → meaning w ≡ Some x → is_initial (Ident w ∷ []) ≡ false)
    → Finds (IsWord meaning) (word_item meaning)
words_find meaning free = record {
  whole = word_whole meaning;
  exact = λ parts x h. subst (λ l. word_item meaning l ≡ Some x) (sym h.1) h.2;
  free = λ parts x h. subst (λ l. is_initial l ≡ false) (sym h.1) (free h.0 x h.2);
}

names_find : Finds (IsWord name_of_word) (word_item name_of_word)
names_find = words_find name_of_word name_free

properties_find : Finds (IsWord property_of_word) (word_item property_of_word)
properties_find = words_find property_of_word (λ w x h. (property_free w x h).0)

rows_find : {T : Type 0} (rows : List (List ℕ × T)) → differs (codes "initial") rows ≡ true → differs (codes "unset") rows ≡ true
    → Finds (IsWord (look_up rows)) (word_item (look_up rows))
rows_find rows h k = words_find (look_up rows) (λ w x found. row_free rows w x (h, k) found)

properties_free : {parts : List TokenPart} {xs : List PropertyItem} → AreItems (IsWord property_of_word) parts xs → is_nothing list.TransitionProperty parts ≡ false
properties_free (last parts x h) = subst (λ l. is_nothing list.TransitionProperty l ≡ false) (sym h.1) (property_free h.0 x h.2).1
properties_free (more parts rest x xs h hs) = no_word _ parts rest

-- ---- lists

-- the items of the list, of numbers as they are
abbrev pub told : ListName → List TokenPart → Option ListValue
told list.TransitionProperty parts = option_map Properties (each_of (word_item property_of_word) (groups_of false parts))
told list.TransitionDuration parts = option_map Times (each_of (micros_of nearest false) (groups_of false parts))
told list.TransitionDelay parts = option_map Times (each_of (micros_of nearest true) (groups_of false parts))
told list.TransitionEasing parts = option_map Easings (each_of (easing_of nearest) (groups_of false parts))
told list.AnimationName parts = option_map Names (each_of (word_item name_of_word) (groups_of false parts))
told list.AnimationDuration parts = option_map Times (each_of (micros_of nearest false) (groups_of false parts))
told list.AnimationDelay parts = option_map Times (each_of (micros_of nearest true) (groups_of false parts))
told list.AnimationEasing parts = option_map Easings (each_of (easing_of nearest) (groups_of false parts))
told list.AnimationCount parts = option_map Counts (each_of (count_of nearest) (groups_of false parts))
told list.AnimationDirection parts = option_map Directions (each_of (word_item (look_up direction_words)) (groups_of false parts))
told list.AnimationFill parts = option_map Fills (each_of (word_item (look_up fill_words)) (groups_of false parts))
told list.AnimationPlayState parts = option_map States (each_of (word_item (look_up state_words)) (groups_of false parts))

-- these are the items, and no word for the whole list
abbrev pub IsTold : ListName → List TokenPart → ListValue → Type 0
IsTold name parts v = (told name parts ≡ Some v) × (is_initial parts ≡ false) × (is_nothing name parts ≡ false)

one_told : {T : Type 0} {P : List TokenPart → T → Type 0} {parts : List TokenPart} {xs : List T} (C : List T → ListValue) (item : List TokenPart → Option T) → Finds P item → AreItems P parts xs
    → (option_map C (each_of item (groups_of false parts)) ≡ Some (C xs)) × (is_initial parts ≡ false)
one_told C item f h = (ap (option_map C) (each_exact item f h), items_free item f h)

items_told : (name : ListName) (parts : List TokenPart) (v : ListValue) → AreItemsOf name parts v → IsTold name parts v
items_told list.TransitionProperty parts (Properties xs) h = let t = one_told Properties (word_item property_of_word) properties_find h in (t.0, t.1, properties_free h)
items_told list.TransitionDuration parts (Times xs) h = let t = one_told Times (micros_of nearest false) durations_find h in (t.0, t.1, refl)
items_told list.TransitionDelay parts (Times xs) h = let t = one_told Times (micros_of nearest true) delays_find h in (t.0, t.1, refl)
items_told list.TransitionEasing parts (Easings xs) h = let t = one_told Easings (easing_of nearest) easings_find h in (t.0, t.1, refl)
items_told list.AnimationName parts (Names xs) h = let t = one_told Names (word_item name_of_word) names_find h in (t.0, t.1, refl)
items_told list.AnimationDuration parts (Times xs) h = let t = one_told Times (micros_of nearest false) durations_find h in (t.0, t.1, refl)
items_told list.AnimationDelay parts (Times xs) h = let t = one_told Times (micros_of nearest true) delays_find h in (t.0, t.1, refl)
items_told list.AnimationEasing parts (Easings xs) h = let t = one_told Easings (easing_of nearest) easings_find h in (t.0, t.1, refl)
items_told list.AnimationCount parts (Counts xs) h = let t = one_told Counts (count_of nearest) counts_find h in (t.0, t.1, refl)
items_told list.AnimationDirection parts (Directions xs) h = let t = one_told Directions (word_item (look_up direction_words)) (rows_find direction_words refl refl) h in (t.0, t.1, refl)
items_told list.AnimationFill parts (Fills xs) h = let t = one_told Fills (word_item (look_up fill_words)) (rows_find fill_words refl refl) h in (t.0, t.1, refl)
items_told list.AnimationPlayState parts (States xs) h = let t = one_told States (word_item (look_up state_words)) (rows_find state_words refl refl) h in (t.0, t.1, refl)
items_told _ parts _ h = absurd h

-- the value of the list, of numbers as they are
abbrev pub whole_value : ListName → List TokenPart → Option ListValue
whole_value name parts = cond (is_initial parts) (Some Initial) (cond (is_nothing name parts) (Some (Properties [])) (told name parts))

value_found : {name : ListName} {parts : List TokenPart} {v : ListValue} → IsListSpelling name parts v → whole_value name parts ≡ Some v
value_found (initial name w is) = rw is refl
value_found (nothing w is) = rw (only_one w (codes "none") (codes "initial") is refl, only_one w (codes "none") (codes "unset") is refl, is) refl
value_found (items name parts v h) = let t = items_told name parts v h in rw (t.1, t.2) t.0

pub one_list : (name : ListName) (parts : List TokenPart) (v w : ListValue) → IsListSpelling name parts v → IsListSpelling name parts w → v ≡ w
one_list name parts v w h k =
    let one = value_found h in
    let other = value_found k in
    cc
