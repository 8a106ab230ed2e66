-- What is given values, and how many items.
use Rattle.std.proofs.Common.{◌≡◌, suc, ◌+◌, ◌≤◌, nat_lt, refl, arith, ap, sym, subst, ◌∙◌, inl, inr, List, [], ◌∷◌, ◌++◌, length, map, cond, ◌&&◌, Bool, true, false, Option, Some, None, Result, Ok}
use Rattle.std.specs.Prelude.{All, filter_map}
use Rattle.std.specs.List.{list_any}
use Rattle.std.proofs.lemmas.Bool.Decides.{nat_tests}
use Rattle.std.proofs.lemmas.List.{length-map, map-append}
use Rattle.std.proofs.lemmas.List.Elements.{All-append, All-cons, All-nil}
use Rattle.token_parts.specs.Parts.{TokenPart}
use Rattle.token_parts.specs.declared.fault.ValueFault.{ValueFault}
use Rattle.value_types.specs.Shorthands.{longhands_of}
use Rattle.value_types.specs.Table.{is_inherited}
use Rattle.value_types.specs.declared.list_value.ListName.{ListName}
use Rattle.value_types.specs.declared.list_value.ListName.TheVariants as list
use Rattle.value_types.specs.declared.list_value.ListValue.TheVariants.{Initial, Properties, Times, Easings, Names, Counts, Directions, Fills, States}
use Rattle.value_types.specs.declared.property.PropertyId.{PropertyId}
use Rattle.value_types.specs.declared.property.PropertyId.TheVariants as property
use Rattle.value_types.specs.declared.shorthand.Shorthand.{Shorthand}
use Rattle.value_types.specs.declared.shorthand.Shorthand.TheVariants as short
use Rattle.value_types.specs.declared.shorthand.PropertyItem.{PropertyItem}
use Rattle.value_text.specs.Reading.{declared_reading, value_in}
use Rattle.value_text.specs.Spelling.{cascade_keyword, declared_by}
use Rattle.value_text.specs.declared.cascade.Keyword.{Keyword}
use Rattle.list_text.specs.ItemReading.{each_of, groups_of, is_initial, items_within, list_of}
use Rattle.shorthand_text.specs.Declaring.{declared_of}
use Rattle.shorthand_text.specs.Outcomes.{all_given, outcome_map}
use Rattle.shorthand_text.specs.Sides.{box_in, initial_lists, keyword_in_all, lists_in, property_by, shorthand_from, shorthand_in, sides_in, value_in_all}
use Rattle.shorthand_text.specs.Targets.{AreOfOneLength, HasItems, target_of, targets_of}
use Rattle.shorthand_text.specs.TimingItems.{animation_in, animation_item, animation_lists, animation_longhands, animation_within, is_nothing, lone_nothing, playing_longhands, timing_longhands, transition_in, transition_item, transition_lists, transition_longhands, transition_within}
use Rattle.shorthand_text.specs.declared.animation.AnimationItem.{AnimationItem}
use Rattle.shorthand_text.specs.declared.known_name.KnownName.{KnownName}
use Rattle.shorthand_text.specs.declared.known_name.KnownName.TheVariants as known
use Rattle.shorthand_text.specs.declared.longhand.Longhand.{Longhand}
use Rattle.shorthand_text.specs.declared.longhand.Longhand.TheVariants as given
use Rattle.shorthand_text.specs.declared.sides.Sides.{Sides}
use Rattle.shorthand_text.specs.declared.transition.TransitionItem.{TransitionItem}
use Rattle.shorthand_text.proofs.OutcomeLemmas.{given_map, map_given}
use Rattle.shorthand_text.proofs.SideLemmas.{supported}
use Rattle.shorthand_text.proofs.TimingLemmas.{passed_within}

-- ---- what is given values

initial_targets : (names : List ListName) → map target_of (initial_lists names) ≡ map known.List names
initial_targets [] = refl
initial_targets (n ∷ ns) = ap (λ l. known.List n ∷ l) (initial_targets ns)

by_target : (k : Keyword) (p : PropertyId) (x : Longhand) → property_by k p ≡ Ok x → target_of x ≡ known.Property p
by_target k p x h = let found = supported (given.Property p) (declared_by (is_inherited p) k) x h in ap target_of (sym found.2)

keyword_targets : (s : Shorthand) (k : Keyword) (ls : List Longhand) → keyword_in_all s k ≡ Ok ls → map target_of ls ≡ targets_of (known.Short s)
unfolding keyword_in_all
keyword_targets s k ls h =
    let found = map_given (λ xs. xs ++ initial_lists (lists_in s)) (all_given (map (property_by k) (longhands_of s))) ls h in
    let front : map target_of found.0 ≡ map known.Property (longhands_of s) = given_map (property_by k) target_of known.Property (by_target k) (longhands_of s) found.0 found.1 in
    ap (map target_of) (sym found.2) ∙ map-append target_of found.0 (initial_lists (lists_in s))
    ∙ ap (λ l. l ++ map target_of (initial_lists (lists_in s))) front ∙ ap (λ l. map known.Property (longhands_of s) ++ l) (initial_targets (lists_in s))

box_targets : (bottom left right top : PropertyId) (parts : List TokenPart) (ls : List Longhand) → box_in (bottom ∷ left ∷ right ∷ top ∷ []) parts ≡ Ok ls
    → map target_of ls ≡ known.Property bottom ∷ known.Property left ∷ known.Property right ∷ known.Property top ∷ []
box_targets bottom left right top parts ls h =
    let found = map_given (λ (s : Sides). given.Property bottom s.bottom ∷ given.Property left s.left ∷ given.Property right s.right ∷ given.Property top s.top ∷ []) (sides_in top parts) ls h in
    ap (map target_of) (sym found.2)

value_targets : (s : Shorthand) (parts : List TokenPart) (ls : List Longhand) → value_in_all s parts ≡ Ok ls → map target_of ls ≡ targets_of (known.Short s)
value_targets short.All parts ls h = absurd (cc)
value_targets short.Background parts ls h =
    let found = map_given (λ d. given.Property property.BackgroundColor d ∷ []) (value_in property.BackgroundColor parts) ls h in
    ap (map target_of) (sym found.2)
value_targets short.Inset parts ls h = box_targets property.Bottom property.Left property.Right property.Top parts ls h
value_targets short.Margin parts ls h = box_targets property.MarginBottom property.MarginLeft property.MarginRight property.MarginTop parts ls h
value_targets short.Padding parts ls h = box_targets property.PaddingBottom property.PaddingLeft property.PaddingRight property.PaddingTop parts ls h

from_targets : (s : Shorthand) (parts : List TokenPart) (k : Option Keyword) (ls : List Longhand) → shorthand_from s parts k ≡ Ok ls → map target_of ls ≡ targets_of (known.Short s)
from_targets s parts (Some k) ls h = keyword_targets s k ls h
from_targets s parts None ls h = value_targets s parts ls h

short_targets : (s : Shorthand) (parts : List TokenPart) (ls : List Longhand) → shorthand_in s parts ≡ Ok ls → map target_of ls ≡ targets_of (known.Short s)
unfolding shorthand_in
short_targets s parts ls h = from_targets s parts (cascade_keyword parts) ls h

-- the initial lists, or those of items
lists_targets : {T : Type 0} (names : List ListName) (of_items : List T → List Longhand) (r : Result (List T) ValueFault) (b : Bool) (ls : List Longhand)
    → ((items : List T) → map target_of (of_items items) ≡ map known.List names)
    → cond b (Ok (initial_lists names)) (outcome_map of_items r) ≡ Ok ls → map target_of ls ≡ map known.List names
lists_targets names of_items r true ls each h = let e : initial_lists names ≡ ls = cc in ap (map target_of) (sym e) ∙ initial_targets names
lists_targets names of_items r false ls each h = let found = map_given of_items r ls h in ap (map target_of) (sym found.2) ∙ each found.0

transition_targets : (parts : List TokenPart) (ls : List Longhand) → transition_in parts ≡ Ok ls → map target_of ls ≡ map known.List transition_lists
unfolding transition_in
transition_targets parts ls h =
    lists_targets transition_lists transition_longhands (items_within transition_within (lone_nothing (each_of transition_item (groups_of false parts)))) (is_initial parts) ls (λ items. refl) h

animation_targets : (parts : List TokenPart) (ls : List Longhand) → animation_in parts ≡ Ok ls → map target_of ls ≡ map known.List animation_lists
unfolding animation_in
animation_targets parts ls h =
    lists_targets animation_lists animation_longhands (items_within animation_within (each_of animation_item (groups_of false parts))) (is_initial parts) ls (λ items. refl) h

pub targets_are : (name : KnownName) (parts : List TokenPart) (ls : List Longhand) → declared_of name parts ≡ Ok ls → map target_of ls ≡ targets_of name
unfolding declared_of
targets_are (known.Property p) parts ls h =
    let found = map_given (λ d. given.Property p d ∷ []) (declared_reading p parts) ls h in ap (map target_of) (sym found.2)
targets_are (known.List n) parts ls h = let found = map_given (λ v. given.List n v ∷ []) (list_of n parts) ls h in ap (map target_of) (sym found.2)
targets_are (known.Short s) parts ls h = short_targets s parts ls h
targets_are known.Transition parts ls h = transition_targets parts ls h
targets_are known.Animation parts ls h = animation_targets parts ls h

-- ---- how many items

all_of_four : (P : Longhand → Type 0) (a b c d : Longhand) → P a → P b → P c → P d → All P (a ∷ b ∷ c ∷ d ∷ [])
all_of_four P a b c d first second third fourth =
    All-cons P a (b ∷ c ∷ d ∷ []) first (All-cons P b (c ∷ d ∷ []) second (All-cons P c (d ∷ []) third (All-cons P d [] fourth (All-nil P))))

no_items : (names : List ListName) → All (HasItems 0) (initial_lists names)
no_items [] = All-nil (HasItems 0)
no_items (n ∷ ns) = All-cons (HasItems 0) (given.List n Initial) (initial_lists ns) (inl refl) (no_items ns)

named_first : (i : TransitionItem) (is : List TransitionItem) (o : Option PropertyItem) → i.property ≡ o → list_any is_nothing (i ∷ is) ≡ false
    → (list_any is_nothing is ≡ false → length (filter_map (λ (j : TransitionItem). j.property) is) ≡ length is)
    → length (filter_map (λ (j : TransitionItem). j.property) (i ∷ is)) ≡ length (i ∷ is)
named_first i is None e h rest = let never : true ≡ false = rw e at h in absurd (cc)
named_first i is (Some p) e h rest = let others : list_any is_nothing is ≡ false = rw e at h in rw e (ap suc (rest others))

-- where no item is `none` there are as many properties as items
property_of_each : (items : List TransitionItem) → list_any is_nothing items ≡ false → length (filter_map (λ (i : TransitionItem). i.property) items) ≡ length items
property_of_each [] h = refl
property_of_each (i ∷ is) h = named_first i is i.property refl h (property_of_each is)

-- an item that is `none` names no property
no_property : (i : TransitionItem) (o : Option PropertyItem) → i.property ≡ o → list_any is_nothing (i ∷ []) ≡ true → filter_map (λ (j : TransitionItem). j.property) (i ∷ []) ≡ []
no_property i None e h = rw e refl
no_property i (Some p) e h = let never : false ≡ true = rw e at h in absurd (cc)

properties_given : (items : List TransitionItem) (a b : Bool) → list_any is_nothing items ≡ a → nat_lt 1 (length items) ≡ b → a && b ≡ false
    → HasItems (length items) (given.List list.TransitionProperty (Properties (filter_map (λ (i : TransitionItem). i.property) items)))
properties_given items false b e many h = inl (property_of_each items e)
properties_given [] true false e many h = absurd (cc)
properties_given (i ∷ []) true false e many h = inr (ap (λ l. given.List list.TransitionProperty (Properties l)) (no_property i i.property refl e), refl)
properties_given (i ∷ j ∷ is) true false e many h = let few : length (i ∷ j ∷ is) ≤ 1 = grind (arith, nat_tests) in absurd (omega (arith, few))
properties_given items true true e many h = absurd (cc)

lone_at : (xs ys : List TransitionItem) (b : Bool) → list_any is_nothing xs && nat_lt 1 (length xs) ≡ b → cond b None (Some xs) ≡ Some ys
    → list_any is_nothing ys && nat_lt 1 (length ys) ≡ false
lone_at xs ys true e h = absurd (cc)
lone_at xs ys false e h = let same : xs ≡ ys = cc in subst (λ (l : List TransitionItem). list_any is_nothing l && nat_lt 1 (length l) ≡ false) same e

lone_kept : (o : Option (List TransitionItem)) (ys : List TransitionItem) → lone_nothing o ≡ Some ys → list_any is_nothing ys && nat_lt 1 (length ys) ≡ false
lone_kept None ys h = absurd (cc)
lone_kept (Some xs) ys h = lone_at xs ys (list_any is_nothing xs && nat_lt 1 (length xs)) refl h

mapped_length : {T A : Type 0} (f : T → A) (xs : List T) → length (map f xs) ≡ length xs
mapped_length f xs = length-map xs f

transition_length : (parts : List TokenPart) (b : Bool) (ls : List Longhand)
    → cond b (Ok (initial_lists transition_lists)) (outcome_map transition_longhands (items_within transition_within (lone_nothing (each_of transition_item (groups_of false parts))))) ≡ Ok ls
    → AreOfOneLength ls
transition_length parts true ls h =
    let e : initial_lists transition_lists ≡ ls = cc in subst AreOfOneLength e (record { count = 0; each = no_items transition_lists })
transition_length parts false ls h =
    let found = map_given transition_longhands (items_within transition_within (lone_nothing (each_of transition_item (groups_of false parts)))) ls h in
    let items : List TransitionItem = found.0 in
    let passed = passed_within transition_within (lone_nothing (each_of transition_item (groups_of false parts))) items found.1 in
    let lone = lone_kept (each_of transition_item (groups_of false parts)) items passed.0 in
    subst AreOfOneLength found.2 (record {
      count = length items;
      each = all_of_four (HasItems (length items))
          (given.List list.TransitionProperty (Properties (filter_map (λ i. i.property) items)))
          (given.List list.TransitionDuration (Times (map (λ i. i.duration) items)))
          (given.List list.TransitionDelay (Times (map (λ i. i.delay) items)))
          (given.List list.TransitionEasing (Easings (map (λ i. i.easing) items)))
          (properties_given items (list_any is_nothing items) (nat_lt 1 (length items)) refl refl lone)
          (inl (mapped_length (λ i. i.duration) items)) (inl (mapped_length (λ i. i.delay) items)) (inl (mapped_length (λ i. i.easing) items));
    })

animation_length : (parts : List TokenPart) (b : Bool) (ls : List Longhand)
    → cond b (Ok (initial_lists animation_lists)) (outcome_map animation_longhands (items_within animation_within (each_of animation_item (groups_of false parts)))) ≡ Ok ls
    → AreOfOneLength ls
animation_length parts true ls h =
    let e : initial_lists animation_lists ≡ ls = cc in subst AreOfOneLength e (record { count = 0; each = no_items animation_lists })
animation_length parts false ls h =
    let found = map_given animation_longhands (items_within animation_within (each_of animation_item (groups_of false parts))) ls h in
    let items : List AnimationItem = found.0 in
    subst AreOfOneLength found.2 (record {
      count = length items;
      each = All-append (HasItems (length items)) (timing_longhands items) (playing_longhands items)
          (all_of_four (HasItems (length items))
          (given.List list.AnimationName (Names (map (λ i. i.name) items)))
          (given.List list.AnimationDuration (Times (map (λ i. i.duration) items)))
          (given.List list.AnimationDelay (Times (map (λ i. i.delay) items)))
          (given.List list.AnimationEasing (Easings (map (λ i. i.easing) items)))
          (inl (mapped_length (λ i. i.name) items)) (inl (mapped_length (λ i. i.duration) items)) (inl (mapped_length (λ i. i.delay) items)) (inl (mapped_length (λ i. i.easing) items)))
          (all_of_four (HasItems (length items))
          (given.List list.AnimationCount (Counts (map (λ i. i.count) items)))
          (given.List list.AnimationDirection (Directions (map (λ i. i.direction) items)))
          (given.List list.AnimationFill (Fills (map (λ i. i.fill) items)))
          (given.List list.AnimationPlayState (States (map (λ i. i.state) items)))
          (inl (mapped_length (λ i. i.count) items)) (inl (mapped_length (λ i. i.direction) items)) (inl (mapped_length (λ i. i.fill) items)) (inl (mapped_length (λ i. i.state) items)));
    })

pub transitions_of_one_length : (parts : List TokenPart) (ls : List Longhand) → declared_of known.Transition parts ≡ Ok ls → AreOfOneLength ls
unfolding declared_of transition_in
transitions_of_one_length parts ls h = transition_length parts (is_initial parts) ls h

pub animations_of_one_length : (parts : List TokenPart) (ls : List Longhand) → declared_of known.Animation parts ≡ Ok ls → AreOfOneLength ls
unfolding declared_of animation_in
animations_of_one_length parts ls h = animation_length parts (is_initial parts) ls h
