-- What the shorthands of timing lists declare may be declared there.
use Rattle.std.proofs.Common.{◌≡◌, ℕ, suc, ◌+◌, ◌==◌, ◌<◌, ◌≤◌, nat_le, nat_lt, refl, arith, ap, sym, subst, ◌∙◌, List, [], ◌∷◌, length, map, cond, ◌&&◌, ◌^◌, Bool, true, false, Option, Some, None, Ok, Err, pos, unsigned_abs}
use Rattle.std.specs.Prelude.{All, filter_map, unwrap_or}
use Rattle.std.specs.List.{list_all, list_any}
use Rattle.std.proofs.lemmas.Bool.Decides.{nat_tests}
use Rattle.std.proofs.lemmas.Int.{ints}
use Rattle.std.proofs.lemmas.List.{length-map}
use Rattle.std.proofs.lemmas.List.Elements.{All-append, All-cons, All-map, All-nil, All-weaker}
use Rattle.fix_num.specs.declared.units.Micros.{Micros}
use Rattle.token_parts.specs.Parts.{TokenPart}
use Rattle.token_parts.specs.Steps.{◌>>=◌}
use Rattle.token_parts.specs.declared.fault.ValueFault.TheVariants.{BoundItems, Bound}
use Rattle.timing_types.specs.Names.{IsNameItem}
use Rattle.timing_types.specs.Timing.{IsAny, IsCount, IsDelay, IsDuration, IsEasing, ease}
use Rattle.timing_types.specs.TimingLists.{IsListOf, no_time, once}
use Rattle.timing_types.specs.declared.easing.Easing.{Easing}
use Rattle.timing_types.specs.declared.timing.Count.{Count}
use Rattle.timing_types.specs.declared.timing.Direction.{Direction}
use Rattle.timing_types.specs.declared.timing.Direction.TheVariants.{Normal}
use Rattle.timing_types.specs.declared.timing.Fill.{Fill}
use Rattle.timing_types.specs.declared.timing.Fill.TheVariants.{Nothing}
use Rattle.timing_types.specs.declared.timing.PlayState.{PlayState}
use Rattle.timing_types.specs.declared.timing.PlayState.TheVariants.{Running}
use Rattle.value_types.specs.declared.list_value.ListName.TheVariants as list
use Rattle.value_types.specs.declared.list_value.ListValue.TheVariants.{Properties, Times, Easings, Names, Counts, Directions, Fills, States}
use Rattle.value_types.specs.declared.shorthand.PropertyItem.{PropertyItem}
use Rattle.list_text.specs.ItemReading.{count_within, each_of, groups_of, is_initial, items_within, micros, micros_within}
use Rattle.list_text.specs.Numbers.{not_negative}
use Rattle.list_text.specs.Reading.{easing_within}
use Rattle.list_text.proofs.ListLemmas.{cuts, easing_judges, name_judges}
use Rattle.list_text.proofs.OptionLemmas.{bound, mapped}
use Rattle.list_text.proofs.TimeLemmas.{count_judges}
use Rattle.shorthand_text.specs.Components.{component_values_of, first_some, fitting, others}
use Rattle.shorthand_text.specs.Longhands.{IsLonghand}
use Rattle.shorthand_text.specs.Outcomes.{outcome_map}
use Rattle.shorthand_text.specs.Sides.{initial_lists}
use Rattle.shorthand_text.specs.TimingItems.{animation_of_values, animation_in, animation_item, animation_lists, animation_longhands, animation_within, count_in, direction_in, item_duration, easing_in, fill_in, is_nothing, lone_nothing, name_in, playing_longhands, property_of, state_in, time_in, timing_longhands, transition_of_values, transition_in, transition_item, transition_lists, transition_longhands, transition_within}
use Rattle.shorthand_text.specs.declared.animation.AnimationItem.{AnimationItem}
use Rattle.shorthand_text.specs.declared.longhand.Longhand.{Longhand}
use Rattle.shorthand_text.specs.declared.longhand.Longhand.TheVariants as given
use Rattle.shorthand_text.specs.declared.transition.TransitionItem.{TransitionItem}
use Rattle.shorthand_text.proofs.OutcomeLemmas.{map_given}
use Rattle.shorthand_text.proofs.SideLemmas.{all_four, initial_valid}

-- ---- tests

and_first : (a b : Bool) → a && b ≡ true → a ≡ true
and_first true b h = refl
and_first false b h = absurd (cc)

and_second : (a b : Bool) → a && b ≡ true → b ≡ true
and_second true b h = h
and_second false b h = absurd (cc)

unless_empty : {A : Type 0} (b : Bool) (o : Option A) (x : A) → cond b None o ≡ Some x → o ≡ Some x
unless_empty true o x h = absurd (cc)
unless_empty false o x h = h

-- ---- lists of items

-- each item that was found and passes has what a reader promises
items_keep : {T : Type 0} (W : T → Type 0) (item : List TokenPart → Option T) (within : T → Bool) → ((g : List TokenPart) (x : T) → item g ≡ Some x → within x ≡ true → W x)
    → (gs : List (List TokenPart)) (ys : List T) → each_of item gs ≡ Some ys → list_all within ys ≡ true → All W ys
items_keep W item within keeps [] ys found all = let e : [] ≡ ys = cc in subst (All W) e (All-nil W)
items_keep {T} W item within keeps (g ∷ gs) ys found all =
    let first = bound (item g) (λ y. each_of item gs >>= λ zs. Some (y ∷ zs)) ys found in
    let rest = bound (each_of item gs) (λ zs. Some (first.0 ∷ zs)) ys first.2 in
    let e : first.0 ∷ rest.0 ≡ ys = cc (rest.2) in
    let tests : within first.0 && list_all within rest.0 ≡ true = subst (λ (l : List T). list_all within l ≡ true) (sym e) all in
    subst (All W) e
    (All-cons W first.0 rest.0 (keeps g first.0 first.1 (and_first (within first.0) (list_all within rest.0) tests))
    (items_keep W item within keeps gs rest.0 rest.1 (and_second (within first.0) (list_all within rest.0) tests)))

-- there are as many items as groups
as_many : {T : Type 0} (item : List TokenPart → Option T) (gs : List (List TokenPart)) (ys : List T) → each_of item gs ≡ Some ys → length ys ≡ length gs
as_many item [] ys found = let e : [] ≡ ys = cc in ap length (sym e)
as_many item (g ∷ gs) ys found =
    let first = bound (item g) (λ y. each_of item gs >>= λ zs. Some (y ∷ zs)) ys found in
    let rest = bound (each_of item gs) (λ zs. Some (first.0 ∷ zs)) ys first.2 in
    let e : first.0 ∷ rest.0 ≡ ys = cc (rest.2) in
    ap length (sym e) ∙ ap suc (as_many item gs rest.0 rest.1)

-- the items of a list that was read
pub record AreRead {T : Type 0} (W : T → Type 0) (ys : List T) : Type 0 where
  pub some : 0 < length ys
  pub few : length ys ≤ 32
  pub each : All W ys

within_at : {T : Type 0} (within : T → Bool) (xs ys : List T) (a b : Bool) → nat_lt 32 (length xs) ≡ a → list_all within xs ≡ b → cond a (Err BoundItems) (cond b (Ok xs) (Err Bound)) ≡ Ok ys
    → (xs ≡ ys) × (length xs ≤ 32) × (list_all within xs ≡ true)
within_at within xs ys true b many all h = absurd (cc)
within_at within xs ys false true few all h = let e : xs ≡ ys = cc in (e, grind (arith, nat_tests), all)
within_at within xs ys false false few all h = absurd (cc)

-- what passed all tests was found
pub passed_within : {T : Type 0} (within : T → Bool) (o : Option (List T)) (ys : List T) → items_within within o ≡ Ok ys → (o ≡ Some ys) × (length ys ≤ 32) × (list_all within ys ≡ true)
passed_within within None ys h = absurd (cc)
passed_within {T} within (Some xs) ys h =
    let at = within_at within xs ys (nat_lt 32 (length xs)) (list_all within xs) refl refl h in
    (ap Some at.0, subst (λ (l : List T). length l ≤ 32) at.0 at.1, subst (λ (l : List T). list_all within l ≡ true) at.0 at.2)

some_groups : (parts : List TokenPart) → 0 < length (groups_of false parts)
some_groups parts = let c = cuts false parts in rw c.are (omega arith)

read_items : {T : Type 0} (W : T → Type 0) (item : List TokenPart → Option T) (within : T → Bool) → ((g : List TokenPart) (x : T) → item g ≡ Some x → within x ≡ true → W x)
    → (parts : List TokenPart) (ys : List T) → each_of item (groups_of false parts) ≡ Some ys → length ys ≤ 32 → list_all within ys ≡ true → AreRead W ys
read_items W item within keeps parts ys found few all = record {
  some = let n = as_many item (groups_of false parts) ys found in let k = some_groups parts in omega arith;
  few = few;
  each = items_keep W item within keeps (groups_of false parts) ys found all;
}

-- a list of one part of each item
pub part_of_each : {T A : Type 0} (W : T → Type 0) (P : A → Type 0) (f : T → A) → ((x : T) → W x → P (f x)) → (xs : List T) → All W xs → All P (map f xs)
part_of_each W P f keeps xs all = All-map P f xs (All-weaker W (λ x. P (f x)) keeps xs all)

list_of_each : {T A : Type 0} (W : T → Type 0) (P : A → Type 0) (f : T → A) → ((x : T) → W x → P (f x)) → (xs : List T) → AreRead W xs → IsListOf P (map f xs)
list_of_each W P f keeps xs h = record {
  some = rw (length-map xs f) h.some;
  few = rw (length-map xs f) h.few;
  each = part_of_each W P f keeps xs h.each;
}

-- ---- the parts of an item

fitting_at : {T : Type 0} (meaning : List TokenPart → Option T) (c : List TokenPart) (o : Option T) (cs : List (List TokenPart)) (x : T) → meaning c ≡ o
    → first_some o (fitting meaning cs) ≡ Some x → (fitting meaning cs ≡ Some x → (d : List TokenPart) × (meaning d ≡ Some x)) → (d : List TokenPart) × (meaning d ≡ Some x)
fitting_at meaning c (Some y) cs x e h later = (c, e ∙ h)
fitting_at meaning c None cs x e h later = later h

-- what fits is what some component is
fitting_was : {T : Type 0} (meaning : List TokenPart → Option T) (cs : List (List TokenPart)) (x : T) → fitting meaning cs ≡ Some x → (c : List TokenPart) × (meaning c ≡ Some x)
fitting_was meaning [] x h = absurd (cc)
fitting_was meaning (c ∷ cs) x h = fitting_at meaning c (meaning c) cs x refl h (fitting_was meaning cs x)

-- what is found, else the initial value, keeps its bounds where it passes its test
or_initial_keeps : {T : Type 0} (W : T → Type 0) (within : T → Bool) (meaning : List TokenPart → Option T) (initial : T) → W initial
    → ((c : List TokenPart) (x : T) → meaning c ≡ Some x → within x ≡ true → W x)
    → (cs : List (List TokenPart)) (o : Option T) → fitting meaning cs ≡ o → within (unwrap_or o initial) ≡ true → W (unwrap_or o initial)
or_initial_keeps W within meaning initial base keeps cs None e h = base
or_initial_keeps W within meaning initial base keeps cs (Some x) e h = let c = fitting_was meaning cs x e in keeps c.0 x c.1 h

within_limit : (t : Micros) → micros_within t ≡ true → unsigned_abs t.0 ≤ 10 ^ 15
within_limit t h = let size : nat_le (unsigned_abs t.0) (10 ^ 15) ≡ true = h in grind (arith, nat_tests)

delay_keeps : (t : Micros) → micros_within t ≡ true → IsDelay t
delay_keeps t h = record { size = within_limit t h }

duration_keeps : (o : Option Micros) (d : Micros) → item_duration o ≡ Some d → micros_within d ≡ true → IsDuration d
duration_keeps o d found h =
    let n = mapped (λ k. micros (pos k)) (not_negative (unwrap_or o no_time).0) d found in
    let is : d.0 ≡ pos n.0 = ap (λ (t : Micros). t.0) (sym n.2) in
    let size : unsigned_abs d.0 ≤ 10 ^ 15 = within_limit d h in
    let small : n.0 ≤ 10 ^ 15 = rw is at size in
    record { low = rw is (omega (arith, ints)); high = rw is (omega (arith, ints)) }

ease_is : IsEasing ease
ease_is = (record { low = omega (arith, ints); high = omega (arith, ints); height = omega (arith, ints) }, record { low = omega (arith, ints); high = omega (arith, ints); height = omega (arith, ints) })

once_is : IsCount once
once_is = (omega (arith, ints), omega (arith, ints))

easing_keeps : (c : List TokenPart) (e : Easing) → easing_in c ≡ Some e → easing_within e ≡ true → IsEasing e
easing_keeps c e found h = (easing_judges.kept c e found h).1

count_keeps : (c : List TokenPart) (n : Count) → count_in c ≡ Some n → count_within n ≡ true → IsCount n
count_keeps c n found h = (count_judges.kept c n found h).1

name_keeps : (cs : List (List TokenPart)) (name : Option (List ℕ)) → name_in cs ≡ Some name → IsNameItem name
name_keeps [] name h = let e : None ≡ name = cc in subst IsNameItem e tt
name_keeps (c ∷ []) name h = (name_judges.kept c name h refl).1
name_keeps (c ∷ d ∷ cs) name h = absurd (cc)

-- ---- items of transitions

pub record IsTransitionItem (i : TransitionItem) : Type 0 where
  pub duration : IsDuration i.duration
  pub delay : IsDelay i.delay
  pub easing : IsEasing i.easing

-- the parts of an item that passes keep their bounds
transition_kept : (property : Option PropertyItem) (duration : Micros) (first : Option Micros) (c2 cs : List (List TokenPart)) → item_duration first ≡ Some duration
    → (micros_within duration && micros_within (unwrap_or (fitting time_in c2) no_time) && easing_within (unwrap_or (fitting easing_in cs) ease) ≡ true)
    → IsTransitionItem (record { property = property; duration = duration; delay = unwrap_or (fitting time_in c2) no_time; easing = unwrap_or (fitting easing_in cs) ease })
transition_kept property duration first c2 cs found passes =
    let times = and_first (micros_within duration && micros_within (unwrap_or (fitting time_in c2) no_time)) (easing_within (unwrap_or (fitting easing_in cs) ease)) passes in
    record {
      duration = duration_keeps first duration found (and_first (micros_within duration) (micros_within (unwrap_or (fitting time_in c2) no_time)) times);
      delay = delay_keeps (unwrap_or (fitting time_in c2) no_time) (and_second (micros_within duration) (micros_within (unwrap_or (fitting time_in c2) no_time)) times);
      easing = or_initial_keeps IsEasing easing_within easing_in ease ease_is easing_keeps cs (fitting easing_in cs) refl
          (and_second (micros_within duration && micros_within (unwrap_or (fitting time_in c2) no_time)) (easing_within (unwrap_or (fitting easing_in cs) ease)) passes);
    }

transition_made : (cs : List (List TokenPart)) (i : TransitionItem) → transition_of_values cs ≡ Some i → transition_within i ≡ true → IsTransitionItem i
transition_made cs i h passes =
    let c1 : List (List TokenPart) = others easing_in cs in
    let c2 : List (List TokenPart) = others time_in c1 in
    let made : Option PropertyItem → Micros → TransitionItem = λ property duration. record {
      property = property;
      duration = duration;
      delay = unwrap_or (fitting time_in c2) no_time;
      easing = unwrap_or (fitting easing_in cs) ease;
    } in
    let p = bound (property_of (others time_in c2)) (λ property. item_duration (fitting time_in c1) >>= λ duration. Some (made property duration)) i h in
    let d = bound (item_duration (fitting time_in c1)) (λ duration. Some (made p.0 duration)) i p.2 in
    let is : made p.0 d.0 ≡ i = cc (d.2) in
    subst IsTransitionItem is (transition_kept p.0 d.0 (fitting time_in c1) c2 cs d.1 (subst (λ (x : TransitionItem). transition_within x ≡ true) (sym is) passes))

transition_keeps : (g : List TokenPart) (i : TransitionItem) → transition_item g ≡ Some i → transition_within i ≡ true → IsTransitionItem i
unfolding transition_item
transition_keeps g i h passes = transition_made (component_values_of false g) i (unless_empty (length g == 0) (transition_of_values (component_values_of false g)) i h) passes

lone_at : (xs ys : List TransitionItem) (b : Bool) → cond b None (Some xs) ≡ Some ys → Some xs ≡ Some ys
lone_at xs ys true h = absurd (cc)
lone_at xs ys false h = h

-- `none` alone leaves the items as they were found
lone_was : (o : Option (List TransitionItem)) (ys : List TransitionItem) → lone_nothing o ≡ Some ys → o ≡ Some ys
lone_was None ys h = absurd (cc)
lone_was (Some xs) ys h = lone_at xs ys (list_any is_nothing xs && nat_lt 1 (length xs)) h

one_longer : {A B : Type 0} (f : A → Option B) (x : A) (xs : List A) (o : Option B) → f x ≡ o → length (filter_map f xs) ≤ length xs → length (filter_map f (x ∷ xs)) ≤ length xs + 1
one_longer f x xs None e h = rw e (omega arith)
one_longer f x xs (Some y) e h = rw e (omega arith)

no_longer : {A B : Type 0} (f : A → Option B) (xs : List A) → length (filter_map f xs) ≤ length xs
no_longer f [] = omega arith
no_longer f (x ∷ xs) = let more = one_longer f x xs (f x) refl (no_longer f xs) in omega (arith, more)

transitions_valid : (items : List TransitionItem) → AreRead IsTransitionItem items → All IsLonghand (transition_longhands items)
transitions_valid items h =
    let properties : length (filter_map (λ (i : TransitionItem). i.property) items) ≤ 32 = let n = no_longer (λ (i : TransitionItem). i.property) items in let few = h.few in omega arith in
    all_four (given.List list.TransitionProperty (Properties (filter_map (λ i. i.property) items)))
    (given.List list.TransitionDuration (Times (map (λ i. i.duration) items)))
    (given.List list.TransitionDelay (Times (map (λ i. i.delay) items)))
    (given.List list.TransitionEasing (Easings (map (λ i. i.easing) items)))
    properties
    (list_of_each IsTransitionItem IsDuration (λ i. i.duration) (λ i k. k.duration) items h)
    (list_of_each IsTransitionItem IsDelay (λ i. i.delay) (λ i k. k.delay) items h)
    (list_of_each IsTransitionItem IsEasing (λ i. i.easing) (λ i k. k.easing) items h)

transition_at : (parts : List TokenPart) (b : Bool) (ls : List Longhand)
    → cond b (Ok (initial_lists transition_lists)) (outcome_map transition_longhands (items_within transition_within (lone_nothing (each_of transition_item (groups_of false parts))))) ≡ Ok ls
    → All IsLonghand ls
transition_at parts true ls h = let e : initial_lists transition_lists ≡ ls = cc in subst (All IsLonghand) e (initial_valid transition_lists)
transition_at parts false ls h =
    let found = map_given transition_longhands (items_within transition_within (lone_nothing (each_of transition_item (groups_of false parts)))) ls h in
    let passed = passed_within transition_within (lone_nothing (each_of transition_item (groups_of false parts))) found.0 found.1 in
    let each = lone_was (each_of transition_item (groups_of false parts)) found.0 passed.0 in
    subst (All IsLonghand) found.2
    (transitions_valid found.0 (read_items IsTransitionItem transition_item transition_within transition_keeps parts found.0 each passed.1 passed.2))

pub transition_valid : (parts : List TokenPart) (ls : List Longhand) → transition_in parts ≡ Ok ls → All IsLonghand ls
unfolding transition_in
transition_valid parts ls h = transition_at parts (is_initial parts) ls h

-- ---- items of animations

pub record IsAnimationItem (i : AnimationItem) : Type 0 where
  pub name : IsNameItem i.name
  pub duration : IsDuration i.duration
  pub delay : IsDelay i.delay
  pub easing : IsEasing i.easing
  pub count : IsCount i.count

-- the parts of an item that passes keep their bounds
animation_kept : (name : Option (List ℕ)) (duration : Micros) (direction : Direction) (fill : Fill) (state : PlayState) (first : Option Micros)
    (names c3 c4 c6 : List (List TokenPart)) → name_in names ≡ Some name → item_duration first ≡ Some duration
    → (micros_within duration && micros_within (unwrap_or (fitting time_in c6) no_time) && easing_within (unwrap_or (fitting easing_in c3) ease) && count_within (unwrap_or (fitting count_in c4) once) ≡ true)
    → IsAnimationItem (record {
      name = name;
      duration = duration;
      delay = unwrap_or (fitting time_in c6) no_time;
      easing = unwrap_or (fitting easing_in c3) ease;
      count = unwrap_or (fitting count_in c4) once;
      direction = direction;
      fill = fill;
      state = state;
    })
animation_kept name duration direction fill state first names c3 c4 c6 named found passes =
    let d = micros_within duration in
    let l = micros_within (unwrap_or (fitting time_in c6) no_time) in
    let e = easing_within (unwrap_or (fitting easing_in c3) ease) in
    let n = count_within (unwrap_or (fitting count_in c4) once) in
    let three = and_first (d && l && e) n passes in
    let times = and_first (d && l) e three in
    record {
      name = name_keeps names name named;
      duration = duration_keeps first duration found (and_first d l times);
      delay = delay_keeps (unwrap_or (fitting time_in c6) no_time) (and_second d l times);
      easing = or_initial_keeps IsEasing easing_within easing_in ease ease_is easing_keeps c3 (fitting easing_in c3) refl (and_second (d && l) e three);
      count = or_initial_keeps IsCount count_within count_in once once_is count_keeps c4 (fitting count_in c4) refl (and_second (d && l && e) n passes);
    }

animation_made : (cs : List (List TokenPart)) (i : AnimationItem) → animation_of_values cs ≡ Some i → animation_within i ≡ true → IsAnimationItem i
animation_made cs i h passes =
    let c1 : List (List TokenPart) = others direction_in cs in
    let c2 : List (List TokenPart) = others fill_in c1 in
    let c3 : List (List TokenPart) = others state_in c2 in
    let c4 : List (List TokenPart) = others easing_in c3 in
    let c5 : List (List TokenPart) = others count_in c4 in
    let c6 : List (List TokenPart) = others time_in c5 in
    let made : Option (List ℕ) → Micros → AnimationItem = λ name duration. record {
      name = name;
      duration = duration;
      delay = unwrap_or (fitting time_in c6) no_time;
      easing = unwrap_or (fitting easing_in c3) ease;
      count = unwrap_or (fitting count_in c4) once;
      direction = unwrap_or (fitting direction_in cs) Normal;
      fill = unwrap_or (fitting fill_in c1) Nothing;
      state = unwrap_or (fitting state_in c2) Running;
    } in
    let p = bound (name_in (others time_in c6)) (λ name. item_duration (fitting time_in c5) >>= λ duration. Some (made name duration)) i h in
    let d = bound (item_duration (fitting time_in c5)) (λ duration. Some (made p.0 duration)) i p.2 in
    let is : made p.0 d.0 ≡ i = cc (d.2) in
    subst IsAnimationItem is
    (animation_kept p.0 d.0 (unwrap_or (fitting direction_in cs) Normal) (unwrap_or (fitting fill_in c1) Nothing) (unwrap_or (fitting state_in c2) Running) (fitting time_in c5)
    (others time_in c6) c3 c4 c6 p.1 d.1 (subst (λ (x : AnimationItem). animation_within x ≡ true) (sym is) passes))

animation_keeps : (g : List TokenPart) (i : AnimationItem) → animation_item g ≡ Some i → animation_within i ≡ true → IsAnimationItem i
unfolding animation_item
animation_keeps g i h passes = animation_made (component_values_of false g) i (unless_empty (length g == 0) (animation_of_values (component_values_of false g)) i h) passes

animations_valid : (items : List AnimationItem) → AreRead IsAnimationItem items → All IsLonghand (animation_longhands items)
animations_valid items h =
    All-append IsLonghand (timing_longhands items) (playing_longhands items)
    (all_four (given.List list.AnimationName (Names (map (λ i. i.name) items)))
    (given.List list.AnimationDuration (Times (map (λ i. i.duration) items)))
    (given.List list.AnimationDelay (Times (map (λ i. i.delay) items)))
    (given.List list.AnimationEasing (Easings (map (λ i. i.easing) items)))
    (list_of_each IsAnimationItem IsNameItem (λ i. i.name) (λ i k. k.name) items h)
    (list_of_each IsAnimationItem IsDuration (λ i. i.duration) (λ i k. k.duration) items h)
    (list_of_each IsAnimationItem IsDelay (λ i. i.delay) (λ i k. k.delay) items h)
    (list_of_each IsAnimationItem IsEasing (λ i. i.easing) (λ i k. k.easing) items h))
    (all_four (given.List list.AnimationCount (Counts (map (λ i. i.count) items)))
    (given.List list.AnimationDirection (Directions (map (λ i. i.direction) items)))
    (given.List list.AnimationFill (Fills (map (λ i. i.fill) items)))
    (given.List list.AnimationPlayState (States (map (λ i. i.state) items)))
    (list_of_each IsAnimationItem IsCount (λ i. i.count) (λ i k. k.count) items h)
    (list_of_each IsAnimationItem IsAny (λ i. i.direction) (λ i k. tt) items h)
    (list_of_each IsAnimationItem IsAny (λ i. i.fill) (λ i k. tt) items h)
    (list_of_each IsAnimationItem IsAny (λ i. i.state) (λ i k. tt) items h))

animation_at : (parts : List TokenPart) (b : Bool) (ls : List Longhand)
    → cond b (Ok (initial_lists animation_lists)) (outcome_map animation_longhands (items_within animation_within (each_of animation_item (groups_of false parts)))) ≡ Ok ls
    → All IsLonghand ls
animation_at parts true ls h = let e : initial_lists animation_lists ≡ ls = cc in subst (All IsLonghand) e (initial_valid animation_lists)
animation_at parts false ls h =
    let found = map_given animation_longhands (items_within animation_within (each_of animation_item (groups_of false parts))) ls h in
    let passed = passed_within animation_within (each_of animation_item (groups_of false parts)) found.0 found.1 in
    subst (All IsLonghand) found.2
    (animations_valid found.0 (read_items IsAnimationItem animation_item animation_within animation_keeps parts found.0 passed.0 passed.1 passed.2))

pub animation_valid : (parts : List TokenPart) (ls : List Longhand) → animation_in parts ≡ Ok ls → All IsLonghand ls
unfolding animation_in
animation_valid parts ls h = animation_at parts (is_initial parts) ls h
