-- Events that are put in order are the ones in order.
use Rattle.std.proofs.Common.{◌≡◌, ◌≢◌, suc, get_or, refl, sym, ◌∙◌, ap, arith, Bool, true, false, List, [], ◌∷◌, ◌++◌, ℕ}
use Rattle.std.specs.Prelude.{All, AllPairs, flat_map, if◌then◌else◌}
use Rattle.std.specs.List.{IsDistinct}
use Rattle.std.specs.List.Sorted.{IsPermutation}
use Rattle.std.specs.Ordering.{is_eq, is_lt, ordering_reverse}
use Rattle.std.specs.declared.cmp.Ordering.{Ordering}
use Rattle.std.specs.declared.cmp.Ordering.TheVariants.{Less, Equal, Greater}
use Rattle.std.proofs.lemmas.List.Elements.{All-cons, All-head, All-nil, All-tail, All-weaker}
use Rattle.std.proofs.lemmas.List.Kept.{AllPairs-cons}
use Rattle.std.proofs.lemmas.List.Sorted.{All-permutation, Contains-permutation, IsPermutation-cons, IsPermutation-middle, IsPermutation-refl, IsPermutation-sym, IsPermutation-trans}
use Rattle.std.proofs.lemmas.Map.Keys.{IsDistinct-from_apart, IsDistinct-IsPermutation, apart_from_distinct}
use Rattle.event_order.specs.Order.{IsInOrderOf}
use Rattle.event_order.proofs.Ascending.{one_order}
use Rattle.event_order.proofs.KeyLemmas.{keys_exact, keys_total}
use Rattle.style_data.specs.Events.{key_order}
use Rattle.style_data.specs.declared.event.Event.{Event}
use Rattle.restyle.specs.Worlds.{WorldParts, events_of_frame}
use Rattle.transcript_text.specs.Lines.{event_line}
use Rattle.transcript_cli.specs.Order.{in_order, with_event}
use Rattle.transcript_cli.specs.Transcript.{frame_lines}

abbrev is_tied : Event → Event → Bool
is_tied a b = is_eq (key_order a.key b.key)

abbrev IsApart : Event → Event → Type 0
IsApart a b = is_tied a b ≡ false

abbrev IsEarlier : Event → Event → Type 0
IsEarlier a b = key_order a.key b.key ≡ Less

pairs_none : (R : Event → Event → Type 0) → AllPairs R []
pairs_none R i j d less short = absurd (omega (arith, short))

pairs_head : (R : Event → Event → Type 0) (x : Event) (xs : List Event) → AllPairs R (x ∷ xs) → All (R x) xs
pairs_head R x xs all = λ i d l. all 0 (suc i) d (omega arith) (omega (arith, l))

pairs_tail : (R : Event → Event → Type 0) (x : Event) (xs : List Event) → AllPairs R (x ∷ xs) → AllPairs R xs
pairs_tail R x xs all i j d less short = all (suc i) (suc j) d (omega (arith, less)) (omega (arith, short))

-- ---- the same events

moved : (e : Event) (xs : List Event) → IsPermutation (e ∷ xs) (with_event e xs)
moved e [] = IsPermutation-refl (e ∷ [])
moved e (x ∷ xs) = by_test (is_lt (key_order x.key e.key)) (moved e xs) where
  by_test : (b : Bool) → IsPermutation (e ∷ xs) (with_event e xs) → IsPermutation (e ∷ x ∷ xs) (if b then x ∷ with_event e xs else e ∷ x ∷ xs)
  by_test true rest =
      IsPermutation-trans (e ∷ x ∷ xs) (x ∷ e ∷ xs) (x ∷ with_event e xs) (IsPermutation-middle (e ∷ []) x xs) (IsPermutation-cons x (e ∷ xs) (with_event e xs) rest)
  by_test false rest = IsPermutation-refl (e ∷ x ∷ xs)

pub same_events : (events : List Event) → IsPermutation events (in_order events)
same_events [] = IsPermutation-refl []
same_events (e ∷ es) =
    IsPermutation-trans (e ∷ es) (e ∷ in_order es) (with_event e (in_order es)) (IsPermutation-cons e es (in_order es) (same_events es)) (moved e (in_order es))

-- ---- by ascending keys

less_from : (o : Ordering) → is_lt o ≡ true → o ≡ Less
less_from Less e = refl
less_from Equal e = cc
less_from Greater e = cc

less_or_back : (o back : Ordering) → o ≡ ordering_reverse back → is_lt back ≡ false → is_eq o ≡ false → o ≡ Less
less_or_back Less back e not_less apart = refl
less_or_back Equal back e not_less apart = absurd (cc)
less_or_back Greater Less e not_less apart = absurd (cc)
less_or_back Greater Equal e not_less apart = absurd (cc)
less_or_back Greater Greater e not_less apart = absurd (cc)

ascends_with : (e : Event) (xs : List Event) → All (IsApart e) xs → AllPairs IsEarlier xs → AllPairs IsEarlier (with_event e xs)
ascends_with e [] apart up = AllPairs-cons IsEarlier e [] (All-nil (IsEarlier e)) (pairs_none IsEarlier)
ascends_with e (x ∷ xs) apart up =
    by_test (is_lt (key_order x.key e.key)) refl (ascends_with e xs (All-tail (IsApart e) x xs apart) (pairs_tail IsEarlier x xs up))
  where
    by_test : (b : Bool) → is_lt (key_order x.key e.key) ≡ b → AllPairs IsEarlier (with_event e xs)
        → AllPairs IsEarlier (if b then x ∷ with_event e xs else e ∷ x ∷ xs)
    by_test true less rest =
        AllPairs-cons IsEarlier x (with_event e xs)
        (All-permutation (IsEarlier x) (e ∷ xs) (with_event e xs) (moved e xs)
        (All-cons (IsEarlier x) e xs (less_from (key_order x.key e.key) less) (pairs_head IsEarlier x xs up))) rest
    by_test false not_less rest =
        let first : IsEarlier e x = less_or_back (key_order e.key x.key) (key_order x.key e.key) (keys_total.antisymm e.key x.key) not_less (All-head (IsApart e) x xs apart) in
        AllPairs-cons IsEarlier e (x ∷ xs)
        (All-cons (IsEarlier e) x xs first
        (All-weaker (IsEarlier x) (IsEarlier e) (λ y later. keys_total.trans e.key x.key y.key first later) xs (pairs_head IsEarlier x xs up))) up

pub ascends : (events : List Event) → AllPairs IsApart events → AllPairs IsEarlier (in_order events)
ascends [] apart = pairs_none IsEarlier
ascends (e ∷ es) apart =
    ascends_with e (in_order es) (All-permutation (IsApart e) es (in_order es) (same_events es) (pairs_head IsApart e es apart)) (ascends es (pairs_tail IsApart e es apart))

-- ---- the one order

eq_back : (o : Ordering) → is_eq (ordering_reverse o) ≡ is_eq o
eq_back Less = refl
eq_back Equal = refl
eq_back Greater = refl

flips : (a b : Event) → is_tied a b ≡ is_tied b a
flips a b = ap is_eq (keys_total.antisymm a.key b.key) ∙ eq_back (key_order b.key a.key)

not_tied : (o : Ordering) → o ≡ Less → is_eq o ≡ false
not_tied Less e = refl
not_tied Equal e = absurd (cc)
not_tied Greater e = cc

-- events that can be in order have different keys
apart_events : (sorted events : List Event) → IsInOrderOf sorted events → AllPairs IsApart events
apart_events sorted events given =
    let differ : IsDistinct is_tied sorted = IsDistinct-from_apart is_tied sorted (λ i j d less short. not_tied _ (given.ascending i j d less short)) in
    let distinct : IsDistinct is_tied events = IsDistinct-IsPermutation is_tied flips sorted events (IsPermutation-sym events sorted given.same) differ in
    λ i j d less short. apart_from_distinct is_tied events i j d distinct less short

pub order_is : (sorted events : List Event) → IsInOrderOf sorted events → sorted ≡ in_order events
order_is sorted events given =
    let back = IsPermutation-sym events sorted given.same in
    let again = same_events events in
    one_order sorted (in_order events) given.ascending (ascends events (apart_events sorted events given))
    (λ e has. Contains-permutation events (in_order events) e again (Contains-permutation sorted events e back has))
    (λ e has. Contains-permutation events sorted e given.same (Contains-permutation (in_order events) events e (IsPermutation-sym events (in_order events) again) has))

tied_keys : (a b : Event) (o : Ordering) → key_order a.key b.key ≡ o → (a.key ≡ b.key → ⊥) → is_eq o ≡ false
tied_keys a b Less e differ = refl
tied_keys a b Equal e differ = absurd (differ (keys_exact a.key b.key e))
tied_keys a b Greater e differ = refl

pub have_order : (events : List Event) → AllPairs (λ a b. a.key ≢ b.key) events → IsInOrderOf (in_order events) events
have_order events differ = record {
  same = same_events events;
  ascending = ascends events (λ i j d less short. tied_keys (get_or events i d) (get_or events j d) _ refl (differ i j d less short));
}

-- what is written of a frame's events, as they are told
pub frame_written : (w again : WorldParts) (told events : List Event) (before after : List ℕ) → IsInOrderOf events (events_of_frame again) → again ≡ w → told ≡ events
    → after ≡ before ++ flat_map event_line told → after ≡ before ++ frame_lines w
frame_written w again told events before after sorted same is written =
    written
    ∙ ap (λ (xs : List Event). before ++ flat_map event_line xs)
    (is ∙ order_is events (events_of_frame again) sorted ∙ ap (λ (x : WorldParts). in_order (events_of_frame x)) same)
