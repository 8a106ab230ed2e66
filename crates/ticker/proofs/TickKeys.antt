-- The events of a tick have different keys.
use Rattle.std.proofs.Common.{◌≡◌, ◌∙◌, ℕ, ◌%◌, refl, sym, ap, arith, get_or, rules}
use Rattle.std.specs.Prelude.{◌≢◌, ℤ, All, AllPairs, IsSome, List, [], ◌++◌, map, nat_eq, Option, None, Some, true, unwrap_or}
use Rattle.std.specs.List.{flat_map}
use Rattle.std.proofs.lemmas.List.Elements.{All-append, All-map}
use Rattle.std.proofs.lemmas.List.Quantifiers.{position-Some}
use Rattle.doc_tree.specs.Element.{Document, Element, position_of}
use Rattle.style_data.specs.Entries.{EntryParts}
use Rattle.style_data.specs.declared.event.Event.{Event}
use Rattle.style_data.specs.declared.event.Key.{Key}
use Rattle.style_data.specs.declared.gone.Gone.{Gone}
use Rattle.ticker.proofs.Differ.{AllApart, OfOwner, cancel_differs, cancels_apart, effects_differ, owned, owner_apart, ownerless}
use Rattle.ticker.proofs.Pairs.{all_flat_map, all_of_flat, all_of_map, pairs_across, pairs_append, pairs_between, pairs_both, pairs_flat_map, pairs_flat_map_each, pairs_inside, pairs_left, pairs_of_map, pairs_right}
use Rattle.ticker.specs.Distinct.{AreDistinct, ItemsDiffer, KeysDiffer}
use Rattle.ticker.specs.Ticks.{animation_events, cancel_events, entry_events, position_in_tree, tick_events, transition_events}

-- ---- positions

same_number : (a m n : ℕ) → nat_eq a m ≡ true → nat_eq a n ≡ true → m ≡ n
same_number a m n em en = grind (arith, rules)

nobody : Element
nobody = record { number = 0; parent = None; tag = []; id = None; classes = []; style = [] }

same_element : (tree : Document) (m n i : ℕ) → position_of m tree ≡ Some i → position_of n tree ≡ Some i → m ≡ n
same_element tree m n i at there =
    same_number (get_or tree.elements i nobody).number m n (position-Some (λ e. nat_eq e.number m) tree.elements i nobody at).1
    (position-Some (λ e. nat_eq e.number n) tree.elements i nobody there).1

positions_differ : (tree : Document) (m n : ℕ) → IsSome (position_of m tree) → IsSome (position_of n tree) → m ≢ n → position_in_tree tree m ≢ position_in_tree tree n
positions_differ tree m n one two differ = go (position_of m tree) (position_of n tree) (same_element tree m n) one two where
  go : (a b : Option ℕ) → ((i : ℕ) → a ≡ Some i → b ≡ Some i → m ≡ n) → IsSome a → IsSome b → unwrap_or a 0 ≢ unwrap_or b 0
  go None b same sa sb = absurd (cc)
  go (Some i) None same sa sb = absurd (cc)
  go (Some i) (Some j) same sa sb = λ e. differ (same j (ap Some e) refl)

-- ---- owned and cancelled

abbrev owned_events : Document → ℤ → ℕ × EntryParts → List Event
owned_events tree t e =
    flat_map (transition_events e.0 (position_in_tree tree e.0) t) e.1.effects.transitions.running ++ flat_map (animation_events e.0 (position_in_tree tree e.0) t) e.1.effects.animations

abbrev gone_events : ℕ × EntryParts → List Event
gone_events e = flat_map (cancel_events e.0) e.1.effects.gone

apart_append : (xs ys zs : List Event) → AllApart xs ys → AllApart xs zs → AllApart xs (ys ++ zs)
apart_append xs ys zs one two = λ i d l. All-append (KeysDiffer (get_or xs i d)) ys zs (one i d l) (two i d l)

append_apart : (xs ys zs : List Event) → AllApart xs zs → AllApart ys zs → AllApart (xs ++ ys) zs
append_apart xs ys zs one two = All-append (λ a. All (KeysDiffer a) zs) xs ys one two

abbrev AtPosition : ℕ → List Event → Type 0
AtPosition at es = All (λ e. e.key.first ≡ at) es

position_apart : (m n : ℕ) (xs ys : List Event) → m ≢ n → AtPosition m xs → AtPosition n ys → AllApart xs ys
position_apart m n xs ys differ there here = λ i d l j e k same. differ (sym (there i d l) ∙ ap (λ (key : Key). key.first) same ∙ here j e k)

owned_there : (tree : Document) (t : ℤ) (e : ℕ × EntryParts) → AtPosition (position_in_tree tree e.0) (owned_events tree t e)
owned_there tree t e =
    let at = position_in_tree tree e.0 in
    All-append (λ x. x.key.first ≡ at) (flat_map (transition_events e.0 at t) e.1.effects.transitions.running) (flat_map (animation_events e.0 at t) e.1.effects.animations)
    (all_flat_map (λ x. x.key.first ≡ at) (transition_events e.0 at t) e.1.effects.transitions.running (λ i d l. All-map (λ x. x.key.first ≡ at) _ _ (λ j y k. refl)))
    (all_flat_map (λ x. x.key.first ≡ at) (animation_events e.0 at t) e.1.effects.animations (λ i d l. All-map (λ x. x.key.first ≡ at) _ _ (λ j y k. refl)))

gone_ownerless : (e : ℕ × EntryParts) → OfOwner 1 (gone_events e)
gone_ownerless e = all_flat_map (λ x. x.key.class % 2 ≡ 1) (cancel_events e.0) e.1.effects.gone (λ i d l. ownerless e.0 _)

abbrev AllDiffer : List Gone → List Gone → Type 0
AllDiffer gs hs = All (λ g. All (ItemsDiffer g) hs) gs

-- cancelled items of two elements
gone_apart : (m n : ℕ) (gs hs : List Gone) → AllDiffer gs hs → AllApart (flat_map (cancel_events m) gs) (flat_map (cancel_events n) hs)
gone_apart m n gs hs differ =
    all_flat_map (λ a. All (KeysDiffer a) (flat_map (cancel_events n) hs)) (cancel_events m) gs
    (λ i d l p x q. all_flat_map (KeysDiffer (get_or (cancel_events m (get_or gs i d)) p x)) (cancel_events n) hs
    (λ j e k. cancels_apart m n (get_or gs i d) (get_or hs j e) (differ i d l j e k) p x q))

-- ---- entries

abbrev Apart : Document → ℕ × EntryParts → ℕ × EntryParts → Type 0
Apart tree d e = (position_in_tree tree d.0 ≢ position_in_tree tree e.0) × AllDiffer d.1.effects.gone e.1.effects.gone

entries_apart : (tree : Document) (t : ℤ) (d e : ℕ × EntryParts) → Apart tree d e → AllApart (entry_events tree t d) (entry_events tree t e)
entries_apart tree t d e (position, items) =
    append_apart (owned_events tree t d) (gone_events d) (entry_events tree t e)
    (apart_append (owned_events tree t d) (owned_events tree t e) (gone_events e)
    (position_apart (position_in_tree tree d.0) (position_in_tree tree e.0) (owned_events tree t d) (owned_events tree t e) position (owned_there tree t d) (owned_there tree t e))
    (owner_apart 0 1 (owned_events tree t d) (gone_events e) (λ same. omega (arith, same)) (owned d.0 (position_in_tree tree d.0) t d.1.effects) (gone_ownerless e)))
    (apart_append (gone_events d) (owned_events tree t e) (gone_events e)
    (owner_apart 1 0 (gone_events d) (owned_events tree t e) (λ same. omega (arith, same)) (gone_ownerless d) (owned e.0 (position_in_tree tree e.0) t e.1.effects))
    (gone_apart d.0 e.0 d.1.effects.gone e.1.effects.gone items))

abbrev departed_events : List (ℕ × Gone) → List Event
departed_events departed = flat_map (λ d. cancel_events d.0 d.1) departed

departed_apart : (m : ℕ) (gs : List Gone) (departed : List (ℕ × Gone)) → AllDiffer gs (map (λ d. d.1) departed) → AllApart (flat_map (cancel_events m) gs) (departed_events departed)
departed_apart m gs departed differ =
    all_flat_map (λ a. All (KeysDiffer a) (departed_events departed)) (cancel_events m) gs
    (λ i d l p x q. all_flat_map (KeysDiffer (get_or (cancel_events m (get_or gs i d)) p x)) (λ d. cancel_events d.0 d.1) departed
    (λ j e k. cancels_apart m (get_or departed j e).0 (get_or gs i d) (get_or departed j e).1
    (all_of_map (ItemsDiffer (get_or gs i d)) (λ d. d.1) departed (differ i d l) j e k) p x q))

pub ticks_differ : (tree : Document) (t : ℤ) (entries : List (ℕ × EntryParts)) (departed : List (ℕ × Gone)) → AreDistinct tree entries departed
    → AllPairs KeysDiffer (tick_events tree t entries departed)
ticks_differ tree t entries departed are =
    let gone : ℕ × EntryParts → List Gone = λ e. e.1.effects.gone in
    let items = pairs_left ItemsDiffer (flat_map gone entries) (map (λ d. d.1) departed) are.items in
    let inside = pairs_inside ItemsDiffer gone entries items in
    let between = pairs_between ItemsDiffer gone entries items in
    let across = all_of_flat (λ g. All (ItemsDiffer g) (map (λ d. d.1) departed)) gone entries (pairs_across ItemsDiffer (flat_map gone entries) (map (λ d. d.1) departed) are.items) in
    pairs_append KeysDiffer (flat_map (entry_events tree t) entries) (departed_events departed)
    (pairs_flat_map_each (Apart tree) KeysDiffer (entry_events tree t) (entries_apart tree t) entries
    (λ i d l. effects_differ _ _ t _ (are.transitions i d l) (are.animations i d l) (inside i d l))
    (pairs_both (λ d e. position_in_tree tree d.0 ≢ position_in_tree tree e.0) (λ d e. AllDiffer (gone d) (gone e)) entries
    (λ i j d less short. positions_differ tree _ _ (are.known i d (omega (arith, less, short))) (are.known j d short) (are.elements i j d less short)) between))
    (pairs_flat_map (λ d e. ItemsDiffer d.1 e.1) KeysDiffer (λ d. cancel_events d.0 d.1) (λ d. cancel_differs d.0 d.1) (λ d e apart. cancels_apart d.0 e.0 d.1 e.1 apart) departed
    (pairs_of_map ItemsDiffer (λ d. d.1) departed (pairs_right ItemsDiffer (flat_map gone entries) (map (λ d. d.1) departed) are.items)))
    (all_flat_map (λ a. All (KeysDiffer a) (departed_events departed)) (entry_events tree t) entries
    (λ i d l. let e = get_or entries i d in
    append_apart (owned_events tree t e) (gone_events e) (departed_events departed)
    (owner_apart 0 1 (owned_events tree t e) (departed_events departed) (λ same. omega (arith, same)) (owned e.0 (position_in_tree tree e.0) t e.1.effects)
    (all_flat_map (λ x. x.key.class % 2 ≡ 1) (λ d. cancel_events d.0 d.1) departed (λ j x k. ownerless _ _)))
    (departed_apart e.0 e.1.effects.gone departed (across i d l))))
