-- The origins of a world's entries after a frame.
use Rattle.std.proofs.Common.{◌≡◌, ◌≢◌, ◌∙◌, ap, sym, refl, arith, subst, inl, inr, eqb, ℕ, ◌+◌, ◌≤◌, length, length-append, List, [], ◌∷◌, ◌++◌, append_assoc, map, Bool, true, false, not}
use Rattle.std.specs.Prelude.{ℤ, option_map, unwrap_or}
use Rattle.std.proofs.lemmas.Bool.{and_parts, cases_eq, eq-eqb, false≢true, ne_eqb, or_from, or_parts}
use Rattle.std.proofs.lemmas.List.{map-append}
use Rattle.std.proofs.lemmas.List.Folds.{list_any-append}
use Rattle.doc_tree.specs.Element.{Document, Element, is_in, numbers_of, position_of}
use Rattle.doc_tree.specs.Shape.{IsTree}
use Rattle.element_step.specs.Works.{DocumentEvent}
use Rattle.style_data.specs.Entries.{EntryParts}
use Rattle.style_data.specs.declared.gone.Gone.{Gone}
use Rattle.ticker.specs.Events.{standing}
use Rattle.ticker.specs.Ticks.{ticked_entry}
use Rattle.ticker.specs.declared.event.Standing.{Standing}
use Rattle.restyle.specs.Distinct.{AreInTreeOrder, IsDistinct, IsWorld, all_origins}
use Rattle.restyle.specs.StyleChanges.{ancestors_of, entry_after_event, entry_for, frame_after, frame_event, inherited_above, styles_along}
use Rattle.restyle.specs.Worlds.{WorldParts, frame_of, ticked_world, world_after_frame}
use Rattle.restyle.proofs.EffectCounts.{all_counted, effect_count, entry_count, gone_count}
use Rattle.restyle.proofs.EventOrigins.{entry_count_at, new_at}
use Rattle.restyle.proofs.Numbers.{are_apart, in_by_numbers, in_order_already, is_among, tree_apart}
use Rattle.restyle.proofs.OriginCounts.{CountUp, is_of, more_origins, none_of_other, of_itself, one_at_most, one_cases, total, total-map, total-nil, total-one, total-within}
use Rattle.restyle.proofs.ProperPlans.{position-split}
use Rattle.restyle.proofs.TickOrigins.{ticked_entries_count}

-- ---- positions

-- the position that what starts at an element notes
abbrev pub place_of : Document → ℕ → ℕ
place_of d n = unwrap_or (position_of n d) 0

pub apart_before : (ns : List ℕ) (n : ℕ) (ms : List ℕ) → are_apart (ns ++ n ∷ ms) ≡ true → is_among n ns ≡ false
apart_before [] n ms apart = refl
apart_before (k ∷ ns) n ms apart =
    let parts = and_parts (not (is_among k (ns ++ n ∷ ms))) (are_apart (ns ++ n ∷ ms)) apart in
    let there = or_parts (is_among k ns) (is_among k (n ∷ ms)) (sym (list_any-append (λ m. eqb m k) ns (n ∷ ms)) ∙ not_true (is_among k (ns ++ n ∷ ms)) parts.0) in
    let differ : eqb n k ≡ false = (or_parts (eqb n k) (is_among k ms) there.1).0 in
    or_from (eqb k n) (is_among n ns) (ne_eqb k n (λ (same : k ≡ n). false≢true (sym differ ∙ eq-eqb n k (sym same)))) (apart_before ns n ms parts.1)
  where
    not_true : (b : Bool) → not b ≡ true → b ≡ false
    not_true true h = absurd (false≢true h)
    not_true false h = refl

-- the positions of the elements count up from 0
places_from : (d : Document) (front es : List Element) → IsTree d → d.elements ≡ front ++ es → CountUp (λ (e : Element). place_of d e.number) (length front) es
places_from d front [] tree is = tt
places_from d front (e ∷ es) tree is = (here, later (places_from d (front ++ e ∷ []) es tree (is ∙ sym (append_assoc front (e ∷ []) es))))
  where
    apart : are_apart (numbers_of front ++ e.number ∷ numbers_of es) ≡ true
    apart = ap are_apart (sym (ap numbers_of is ∙ map-append (λ (x : Element). x.number) front (e ∷ es))) ∙ tree_apart d tree

    none : is_in e.number front ≡ false
    none = in_by_numbers e.number front ∙ apart_before (numbers_of front) e.number (numbers_of es) apart

    here : place_of d e.number ≡ length front
    here =
        ap (λ (xs : List Element). place_of (record d { elements = xs }) e.number) is
        ∙ ap (λ o. unwrap_or o 0) (position-split (λ (x : Element). eqb x.number e.number) front e es none (eq-eqb e.number e.number refl))

    later : CountUp (λ (x : Element). place_of d x.number) (length (front ++ e ∷ [])) es → CountUp (λ (x : Element). place_of d x.number) (length front + 1) es
    later up = subst (λ k. CountUp (λ (x : Element). place_of d x.number) k es) (length-append front (e ∷ [])) up

places_count_up : (d : Document) → IsTree d → CountUp (λ (e : Element). place_of d e.number) 0 d.elements
places_count_up d tree = places_from d [] d.elements tree refl

-- ---- what one event starts

-- at one position it starts one at most of the origin, and at others none
at_one_place : (s : Standing) (g k : ℕ) → new_at s g k ≤ is_of g s
at_one_place s g k = elim (cases_eq s.first g) [
  | inl same ↦ elim (one_cases s (standing 1 g k s.third)) [
    | inl transition ↦ omega (
      arith,
      of_itself g s same,
      one_at_most s (standing 1 g k s.third),
      none_of_other s (standing 3 g k s.third) (λ (animation : s ≡ standing 3 g k s.third). omega (arith, ap (λ (o : Standing). o.class) transition, ap (λ (o : Standing). o.class) animation)),
    )
    | inr none ↦ omega (arith, of_itself g s same, none, one_at_most s (standing 3 g k s.third))
  ]
  | inr differ ↦ omega (
    arith,
    none_of_other s (standing 1 g k s.third) (λ (transition : s ≡ standing 1 g k s.third). differ (ap (λ (o : Standing). o.first) transition)),
    none_of_other s (standing 3 g k s.third) (λ (animation : s ≡ standing 3 g k s.third). differ (ap (λ (o : Standing). o.first) animation)),
  )
]

elsewhere : (s : Standing) (g k : ℕ) → k ≢ s.second → new_at s g k ≡ 0
elsewhere s g k differ =
    omega (
      arith,
      none_of_other s (standing 1 g k s.third) (λ (transition : s ≡ standing 1 g k s.third). differ (sym (ap (λ (o : Standing). o.second) transition))),
      none_of_other s (standing 3 g k s.third) (λ (animation : s ≡ standing 3 g k s.third). differ (sym (ap (λ (o : Standing). o.second) animation))),
    )

all_places : (s : Standing) (g : ℕ) (d : Document) → IsTree d → total (λ (e : Element). new_at s g (place_of d e.number)) d.elements ≤ is_of g s
all_places s g d tree =
    total-one (λ (e : Element). place_of d e.number) (λ e. new_at s g (place_of d e.number)) s.second (is_of g s) 0 d.elements (places_count_up d tree)
    (λ e differ. elsewhere s g (place_of d e.number) differ) (λ e. at_one_place s g (place_of d e.number))

-- ---- entries and elements

-- what numbers give, over entries in tree order and over the elements
pub over_elements : (f : ℕ → ℕ) (d : Document) (entries : List (ℕ × EntryParts)) → AreInTreeOrder d entries
    → total (λ (x : ℕ × EntryParts). f x.0) entries ≡ total (λ (e : Element). f e.number) d.elements
over_elements f d entries order =
    sym (total-map f (λ (x : ℕ × EntryParts). x.0) entries) ∙ ap (total f) order ∙ total-map f (λ (e : Element). e.number) d.elements

-- each entry is that of its element
pub own_entries : (s : Standing) (d : Document) (entries : List (ℕ × EntryParts)) → IsTree d → AreInTreeOrder d entries
    → entry_count s entries ≡ total (λ (e : Element). effect_count s (entry_for entries e.number).effects) d.elements
own_entries s d entries tree order =
    ap (entry_count s) (sym (in_order_already d entries tree order))
    ∙ total-map (λ (x : ℕ × EntryParts). effect_count s x.1.effects) (λ (e : Element). (e.number, entry_for entries e.number)) d.elements

event_entries_count : (s : Standing) (w : DocumentEvent) (entries : List (ℕ × EntryParts)) → IsTree w.document → AreInTreeOrder w.document entries
    → entry_count s (map (λ x. (x.0, entry_after_event w entries x.0)) entries) ≤ entry_count s entries + is_of w.generation s
event_entries_count s w entries tree order =
    omega (
      arith,
      total-map (λ (x : ℕ × EntryParts). effect_count s x.1.effects) (λ (x : ℕ × EntryParts). (x.0, entry_after_event w entries x.0)) entries,
      total-within (λ (x : ℕ × EntryParts). effect_count s (entry_after_event w entries x.0).effects)
          (λ x. effect_count s (entry_for entries x.0).effects) (λ x. new_at s w.generation (place_of w.document x.0)) entries
          (λ x. entry_count_at s w x.0 (entry_for entries x.0) (option_map inherited_above (styles_along w entries (ancestors_of w.document x.0)))),
      over_elements (λ n. effect_count s (entry_for entries n).effects) w.document entries order,
      own_entries s w.document entries tree order,
      over_elements (λ n. new_at s w.generation (place_of w.document n)) w.document entries order,
      all_places s w.generation w.document tree,
    )

-- ---- a frame

pub ticked_numbers : (t : ℤ) (entries : List (ℕ × EntryParts)) → map (λ (e : ℕ × EntryParts). e.0) (map (ticked_entry t) entries) ≡ map (λ (e : ℕ × EntryParts). e.0) entries
ticked_numbers t [] = refl
ticked_numbers t (e ∷ entries) = ap (λ ns. e.0 ∷ ns) (ticked_numbers t entries)

pub frame_distinct : (w : WorldParts) → IsWorld w → IsDistinct (world_after_frame w)
unfolding world_after_frame frame_after
frame_distinct w world =
    let ticked : List (ℕ × EntryParts) = map (ticked_entry w.time.0) w.entries in
    let event : DocumentEvent = frame_event (frame_of (ticked_world w)) in
    let after : List (ℕ × EntryParts) = map (λ x. (x.0, entry_after_event event ticked x.0)) ticked in
    more_origins w.frames (all_origins w.entries w.departed) (all_origins after [])
    (λ s. omega (
      arith,
      all_counted s w.entries w.departed,
      all_counted s after [],
      total-nil (λ (d : ℕ × Gone). gone_count s d.1),
      ticked_entries_count s w.time.0 w.entries,
      event_entries_count s event ticked world.tree (ticked_numbers w.time.0 w.entries ∙ world.order),
    ))
    world.distinct
