-- The tick of a world's next frame has no two events of one key.
use Rattle.std.proofs.Common.{◌≡◌, ◌≢◌, ◌∙◌, ap, sym, refl, arith, inl, inr, eqb, ℕ, suc, ◌+◌, ◌≤◌, length, List, [], ◌∷◌, map, Bool, true, false, not, ◌||◌}
use Rattle.std.specs.Prelude.{All, AllPairs, IsSome, nat_lt}
use Rattle.std.specs.List.{flat_map, list_any, position_or_len}
use Rattle.std.proofs.lemmas.Bool.{and_parts, cases_Bool, eq-eqb, false≢true, lt-ltb, or_left, or_parts}
use Rattle.std.proofs.lemmas.Bool.Decides.{nat_tests}
use Rattle.std.proofs.lemmas.List.Elements.{All-cons, All-nil}
use Rattle.std.proofs.lemmas.List.Kept.{AllPairs-cons}
use Rattle.doc_tree.specs.Element.{Document, Element, is_in, position_of}
use Rattle.style_data.specs.Entries.{AreAscending, EntryParts}
use Rattle.style_data.specs.TransitionSets.{AreTransitions}
use Rattle.style_data.specs.declared.gone.Gone.{Gone}
use Rattle.ticker.proofs.Pairs.{pairs_none, pairs_of_map}
use Rattle.ticker.specs.Distinct.{AreDistinct, ItemsDiffer, all_gone}
use Rattle.ticker.specs.declared.event.Standing.{Standing}
use Rattle.restyle.specs.Distinct.{AreOrigins, IsWorld, all_origins, origin_of_gone}
use Rattle.restyle.specs.Worlds.{WorldParts}
use Rattle.restyle.proofs.EffectCounts.{all_counted, effect_count, gone_count}
use Rattle.restyle.proofs.Numbers.{are_apart, in_by_numbers, is_among, tree_apart}
use Rattle.restyle.proofs.OriginCounts.{count_of, differ_once, is_one, once_differ, total, total-append, total-flat_map, total-le, total-map}

-- ---- elements

abbrev numbers : List (ℕ × EntryParts) → List ℕ
numbers entries = map (λ (e : ℕ × EntryParts). e.0) entries

others : (n : ℕ) (entries : List (ℕ × EntryParts)) → is_among n (numbers entries) ≡ false → All (λ e. n ≢ e.0) entries
others n [] away = All-nil (λ (e : ℕ × EntryParts). n ≢ e.0)
others n (e ∷ entries) away =
    let parts = or_parts (eqb e.0 n) (is_among n (numbers entries)) away in
    All-cons (λ (e : ℕ × EntryParts). n ≢ e.0) e entries (λ (same : n ≡ e.0). false≢true (sym parts.0 ∙ eq-eqb e.0 n (sym same))) (others n entries parts.1)

entries_differ : (entries : List (ℕ × EntryParts)) → are_apart (numbers entries) ≡ true → AllPairs (λ d e. d.0 ≢ e.0) entries
entries_differ [] apart = pairs_none (λ (d e : ℕ × EntryParts). d.0 ≢ e.0)
entries_differ (e ∷ entries) apart =
    let parts = and_parts (not (is_among e.0 (numbers entries))) (are_apart (numbers entries)) apart in
    AllPairs-cons (λ (d e : ℕ × EntryParts). d.0 ≢ e.0) e entries (others e.0 entries (not_true (is_among e.0 (numbers entries)) parts.0)) (entries_differ entries parts.1)
  where
    not_true : (b : Bool) → not b ≡ true → b ≡ false
    not_true true h = absurd (false≢true h)
    not_true false h = refl

-- an element of the tree has a position
same_test : (m n : ℕ) → nat_lt m n ≡ nat_lt (1 + m) (suc n)
same_test m n = grind (arith, nat_tests)

first_within : {X : Type 0} (p : X → Bool) (xs : List X) → list_any p xs ≡ true → nat_lt (position_or_len p xs) (length xs) ≡ true
first_within p [] there = absurd (false≢true there)
first_within p (x ∷ xs) there = elim (cases_Bool (p x)) [
  | inl passes ↦ rw passes (lt-ltb 0 (length (x ∷ xs)) (omega arith))
  | inr other ↦ rw other (sym (same_test (position_or_len p xs) (length xs)) ∙ first_within p xs (rw other at there))
]

has_position : (n : ℕ) (d : Document) → is_in n d.elements ≡ true → IsSome (position_of n d)
has_position n d there = rw (first_within (λ (e : Element). eqb e.number n) d.elements there) refl

all_known : (d : Document) (entries : List (ℕ × EntryParts)) → ((n : ℕ) → is_among n (numbers entries) ≡ true → is_in n d.elements ≡ true)
    → All (λ e. IsSome (position_of e.0 d)) entries
all_known d [] there = All-nil (λ (e : ℕ × EntryParts). IsSome (position_of e.0 d))
all_known d (e ∷ entries) there =
    All-cons (λ (e : ℕ × EntryParts). IsSome (position_of e.0 d)) e entries
    (has_position e.0 d (there e.0 (or_left (eqb e.0 e.0) (is_among e.0 (numbers entries)) (eq-eqb e.0 e.0 refl))))
    (all_known d entries (λ n among. there n (rw among (or_true (eqb e.0 n)))))
  where
    or_true : (b : Bool) → (b || true) ≡ true
    or_true true = refl
    or_true false = refl

-- ---- cancelled items

items_count : (s : Standing) (entries : List (ℕ × EntryParts)) (departed : List (ℕ × Gone))
    → count_of s (map origin_of_gone (all_gone entries departed)) ≤ count_of s (all_origins entries departed)
items_count s entries departed =
    omega (
      arith,
      all_counted s entries departed,
      total-map (is_one s) origin_of_gone (all_gone entries departed),
      total-append (gone_count s) (flat_map (λ (e : ℕ × EntryParts). e.1.effects.gone) entries) (map (λ (d : ℕ × Gone). d.1) departed),
      total-flat_map (gone_count s) (λ (e : ℕ × EntryParts). e.1.effects.gone) entries,
      total-map (gone_count s) (λ (d : ℕ × Gone). d.1) departed,
      total-le (λ (e : ℕ × EntryParts). total (gone_count s) e.1.effects.gone) (λ e. effect_count s e.1.effects) entries (λ e. omega arith),
    )

items_differ : (frames : ℕ) (entries : List (ℕ × EntryParts)) (departed : List (ℕ × Gone)) → AreOrigins frames (all_origins entries departed)
    → AllPairs ItemsDiffer (all_gone entries departed)
items_differ frames entries departed are =
    pairs_of_map (λ (a b : Standing). a ≢ b) origin_of_gone (all_gone entries departed)
    (differ_once (map origin_of_gone (all_gone entries departed)) (λ s. omega (arith, items_count s entries departed, once_differ (all_origins entries departed) are.differ s)))

-- ---- a world

pub ticks_distinct : (w : WorldParts) → IsWorld w → All (λ e. AreTransitions e.1.effects.transitions) w.entries → All (λ e. AreAscending e.1.effects.animations) w.entries
    → AreDistinct w.document w.entries w.departed
ticks_distinct w world transitions animations = record {
  elements = entries_differ w.entries (ap are_apart world.order ∙ tree_apart w.document world.tree);
  known = all_known w.document w.entries (λ n among. in_by_numbers n w.document.elements ∙ ap (is_among n) (sym world.order) ∙ among);
  transitions = transitions;
  animations = animations;
  items = items_differ w.frames w.entries w.departed world.distinct;
}
