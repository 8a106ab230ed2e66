-- Entries by the numbers of elements.
use Rattle.std.proofs.Common.{◌≡◌, ℕ, refl, ap, sym, ◌∙◌, inl, inr, eqb, Bool, true, false, not, ◌||◌, Option, Some, None, List, [], ◌∷◌, ◌++◌, map}
use Rattle.std.specs.Prelude.{is_none, unwrap_or}
use Rattle.std.specs.List.{list_all}
use Rattle.std.proofs.lemmas.Bool.{and_parts, cases_Bool, eq-eqb, eqb-true, false≢true, ne_eqb, or_left, or_parts, or_right}
use Rattle.std.proofs.lemmas.List.{map-append}
use Rattle.doc_tree.specs.Element.{Document, Element, is_in, is_used, numbers_of}
use Rattle.doc_tree.specs.Shape.{IsGrown, IsTree}
use Rattle.fix_num.specs.declared.units.Micros.{Micros}
use Rattle.pass_core.specs.Passes.{value_for}
use Rattle.style_data.specs.Entries.{EntryParts, fresh_entry}
pub use Rattle.restyle.specs.Entries.{are_apart, is_among}
use Rattle.restyle.specs.StyleChanges.{entry_for}
use Rattle.restyle.specs.Worlds.{all_departed_of, all_gone_at, departed_of, entries_of}

-- the entries of these elements
abbrev pub entries_at : List ℕ → List (ℕ × EntryParts) → List (ℕ × EntryParts)
entries_at ns entries = map (λ n. (n, entry_for entries n)) ns

pub by_numbers : (es : List Element) (entries : List (ℕ × EntryParts)) → map (λ e. (e.number, entry_for entries e.number)) es ≡ entries_at (numbers_of es) entries
by_numbers [] entries = refl
by_numbers (e ∷ es) entries = ap (λ xs. (e.number, entry_for entries e.number) ∷ xs) (by_numbers es entries)

pub in_by_numbers : (n : ℕ) (es : List Element) → is_in n es ≡ is_among n (numbers_of es)
in_by_numbers n [] = refl
in_by_numbers n (e ∷ es) = ap (λ b. eqb e.number n || b) (in_by_numbers n es)

pub numbers_at : (ns : List ℕ) (entries : List (ℕ × EntryParts)) → map (λ x. x.0) (entries_at ns entries) ≡ ns
numbers_at [] entries = refl
numbers_at (n ∷ ns) entries = ap (λ ms. n ∷ ms) (numbers_at ns entries)

pub there : (n : ℕ) (ns : List ℕ) (entries : List (ℕ × EntryParts)) → is_among n ns ≡ true → value_for (entries_at ns entries) n ≡ Some (entry_for entries n)
there n [] entries among = absurd (false≢true among)
there n (m ∷ ns) entries among =
    elim (cases_Bool (eqb m n)) [
      | inl same ↦ rw same (ap (λ k. Some (entry_for entries k)) (eqb-true m n same))
      | inr other ↦ rw other (there n ns entries (rw other at among))
    ]

pub not_there : (n : ℕ) (ns : List ℕ) (entries : List (ℕ × EntryParts)) → is_among n ns ≡ false → value_for (entries_at ns entries) n ≡ None
not_there n [] entries among = refl
not_there n (m ∷ ns) entries among =
    let parts = or_parts (eqb m n) (is_among n ns) among in
    rw parts.0 (not_there n ns entries parts.1)

-- the entry of an element that is among these, or has none
abbrev pub is_known : List ℕ → List (ℕ × EntryParts) → ℕ → Bool
is_known ns entries n = is_among n ns || is_none (value_for entries n)

none_is : (o : Option EntryParts) → is_none o ≡ true → o ≡ None
none_is None is = refl
none_is (Some x) is = absurd (false≢true is)

pub same_entry : (n : ℕ) (ns : List ℕ) (entries : List (ℕ × EntryParts)) → is_known ns entries n ≡ true → entry_for (entries_at ns entries) n ≡ entry_for entries n
same_entry n ns entries known =
    elim (cases_Bool (is_among n ns)) [
      | inl among ↦ ap (λ o. unwrap_or o fresh_entry) (there n ns entries among)
      | inr other ↦
          let none : value_for entries n ≡ None = none_is (value_for entries n) (rw other at known) in
          ap (λ o. unwrap_or o fresh_entry) (not_there n ns entries other ∙ sym none)
    ]

pub entries_again : (ms ns : List ℕ) (entries : List (ℕ × EntryParts)) → list_all (is_known ns entries) ms ≡ true → entries_at ms (entries_at ns entries) ≡ entries_at ms entries
entries_again [] ns entries known = refl
entries_again (m ∷ ms) ns entries known =
    let parts = and_parts (is_known ns entries m) (list_all (is_known ns entries) ms) known in
    ap (λ e. (m, e) ∷ entries_at ms (entries_at ns entries)) (same_entry m ns entries parts.0) ∙ ap (λ xs. (m, entry_for entries m) ∷ xs) (entries_again ms ns entries parts.1)

pub departed_again : (t : Micros) (ms ns : List ℕ) (entries : List (ℕ × EntryParts)) → list_all (is_known ns entries) ms ≡ true
    → all_departed_of (entries_at ns entries) t ms ≡ all_departed_of entries t ms
departed_again t [] ns entries known = refl
departed_again t (m ∷ ms) ns entries known =
    let parts = and_parts (is_known ns entries m) (list_all (is_known ns entries) ms) known in
    ap (λ (e : EntryParts). map (λ g. (m, g)) (all_gone_at t e.effects) ++ all_departed_of (entries_at ns entries) t ms) (same_entry m ns entries parts.0)
    ∙ ap (λ xs. departed_of entries t m ++ xs) (departed_again t ms ns entries parts.1)

-- ---- entries that stand in the order of the numbers

other_way : (m n : ℕ) → eqb m n ≡ false → eqb n m ≡ false
other_way m n differ = ne_eqb n m (λ (same : n ≡ m). false≢true (sym differ ∙ eq-eqb m n (sym same)))

skip : (x : ℕ × EntryParts) (entries : List (ℕ × EntryParts)) (ns : List ℕ) → is_among x.0 ns ≡ false → entries_at ns (x ∷ entries) ≡ entries_at ns entries
skip x entries [] away = refl
skip x entries (n ∷ ns) away =
    let parts = or_parts (eqb n x.0) (is_among x.0 ns) away in
    rw (other_way n x.0 parts.0) (ap (λ xs. (n, entry_for entries n) ∷ xs) (skip x entries ns parts.1))

pub not_true : {b : Bool} → not b ≡ true → b ≡ false
not_true {b = true} h = absurd (false≢true h)
not_true {b = false} h = refl

pub already : (entries : List (ℕ × EntryParts)) → are_apart (map (λ x. x.0) entries) ≡ true → entries_at (map (λ x. x.0) entries) entries ≡ entries
already [] apart = refl
already (x ∷ entries) apart =
    let parts = and_parts (not (is_among x.0 (map (λ y. y.0) entries))) (are_apart (map (λ y. y.0) entries)) apart in
    rw (eq-eqb x.0 x.0 refl, skip x entries (map (λ y. y.0) entries) (not_true parts.0), already entries parts.1) refl

among_last : (m n : ℕ) (xs ys : List ℕ) → is_among m (xs ++ n ∷ ys) ≡ false → eqb n m ≡ false
among_last m n [] ys away = (or_parts (eqb n m) (is_among m ys) away).0
among_last m n (x ∷ xs) ys away = among_last m n xs ys (or_parts (eqb x m) (is_among m (xs ++ n ∷ ys)) away).1

-- a number isn't among those before it
pub apart_front : (xs : List ℕ) (n : ℕ) (ys : List ℕ) → are_apart (xs ++ n ∷ ys) ≡ true → is_among n xs ≡ false
apart_front [] n ys apart = refl
apart_front (x ∷ xs) n ys apart =
    let parts = and_parts (not (is_among x (xs ++ n ∷ ys))) (are_apart (xs ++ n ∷ ys)) apart in
    rw (other_way n x (among_last x n xs ys (not_true parts.0)), apart_front xs n ys parts.1) refl

-- ---- the numbers of a tree

grown_away : (n : ℕ) (earlier es : List Element) → IsGrown earlier es → is_in n earlier ≡ true → is_among n (numbers_of es) ≡ false
grown_away n earlier [] grown before = refl
grown_away n earlier (e ∷ es) grown before =
    let differ : eqb e.number n ≡ false = ne_eqb e.number n (λ (same : e.number ≡ n). false≢true (sym grown.0.differs ∙ ap (λ m. is_in m earlier) same ∙ before)) in
    rw differ (grown_away n (e ∷ earlier) es grown.1 (or_right (eqb e.number n) (is_in n earlier) before))

grown_apart : (earlier es : List Element) → IsGrown earlier es → are_apart (numbers_of es) ≡ true
grown_apart earlier [] grown = refl
grown_apart earlier (e ∷ es) grown =
    let away = grown_away e.number (e ∷ earlier) es grown.1 (or_left (eqb e.number e.number) (is_in e.number earlier) (eq-eqb e.number e.number refl)) in
    rw away (grown_apart (e ∷ earlier) es grown.1)

pub tree_apart : (d : Document) → IsTree d → are_apart (numbers_of d.elements) ≡ true
tree_apart d tree = grown_apart [] d.elements tree.order

pub away_before : (d : Document) (before after : List Element) (e : Element) → IsTree d → d.elements ≡ before ++ e ∷ after → is_in e.number before ≡ false
away_before d before after e tree is =
    in_by_numbers e.number before
    ∙ apart_front (numbers_of before) e.number (numbers_of after)
    (ap are_apart (sym (ap numbers_of is ∙ map-append (λ (x : Element). x.number) before (e ∷ after))) ∙ tree_apart d tree)

-- entries in the tree order of a document are those of its elements
pub in_order_already : (d : Document) (entries : List (ℕ × EntryParts)) → IsTree d → map (λ x. x.0) entries ≡ numbers_of d.elements → entries_of d entries ≡ entries
in_order_already d entries tree order =
    by_numbers d.elements entries ∙ ap (λ ns. entries_at ns entries) (sym order) ∙ already entries (ap are_apart order ∙ tree_apart d tree)

pub order_of_entries : (d : Document) (entries : List (ℕ × EntryParts)) → map (λ x. x.0) (entries_of d entries) ≡ numbers_of d.elements
order_of_entries d entries = ap (λ (xs : List (ℕ × EntryParts)). map (λ x. x.0) xs) (by_numbers d.elements entries) ∙ numbers_at (numbers_of d.elements) entries

-- ---- numbers that were used

pub unused_absent : (n : ℕ) (d : Document) (entries : List (ℕ × EntryParts)) → list_all (λ x. is_used x.0 d) entries ≡ true → is_used n d ≡ false → value_for entries n ≡ None
unused_absent n d [] used unused = refl
unused_absent n d (x ∷ entries) used unused =
    let parts = and_parts (is_used x.0 d) (list_all (λ y. is_used y.0 d) entries) used in
    let differ : eqb x.0 n ≡ false = ne_eqb x.0 n (λ (same : x.0 ≡ n). false≢true (sym unused ∙ ap (λ m. is_used m d) (sym same) ∙ parts.0)) in
    rw differ (unused_absent n d entries parts.1 unused)

pub all_known : (ns : List ℕ) (ms : List ℕ) (entries : List (ℕ × EntryParts)) → list_all (λ m. is_among m ns) ms ≡ true → list_all (is_known ns entries) ms ≡ true
all_known ns [] entries among = refl
all_known ns (m ∷ ms) entries among =
    let parts = and_parts (is_among m ns) (list_all (λ k. is_among k ns) ms) among in
    rw (parts.0, all_known ns ms entries parts.1) refl

among_more : (ns : List ℕ) (k : ℕ) (ms : List ℕ) → list_all (λ m. is_among m ns) ms ≡ true → list_all (λ m. is_among m (k ∷ ns)) ms ≡ true
among_more ns k [] among = refl
among_more ns k (m ∷ ms) among =
    let parts = and_parts (is_among m ns) (list_all (λ j. is_among j ns) ms) among in
    rw (or_right (eqb k m) (is_among m ns) parts.0, among_more ns k ms parts.1) refl

pub among_themselves : (ns : List ℕ) → list_all (λ m. is_among m ns) ns ≡ true
among_themselves [] = refl
among_themselves (n ∷ ns) = rw (eq-eqb n n refl, among_more ns n ns (among_themselves ns)) refl
