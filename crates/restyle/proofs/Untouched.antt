-- Elements that are untouched after an edit: they were so before it, with the same inclusive ancestors and the same entry.
use Rattle.std.proofs.Common.{◌≡◌, ℕ, refl, ap, sym, ◌∙◌, subst, inl, inr, eqb, Bool, true, false, not, ◌||◌, Option, Some, None, List, [], ◌∷◌, ◌++◌, filter, map}
use Rattle.std.specs.Prelude.{if◌then◌else◌, nat_eq, unwrap_or}
use Rattle.std.specs.List.{list_all, list_any}
use Rattle.std.specs.Option.{option_map_or}
use Rattle.std.proofs.lemmas.Bool.{and_parts, cases_Bool, eqb-true, false≢true, ne_eqb, or_left, or_parts, or_right}
use Rattle.std.proofs.lemmas.List.Folds.{list_any-append}
use Rattle.doc_tree.specs.Change.{IsAdded, IsInserted, new_element, with_change, without}
use Rattle.doc_tree.specs.Element.{Document, Element, chain, inclusive_ancestors, is_in, is_inclusive_descendant, numbers_of, reversed_onto}
use Rattle.indexmap.specs.IndexSet.{insert_key}
use Rattle.style_data.specs.Entries.{EntryParts, fresh_entry}
use Rattle.restyle.specs.Quiet.{IsLeftByFrame, is_untouched}
use Rattle.restyle.specs.StyleChanges.{entry_for}
use Rattle.restyle.specs.Worlds.{WorldParts, entries_of, with_document}
use Rattle.restyle.proofs.Numbers.{by_numbers, in_by_numbers, not_true, there}

-- ---- touched numbers

-- what isn't among the numbers with one more is another, and wasn't among them
neither : (touched : List ℕ) (m a : ℕ) → list_any (nat_eq a) (insert_key nat_eq touched m) ≡ false → (list_any (nat_eq a) touched ≡ false) × (eqb a m ≡ false)
neither touched m a away =
    elim (cases_Bool (list_any (nat_eq m) touched)) [
      | inl among ↦
          let before : list_any (nat_eq a) touched ≡ false = rw among at away in
          (before, ne_eqb a m (λ (same : a ≡ m). false≢true (sym before ∙ ap (λ k. list_any (nat_eq k) touched) same ∙ among)))
      | inr new ↦
          let more : list_any (nat_eq a) (touched ++ m ∷ []) ≡ false = rw new at away in
          let parts = or_parts (list_any (nat_eq a) touched) (list_any (nat_eq a) (m ∷ [])) (sym (list_any-append (nat_eq a) touched (m ∷ [])) ∙ more) in
          (parts.0, (or_parts (eqb a m) false parts.1).0)
    ]

-- none of these elements was touched
abbrev are_clear : List ℕ → List Element → Bool
are_clear touched es = list_all (λ e. not (list_any (nat_eq e.number) touched)) es

fewer_touched : (touched : List ℕ) (m : ℕ) (es : List Element) → are_clear (insert_key nat_eq touched m) es ≡ true → (are_clear touched es ≡ true) × (is_in m es ≡ false)
fewer_touched touched m [] clear = (refl, refl)
fewer_touched touched m (e ∷ es) clear =
    let parts = and_parts (not (list_any (nat_eq e.number) (insert_key nat_eq touched m))) (are_clear (insert_key nat_eq touched m) es) clear in
    let first = neither touched m e.number (not_true parts.0) in
    let others = fewer_touched touched m es parts.1 in
    (rw (first.0, others.0) refl, rw (first.1, others.1) refl)

-- ---- elements that were untouched

-- element n of the new document was in the old one, untouched, with the same inclusive ancestors
pub record WasUntouched (touched : List ℕ) (old new : Document) (n : ℕ) : Type 0 where
  pub within : is_in n old.elements ≡ true
  pub untouched : is_untouched touched old n ≡ true
  pub ancestors : inclusive_ancestors new.elements n ≡ inclusive_ancestors old.elements n

-- so of each that is untouched, where these are touched now
abbrev pub WereUntouched : List ℕ → List ℕ → Document → Document → Type 0
WereUntouched touched now old new = (n : ℕ) → is_in n new.elements ≡ true → is_untouched now new n ≡ true → WasUntouched touched old new n

was_untouched : (touched : List ℕ) (m : ℕ) (old new : Document) (n : ℕ) → is_in n old.elements ≡ true → inclusive_ancestors new.elements n ≡ inclusive_ancestors old.elements n
    → is_untouched (insert_key nat_eq touched m) new n ≡ true → WasUntouched touched old new n
was_untouched touched m old new n within same clear = record {
  within = within;
  untouched = ap (are_clear touched) (sym same) ∙ (fewer_touched touched m (inclusive_ancestors new.elements n) clear).0;
  ancestors = same;
}

-- ---- chains

chain_self : (es : List Element) (n : ℕ) → is_in n es ≡ true → is_in n (chain es n) ≡ true
unfolding chain
chain_self [] n within = absurd (false≢true within)
chain_self (e ∷ es) n within =
    elim (cases_Bool (eqb e.number n)) [
      | inl same ↦ rw (same, same) refl
      | inr other ↦ rw other (chain_self es n (rw other at within))
    ]

move : (a b c : Bool) → ((a || b) || c) ≡ true → (b || (a || c)) ≡ true
move true b c h = or_right b true refl
move false b c h = h

reversed_in : (n : ℕ) (es earlier : List Element) → (is_in n es || is_in n earlier) ≡ true → is_in n (reversed_onto es earlier) ≡ true
reversed_in n [] earlier within = within
reversed_in n (e ∷ es) earlier within = reversed_in n es (e ∷ earlier) (move (eqb e.number n) (is_in n es) (is_in n earlier) within)

-- an element is among its inclusive ancestors
pub own_ancestor : (es : List Element) (n : ℕ) → is_in n es ≡ true → is_in n (inclusive_ancestors es n) ≡ true
own_ancestor es n within = chain_self (reversed_onto es []) n (reversed_in n es [] (or_left (is_in n es) false within))

-- ---- one element more

-- an edit leaves the inclusive ancestors of the elements that were there
abbrev KeepsAncestors : Document → Document → Type 0
KeepsAncestors old new = (n : ℕ) → is_in n old.elements ≡ true → inclusive_ancestors new.elements n ≡ inclusive_ancestors old.elements n

old_or_new : (before after : List Element) (e : Element) (n : ℕ) → is_in n (before ++ e ∷ after) ≡ true → eqb e.number n ≡ false → is_in n (before ++ after) ≡ true
old_or_new [] after e n within other = rw other at within
old_or_new (b ∷ before) after e n within other =
    elim (cases_Bool (eqb b.number n)) [
      | inl same ↦ or_left (eqb b.number n) (is_in n (before ++ after)) same
      | inr differ ↦ or_right (eqb b.number n) (is_in n (before ++ after)) (old_or_new before after e n (rw differ at within) other)
    ]

one_more : (touched : List ℕ) (old new : Document) (before after : List Element) (e : Element) → old.elements ≡ before ++ after → new.elements ≡ before ++ e ∷ after
    → KeepsAncestors old new → WereUntouched touched (insert_key nat_eq touched e.number) old new
one_more touched old new before after e was is keeps n within clear =
    elim (cases_Bool (eqb e.number n)) [
      | inl same ↦
          let own : is_in n (inclusive_ancestors new.elements n) ≡ true = own_ancestor new.elements n within in
          let met : is_in n (inclusive_ancestors new.elements n) ≡ false =
          subst (λ m. is_in m (inclusive_ancestors new.elements n) ≡ false) (eqb-true e.number n same) (fewer_touched touched e.number (inclusive_ancestors new.elements n) clear).1 in
          absurd (false≢true (sym met ∙ own))
      | inr other ↦
          let there : is_in n old.elements ≡ true = ap (is_in n) was ∙ old_or_new before after e n (sym (ap (is_in n) is) ∙ within) other in
          was_untouched touched e.number old new n there (keeps n there) clear
    ]

pub untouched_added : (touched : List ℕ) (old new : Document) (child : Element) → IsAdded old new child → KeepsAncestors old new
    → WereUntouched touched (insert_key nat_eq touched child.number) old new
untouched_added touched old new child is keeps = one_more touched old new is.before is.after child is.was is.is keeps

pub untouched_inserted : (touched : List ℕ) (old new : Document) (n sibling : ℕ) (tag : List ℕ) → IsInserted old new n sibling tag → KeepsAncestors old new
    → WereUntouched touched (insert_key nat_eq touched n) old new
untouched_inserted touched old new n sibling tag is keeps = one_more touched old new is.before (is.next ∷ is.after) (new_element n is.next.parent tag) is.was is.is keeps

-- ---- one element changed

module _ (m : ℕ) (change : Element → Element) (numbers : (e : Element) → (change e).number ≡ e.number) (parents : (e : Element) → (change e).parent ≡ e.parent) where
  abbrev changed_at : Element → Element
  changed_at e = if eqb e.number m then change e else e

  number_kept : (e : Element) → (changed_at e).number ≡ e.number
  number_kept e = by (eqb e.number m)
    where
      by : (b : Bool) → (if b then change e else e).number ≡ e.number
      by true = numbers e
      by false = refl

  parent_kept : (e : Element) → (changed_at e).parent ≡ e.parent
  parent_kept e = by (eqb e.number m)
    where
      by : (b : Bool) → (if b then change e else e).parent ≡ e.parent
      by true = parents e
      by false = refl

  chain_changed : (es : List Element) (n : ℕ) → chain (map changed_at es) n ≡ map changed_at (chain es n)
  unfolding chain
  chain_changed [] n = refl
  chain_changed (e ∷ es) n =
      ap (λ k. if eqb k n then changed_at e ∷ option_map_or (chain (map changed_at es)) (changed_at e).parent [] else chain (map changed_at es) n) (number_kept e)
      ∙ ap (λ o. if eqb e.number n then changed_at e ∷ option_map_or (chain (map changed_at es)) o [] else chain (map changed_at es) n) (parent_kept e)
      ∙ by (λ k. chain_changed es k) (eqb e.number n)
    where
      above : ((k : ℕ) → chain (map changed_at es) k ≡ map changed_at (chain es k)) → (o : Option ℕ)
          → option_map_or (chain (map changed_at es)) o [] ≡ map changed_at (option_map_or (chain es) o [])
      above same None = refl
      above same (Some p) = same p

      by : ((k : ℕ) → chain (map changed_at es) k ≡ map changed_at (chain es k)) → (b : Bool)
          → (if b then changed_at e ∷ option_map_or (chain (map changed_at es)) e.parent [] else chain (map changed_at es) n)
          ≡ map changed_at (if b then e ∷ option_map_or (chain es) e.parent [] else chain es n)
      by same true = ap (λ xs. changed_at e ∷ xs) (above same e.parent)
      by same false = same n

  reversed_changed : (es earlier : List Element) → reversed_onto (map changed_at es) (map changed_at earlier) ≡ map changed_at (reversed_onto es earlier)
  reversed_changed [] earlier = refl
  reversed_changed (e ∷ es) earlier = reversed_changed es (e ∷ earlier)

  ancestors_changed : (es : List Element) (n : ℕ) → inclusive_ancestors (map changed_at es) n ≡ map changed_at (inclusive_ancestors es n)
  ancestors_changed es n = ap (λ xs. chain xs n) (reversed_changed es []) ∙ chain_changed (reversed_onto es []) n

  -- where none of them is the changed one, they are the same
  none_changed : (es : List Element) → is_in m (map changed_at es) ≡ false → map changed_at es ≡ es
  none_changed [] away = refl
  none_changed (e ∷ es) away =
      let parts = or_parts (eqb (changed_at e).number m) (is_in m (map changed_at es)) away in
      let other : eqb e.number m ≡ false = ap (λ k. eqb k m) (sym (number_kept e)) ∙ parts.0 in
      ap (λ b. (if b then change e else e) ∷ map changed_at es) other ∙ ap (λ xs. e ∷ xs) (none_changed es parts.1)

  still_in : (es : List Element) (n : ℕ) → is_in n (map changed_at es) ≡ is_in n es
  still_in [] n = refl
  still_in (e ∷ es) n = ap (λ k. eqb k n || is_in n (map changed_at es)) (number_kept e) ∙ ap (λ b. eqb e.number n || b) (still_in es n)

  pub untouched_changed : (touched : List ℕ) (d : Document) → WereUntouched touched (insert_key nat_eq touched m) d (with_change d m change)
  untouched_changed touched d n within clear =
      let mapped = ancestors_changed d.elements n in
      let away : is_in m (map changed_at (inclusive_ancestors d.elements n)) ≡ false =
      ap (is_in m) (sym mapped) ∙ (fewer_touched touched m (inclusive_ancestors (with_change d m change).elements n) clear).1 in
      was_untouched touched m d (with_change d m change) n (sym (still_in d.elements n) ∙ within)
      (mapped ∙ none_changed (inclusive_ancestors d.elements n) away) clear

-- ---- fewer elements

in_filtered : (n : ℕ) (p : Element → Bool) (es : List Element) → is_in n (filter p es) ≡ true → is_in n es ≡ true
in_filtered n p [] within = within
in_filtered n p (e ∷ es) within =
    elim (cases_Bool (eqb e.number n)) [
      | inl same ↦ or_left (eqb e.number n) (is_in n es) same
      | inr other ↦ or_right (eqb e.number n) (is_in n es) (in_filtered n p es (elim (cases_Bool (p e)) [ inl stays ↦ rw (stays, other) at within | inr goes ↦ rw goes at within ]))
    ]

pub untouched_without : (touched : List ℕ) (d : Document) (m : ℕ)
    → ((n : ℕ) → is_in n (without d m).elements ≡ true → inclusive_ancestors (without d m).elements n ≡ inclusive_ancestors d.elements n)
    → WereUntouched touched touched d (without d m)
untouched_without touched d m keeps n within clear = record {
  within = in_filtered n (λ e. not (is_inclusive_descendant d.elements m e.number)) d.elements within;
  untouched = ap (are_clear touched) (sym (keeps n within)) ∙ clear;
  ancestors = keeps n within;
}

-- ---- worlds

entry_kept : (d : Document) (entries : List (ℕ × EntryParts)) (n : ℕ) → is_in n d.elements ≡ true → entry_for (entries_of d entries) n ≡ entry_for entries n
entry_kept d entries n within =
    ap (λ (es : List (ℕ × EntryParts)). entry_for es n) (by_numbers d.elements entries)
    ∙ ap (λ o. unwrap_or o fresh_entry) (there n (numbers_of d.elements) entries (sym (in_by_numbers n d.elements) ∙ within))

-- a frame leaves a world with another document too, where each that is untouched now was so before
pub left_with_document : (touched now : List ℕ) (w : WorldParts) (d : Document) → WereUntouched touched now w.document d → IsLeftByFrame touched w → IsLeftByFrame now (with_document w d)
left_with_document touched now w d were left = record {
  last = left.last;
  tree = left.tree;
  order = left.order;
  old = left.old;
  sheets = left.sheets;
  ancestors = λ n within clear. let was = were n within clear in was.ancestors ∙ left.ancestors n was.within was.untouched;
  entries = λ n within clear. let was = were n within clear in entry_kept d w.entries n within ∙ left.entries n was.within was.untouched;
}

-- a frame leaves it also where only what departed, or the time, is another
pub left_alike : (touched : List ℕ) (w w' : WorldParts) → w'.document ≡ w.document → w'.last_sheets ≡ w.last_sheets → w'.sheets ≡ w.sheets → w'.entries ≡ w.entries
    → IsLeftByFrame touched w → IsLeftByFrame touched w'
left_alike touched w w' document last_sheets sheets entries left = record {
  last = left.last;
  tree = left.tree;
  order = left.order;
  old = last_sheets ∙ left.old;
  sheets = sheets ∙ left.sheets;
  ancestors = subst (λ (d : Document). (n : ℕ) → is_in n d.elements ≡ true → is_untouched touched d n ≡ true → inclusive_ancestors d.elements n ≡ inclusive_ancestors left.last.document.elements n)
      (sym document) left.ancestors;
  entries = λ n within clear. ap (λ (es : List (ℕ × EntryParts)). entry_for es n) entries
      ∙ left.entries n (ap (λ (d : Document). is_in n d.elements) (sym document) ∙ within) (ap (λ (d : Document). is_untouched touched d n) (sym document) ∙ clear);
}
