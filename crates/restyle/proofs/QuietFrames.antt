-- A frame where nothing has changed since the one before.
use Rattle.std.proofs.Common.{◌≡◌, ℕ, ◌+◌, refl, ap, sym, ◌∙◌, subst, inl, inr, eqb, true, false, List, [], ◌∷◌, map, Option, Some, None}
use Rattle.std.specs.Prelude.{All, is_some, option_map, unwrap_or}
use Rattle.std.proofs.lemmas.Bool.{cases_Bool, false≢true, or_parts}
use Rattle.std.proofs.lemmas.List.Elements.{All-cons, All-nil, All-tail}
use Rattle.doc_tree.specs.Element.{Document, Element, chain, inclusive_ancestors, is_in, reversed_onto}
use Rattle.doc_tree.specs.Shape.{IsTree}
use Rattle.element_step.specs.Works.{DocumentEvent}
use Rattle.fix_num.specs.declared.units.Fix.{Fix}
use Rattle.fix_num.specs.declared.units.Micros.{Micros}
use Rattle.pass_core.specs.Passes.{value_for}
use Rattle.style_data.specs.Entries.{EntryParts, fresh_entry}
use Rattle.restyle.specs.Distinct.{AreInTreeOrder}
use Rattle.restyle.specs.Rest.{AreAtRest, IsStill, quiet_frame}
use Rattle.restyle.specs.StyleChanges.{FrameParts, ancestors_of, entry_after_event, entry_for, frame_after, frame_event, root_size_of, styles_along}
use Rattle.restyle.proofs.AncestorChains.{IsChain, chain_of}
use Rattle.restyle.proofs.Outcomes.{value_for-map, value_there}
use Rattle.restyle.proofs.ProperPlans.{TreeLaws}
use Rattle.restyle.proofs.QuietEvents.{IsLeftStill, stands_alike, still_first, stays_first}
use Rattle.restyle.proofs.QuietUpdates.{StaysSame, StillLaws, quiet_event}
use Rattle.restyle.proofs.StillEntries.{left_after}

-- ---- entries of a document

some_is : {X Y : Type 0} (y z : Y) (o : Option X) → is_some o ≡ true → unwrap_or (option_map (λ _. y) o) z ≡ y
some_is y z None is = absurd (false≢true is)
some_is y z (Some x) is = refl

none_is : {X Y : Type 0} (y z : Y) (o : Option X) → is_some o ≡ false → unwrap_or (option_map (λ _. y) o) z ≡ z
none_is y z None is = refl
none_is y z (Some x) is = absurd (false≢true (sym is))

-- of the entries after an event, those of the elements, and no others
pub entry_there : (make : ℕ → EntryParts) (d : Document) (entries : List (ℕ × EntryParts)) (n : ℕ) → AreInTreeOrder d entries → is_in n d.elements ≡ true
    → entry_for (map (λ x. (x.0, make x.0)) entries) n ≡ make n
entry_there make d entries n order within =
    ap (λ o. unwrap_or o fresh_entry) (value_for-map make entries n)
    ∙ some_is (make n) fresh_entry (value_for entries n) (value_there entries d.elements order n ∙ within)

pub entry_nowhere : (make : ℕ → EntryParts) (d : Document) (entries : List (ℕ × EntryParts)) (n : ℕ) → AreInTreeOrder d entries → is_in n d.elements ≡ false
    → entry_for (map (λ x. (x.0, make x.0)) entries) n ≡ fresh_entry
entry_nowhere make d entries n order without =
    ap (λ o. unwrap_or o fresh_entry) (value_for-map make entries n)
    ∙ none_is (make n) fresh_entry (value_for entries n) (value_there entries d.elements order n ∙ without)

order_after : (make : ℕ → EntryParts) (entries : List (ℕ × EntryParts)) → map (λ (x : ℕ × EntryParts). x.0) (map (λ (x : ℕ × EntryParts). (x.0, make x.0)) entries) ≡ map (λ x. x.0) entries
order_after make [] = refl
order_after make (x ∷ entries) = ap (λ ns. x.0 ∷ ns) (order_after make entries)

-- what isn't an element has no ancestors
chain-none : (n : ℕ) (es earlier : List Element) → is_in n es ≡ false → chain (reversed_onto es earlier) n ≡ chain earlier n
unfolding chain
chain-none n [] earlier none = refl
chain-none n (e ∷ es) earlier none =
    let parts = or_parts (eqb e.number n) (is_in n es) none in
    chain-none n es (e ∷ earlier) parts.1 ∙ rw parts.0 refl

pub ancestors-none : (n : ℕ) (d : Document) → is_in n d.elements ≡ false → inclusive_ancestors d.elements n ≡ []
unfolding chain
ancestors-none n d none = chain-none n d.elements [] none

pub same_stays : (e : EntryParts) → StaysSame e e
same_stays e = record { styles = record { styled = refl; rendered = refl; declared = refl; style = refl }; effects = refl }

-- ---- an event after w

-- what an event leaves of each element whose entry satisfies `IsAtRest`
module _ (trees : TreeLaws) (laws : StillLaws) (w : DocumentEvent) (t : Micros) (generation : ℕ) (root : Option Fix) (opening entries : List (ℕ × EntryParts)) (IsAtRest : ℕ → Type 0)
    (tree : IsTree w.document) (order : AreInTreeOrder w.document entries)
    (left : (n : ℕ) → is_in n w.document.elements ≡ true → IsAtRest n
    → IsLeftStill w n (entry_for opening n) (styles_along w opening (ancestors_of w.document n)) t.0 (entry_for entries n)) where
  abbrev next : DocumentEvent
  next = quiet_event w t generation root

  abbrev after : List (ℕ × EntryParts)
  after = map (λ x. (x.0, entry_after_event next entries x.0)) entries

  abbrev AllAtRest : ℕ → Type 0
  AllAtRest n = All (λ a. IsAtRest a.number) (inclusive_ancestors w.document.elements n)

  pub stays_there : (n : ℕ) → is_in n w.document.elements ≡ true → AllAtRest n → StaysSame (entry_for entries n) (entry_for after n)
  stays_there n within rest =
      let c = chain_of w.document tree trees n within in
      subst (λ e. StaysSame (entry_for entries n) e) (sym (entry_there (entry_after_event next entries) w.document entries n order within))
      (subst (λ m. StaysSame (entry_for entries m) (entry_after_event next entries m)) c.number
      (stays_first laws w w.document t generation root opening entries IsAtRest (λ m _ _. stands_alike w m) left c.item (ancestors_of w.document n) c.chain (subst (λ (xs : List Element). All (λ a. IsAtRest a.number) xs) c.is rest)))

  rest_along : (chain : List Element) → IsChain w.document chain → All (λ a. IsAtRest a.number) chain → All (λ a. IsStill (entry_for after a.number)) chain
  rest_along [] chain rest = All-nil (λ (a : Element). IsStill (entry_for after a.number))
  rest_along (a ∷ above) chain rest =
      All-cons (λ (x : Element). IsStill (entry_for after x.number)) a above
      (subst (λ e. IsStill e) (sym (entry_there (entry_after_event next entries) w.document entries a.number order chain.0))
      (still_first laws w w.document t generation root opening entries IsAtRest (λ m _ _. stands_alike w m) left a above chain rest))
      (rest_along above chain.2 (All-tail (λ (x : Element). IsAtRest x.number) a above rest))

  pub rest_after : (n : ℕ) → AllAtRest n → AreAtRest w.document after n
  rest_after n rest =
      elim (cases_Bool (is_in n w.document.elements)) [
        | inl within ↦
            let c = chain_of w.document tree trees n within in
            subst (λ (xs : List Element). All (λ a. IsStill (entry_for after a.number)) xs) (sym c.is)
            (rest_along (c.item ∷ ancestors_of w.document n) c.chain (subst (λ (xs : List Element). All (λ a. IsAtRest a.number) xs) c.is rest))
        | inr without ↦ subst (λ (xs : List Element). All (λ a. IsStill (entry_for after a.number)) xs) (sym (ancestors-none n w.document without)) (All-nil (λ (a : Element). IsStill (entry_for after a.number)))
      ]

-- ---- a frame after this one

module _ (trees : TreeLaws) (laws : StillLaws) (f : FrameParts) (t : Micros) (tree : IsTree f.document) (order : AreInTreeOrder f.document f.entries) where
  abbrev w : DocumentEvent
  w = frame_event f

  abbrev closing : List (ℕ × EntryParts)
  closing = map (λ x. (x.0, entry_after_event w f.entries x.0)) f.entries

  pub closing_order : AreInTreeOrder f.document closing
  closing_order = order_after (entry_after_event w f.entries) f.entries ∙ order

  -- what the frame leaves of an element that is still
  pub frame_left : (n : ℕ) → is_in n f.document.elements ≡ true → IsStill (entry_for closing n)
      → IsLeftStill w n (entry_for f.entries n) (styles_along w f.entries (ancestors_of f.document n)) t.0 (entry_for closing n)
  frame_left n within still =
      let is = entry_there (entry_after_event w f.entries) f.document f.entries n order within in
      subst (λ e. IsLeftStill w n (entry_for f.entries n) (styles_along w f.entries (ancestors_of f.document n)) t.0 e) (sym is)
      (left_after laws w n (entry_for f.entries n) (styles_along w f.entries (ancestors_of f.document n)) t.0 (subst (λ e. IsStill e) is still))

  abbrev later : List (ℕ × EntryParts)
  later = map (λ x. (x.0, entry_after_event (quiet_event w t (f.generation + 1) (root_size_of closing)) closing x.0)) closing

  frame_there : (n : ℕ) → is_in n f.document.elements ≡ true → AreAtRest f.document closing n → StaysSame (entry_for closing n) (entry_for later n)
  frame_there n within rest =
      stays_there trees laws w t (f.generation + 1) (root_size_of closing) f.entries closing (λ m. IsStill (entry_for closing m)) tree closing_order frame_left n within rest

  frame_stays : (n : ℕ) → AreAtRest f.document closing n → StaysSame (entry_for closing n) (entry_for later n)
  frame_stays n rest =
      elim (cases_Bool (is_in n f.document.elements)) [
        | inl within ↦ frame_there n within rest
        | inr without ↦
            subst (λ e. StaysSame e (entry_for later n)) (sym (entry_nowhere (entry_after_event w f.entries) f.document f.entries n order without))
            (subst (λ e. StaysSame fresh_entry e)
            (sym (entry_nowhere (entry_after_event (quiet_event w t (f.generation + 1) (root_size_of closing)) closing) f.document closing n closing_order without))
            (same_stays fresh_entry))
      ]

  pub next_stays : (n : ℕ) → AreAtRest f.document (frame_after f).entries n → StaysSame (entry_for (frame_after f).entries n) (entry_for (frame_after (quiet_frame f t)).entries n)
  unfolding frame_after
  next_stays = frame_stays

  pub next_rests : (n : ℕ) → AreAtRest f.document (frame_after f).entries n → AreAtRest f.document (frame_after (quiet_frame f t)).entries n
  unfolding frame_after
  next_rests =
      rest_after trees laws w t (f.generation + 1) (root_size_of closing) f.entries closing (λ m. IsStill (entry_for closing m)) tree closing_order frame_left
