-- The outcome of a pass over the whole document is its style change event, also where it passes over untouched elements at rest.
use Rattle.std.proofs.Common.{◌≡◌, ℕ, refl, ap, sym, ◌∙◌, subst, Bool, true, false, ◌&&◌, List, [], ◌∷◌, ◌++◌, length, map, Option, Some, None}
use Rattle.std.specs.Prelude.{nat_eq, not, option_map, slice_get, unwrap_or, if◌then◌else◌}
use Rattle.std.specs.List.{list_all, list_any}
use Rattle.std.specs.Option.{option_and_then, option_map_or}
use Rattle.std.proofs.lemmas.Bool.{and_parts}
use Rattle.std.proofs.lemmas.List.Elements.{All-cons, All-nil}
use Rattle.computed_style.specs.declared.inherited.Down.{Down}
use Rattle.doc_tree.specs.Element.{Document, Element, inclusive_ancestors, numbers_of, position_of}
use Rattle.doc_tree.specs.Shape.{IsTree}
use Rattle.change_styles.specs.Inheritance.{handed_down}
use Rattle.computed_style.specs.declared.inherited.InheritedValues.{InheritedValues}
use Rattle.element_step.specs.Updates.{now_parent}
use Rattle.element_step.specs.Quiet.{declared_in, down_of_one, handed_at_rest, is_at_rest, moving_step, outcome_where, quiet_down, quiet_meaning, quiet_outcome}
use Rattle.element_step.specs.Works.{DocumentEvent, element_declarations, entry_at, from_parent, handed_by, outcome_with, top_down, update_at}
use Rattle.element_step.specs.declared.quiet.QuietDown.{QuietDown}
use Rattle.pass_core.specs.Passes.{IsPassOutcome, IsResult, are_distinct, at_top, below, value_for}
use Rattle.pass_core.specs.Work.{down_of, entry_after}
use Rattle.pass_core.specs.declared.plan.Place.{Place}
use Rattle.pass_core.specs.declared.step.Step.{Step}
use Rattle.pass_core.specs.declared.step.Step.TheVariants.{Kept, Updated}
use Rattle.style_data.specs.Entries.{EntryParts, fresh_entry}
use Rattle.restyle.specs.Quiet.{is_untouched}
use Rattle.restyle.specs.StyleChanges.{ancestors_of, entry_after_event, entry_for, inherited_above, styles_along, update_under}
use Rattle.restyle.specs.TreePlans.{element_place, places_of}
use Rattle.restyle.proofs.AncestorChains.{IsChain, chain_begins, chain_of, parent_found, there}
use Rattle.restyle.proofs.ElementsAtRest.{AreResting, IsUntouchedAtRest, LeavesAtRest}
use Rattle.restyle.proofs.Outcomes.{whole_event}
use Rattle.restyle.proofs.ProperPlans.{TreeLaws, parent_before, place_there}
use Rattle.restyle.proofs.StylesAlong.{below_is, down_plainly, entry_plainly, now_plainly, parent_is, plain, plainly}

module _ (w : DocumentEvent) (tree : IsTree w.document) (laws : TreeLaws) (entries : List (ℕ × EntryParts)) (quiet : Bool) (touched : List ℕ)
    (leaves : quiet ≡ true → LeavesAtRest touched w entries) where
  abbrev d : Document
  d = w.document

  abbrev is_left_alone : ℕ → Bool
  is_left_alone n = not (list_any (nat_eq n) touched)

  -- none of the elements was touched, and the event is quiet
  abbrev untouched : List Element → Bool
  untouched [] = quiet
  untouched (a ∷ above) = untouched above && is_left_alone a.number

  -- the elements are all at rest too
  abbrev rests : List Element → Bool
  rests [] = quiet
  rests (a ∷ above) = untouched (a ∷ above) && rests above && is_at_rest (entry_for entries a.number)

  all_alone : (chain : List Element) → untouched chain ≡ true → (quiet ≡ true) × (list_all (λ a. is_left_alone a.number) chain ≡ true)
  all_alone [] alone = (alone, refl)
  all_alone (a ∷ above) alone =
      let parts = and_parts (untouched above) (is_left_alone a.number) alone in
      let others = all_alone above parts.0 in
      (others.0, ap (λ b. b && list_all (λ (x : Element). is_left_alone x.number) above) parts.1 ∙ others.1)

  -- so no inclusive ancestor of the first was
  in_document : (a : Element) (above : List Element) → IsChain d (a ∷ above) → untouched (a ∷ above) ≡ true → is_untouched touched d a.number ≡ true
  in_document a above chain alone =
      let c = chain_of d tree laws a.number chain.0 in
      ap (list_all (λ (x : Element). is_left_alone x.number)) (c.is ∙ ap (λ xs. c.item ∷ xs) chain.1)
      ∙ ap (λ n. is_left_alone n && list_all (λ (x : Element). is_left_alone x.number) above) c.number ∙ (all_alone (a ∷ above) alone).1

  in_quiet : (chain : List Element) → IsChain d chain → rests chain ≡ true → (quiet ≡ true) × AreResting touched d entries chain
  in_quiet [] chain rest = (rest, All-nil (λ (x : Element). IsUntouchedAtRest touched d entries x.number))
  in_quiet (a ∷ above) chain rest =
      let parts = and_parts (untouched (a ∷ above) && rests above) (is_at_rest (entry_for entries a.number)) rest in
      let both = and_parts (untouched (a ∷ above)) (rests above) parts.0 in
      let others = in_quiet above chain.2 both.1 in
      (others.0, All-cons (λ (x : Element). IsUntouchedAtRest touched d entries x.number) a above (in_document a above chain both.0, parts.1) others.1)

  -- what the elements hand down, as whole styles tell
  abbrev handed_along : List Element → Option Down
  handed_along chain = option_map inherited_above (styles_along w entries chain)

  -- what is handed down is right of this chain
  record IsHandedBy (chain : List Element) (down : QuietDown) : Type 0 where
    pub rest : down.rests ≡ rests chain
    pub alone : down.untouched ≡ untouched chain
    pub plain_is : plainly down.parent ≡ handed_along chain

  -- and so is the outcome of its first element
  record IsOutcomeOf (a : Element) (s : Step EntryParts QuietDown) : Type 0 where
    pub handed : IsHandedBy (a ∷ ancestors_of d a.number) (down_of s)
    pub entry_is : entry_after s (entry_for entries a.number) ≡ entry_after_event w entries a.number

  -- ---- one element

  module _ (before after : List Element) (e : Element) (is : d.elements ≡ before ++ e ∷ after) where
    abbrev above : List Element
    above = ancestors_of d e.number

    abbrev own : EntryParts
    own = entry_for entries e.number

    chain_is : IsChain d (e ∷ above)
    chain_is =
        let c = chain_of d tree laws e.number (there d tree laws before after e is) in
        let first : c.item ∷ above ≡ e ∷ above = sym c.is ∙ chain_begins d tree laws before after e is in
        subst (IsChain d) first c.chain

    module _ (down : QuietDown) (handed : IsHandedBy above down) where
      kept_at_rest : rests (e ∷ above) ≡ true → IsOutcomeOf e (Kept (quiet_down (Some (handed_at_rest own down.parent)) true true))
      kept_at_rest rest =
          let here = in_quiet (e ∷ above) chain_is rest in
          record {
            handed = record {
              rest = sym rest;
              alone = sym (and_parts (untouched (e ∷ above)) (rests above) (and_parts (untouched (e ∷ above) && rests above) (is_at_rest own) rest).0).0;
              plain_is =
                  ap (λ (o : Option InheritedValues). Some (down_of_one own.rendered (handed_down o own.now))) (now_plainly down.parent ∙ ap now_parent handed.plain_is)
                  ∙ sym ((leaves here.0).handed e above chain_is here.1);
            };
            entry_is = sym ((leaves here.0).entry e above chain_is here.1);
          }

      -- what it hands down otherwise, where it is untouched or isn't
      abbrev moving : Bool → Option Down → QuietDown
      moving u parent = quiet_down (Some (handed_by w e.number own parent)) false u

      moved_otherwise : rests (e ∷ above) ≡ false → IsOutcomeOf e (Updated (entry_at w e.number own down.parent) (moving (untouched (e ∷ above)) down.parent))
      moved_otherwise other =
          let styles = styles_along w entries above in
          record {
            handed = record {
              rest = sym other;
              alone = refl;
              plain_is =
                  ap (λ x. Some (plain x)) (down_plainly w e.number own down.parent) ∙ ap (λ p. Some (plain (handed_by w e.number own p))) handed.plain_is
                  ∙ ap Some (below_is styles (update_under w entries e.number styles) (parent_is w e.number own (option_map inherited_above styles)));
            };
            entry_is = entry_plainly w e.number own down.parent ∙ ap (entry_at w e.number own) handed.plain_is;
          }

      declared_is : (u : Bool) → untouched (e ∷ above) ≡ u → declared_in u w e.number own ≡ element_declarations w e.number
      declared_is true alone =
          (leaves (all_alone (e ∷ above) alone).0).declared e.number (there d tree laws before after e is) (in_document e above chain_is alone)
      declared_is false alone = refl

      moved_is : from_parent w e.number (unwrap_or down.parent top_down) ≡ down.parent
          → moving_step (untouched (e ∷ above)) (outcome_with w e.number own (declared_in (untouched (e ∷ above)) w e.number own) (unwrap_or down.parent top_down))
          ≡ Updated (entry_at w e.number own down.parent) (moving (untouched (e ∷ above)) down.parent)
      unfolding outcome_with update_at
      moved_is from =
          let over = unwrap_or down.parent top_down in
          let u = untouched (e ∷ above) in
          ap (λ d. moving_step u (outcome_with w e.number own d over)) (declared_is u refl)
          ∙ ap (λ b. moving_step u (if b then Updated (entry_at w e.number own (from_parent w e.number over)) (handed_by w e.number own (from_parent w e.number over)) else Kept over))
          (there d tree laws before after e is)
          ∙ ap (λ p. Updated (entry_at w e.number own p) (moving u p)) from

      outcome_by : (b : Bool) → rests (e ∷ above) ≡ b → from_parent w e.number (unwrap_or down.parent top_down) ≡ down.parent
          → IsOutcomeOf e (if b then Kept (quiet_down (Some (handed_at_rest own down.parent)) true true)
          else moving_step (untouched (e ∷ above)) (outcome_with w e.number own (declared_in (untouched (e ∷ above)) w e.number own) (unwrap_or down.parent top_down)))
      outcome_by true rest from = kept_at_rest rest
      outcome_by false other from = subst (IsOutcomeOf e) (sym (moved_is from)) (moved_otherwise other)

      outcome_here : from_parent w e.number (unwrap_or down.parent top_down) ≡ down.parent → IsOutcomeOf e (outcome_where (untouched (e ∷ above)) w e.number own down)
      unfolding outcome_where
      outcome_here from =
          subst (λ b. IsOutcomeOf e (if untouched (e ∷ above) && b && is_at_rest own then Kept (quiet_down (Some (handed_at_rest own down.parent)) true true)
          else moving_step (untouched (e ∷ above)) (outcome_with w e.number own (declared_in (untouched (e ∷ above)) w e.number own) (unwrap_or down.parent top_down))))
          (sym handed.rest) (outcome_by (rests (e ∷ above)) refl from)

      outcome_is : (x : EntryParts) → value_for entries e.number ≡ Some x → from_parent w e.number (unwrap_or down.parent top_down) ≡ down.parent
          → IsOutcomeOf e (quiet_outcome touched w e.number x down)
      outcome_is x value from =
          let own_is : own ≡ x = ap (λ o. unwrap_or o fresh_entry) value in
          subst (λ v. IsOutcomeOf e (quiet_outcome touched w e.number v down)) own_is
          (subst (λ b. IsOutcomeOf e (outcome_where (b && is_left_alone e.number) w e.number own down)) (sym handed.alone) (outcome_here from))

  -- ---- each place

  abbrev IsOutcomeAt : Place → Step EntryParts QuietDown → Type 0
  IsOutcomeAt p s = (before after : List Element) (e : Element) → d.elements ≡ before ++ e ∷ after → p ≡ element_place d e → IsOutcomeOf e s

  -- what its parent hands down is there where it has one
  from_above : (before after : List Element) (e : Element) → d.elements ≡ before ++ e ∷ after → (down : QuietDown) → (o : Option ℕ) → e.parent ≡ o
      → down.parent ≡ option_map (λ _. unwrap_or down.parent top_down) o → from_parent w e.number (unwrap_or down.parent top_down) ≡ down.parent
  from_above before after e is down o parent there_is =
      ap (option_map (λ _. unwrap_or down.parent top_down)) (parent_found d tree laws before after e is ∙ parent) ∙ sym there_is

  top_is : (p : Place) (x : EntryParts) → p.parent ≡ None → value_for entries p.element ≡ Some x → IsOutcomeAt p (quiet_outcome touched w p.element x (quiet_down None quiet quiet))
  top_is p x none value before after e is place =
      let value_e = ap (λ (q : Place). value_for entries q.element) (sym place) ∙ value in
      subst (λ (q : Place). IsOutcomeOf e (quiet_outcome touched w q.element x (quiet_down None quiet quiet))) (sym place)
      (at e.parent refl (sym (ap (λ (q : Place). q.parent) place) ∙ none) value_e)
    where
      at : (o : Option ℕ) → e.parent ≡ o → (element_place d e).parent ≡ None → value_for entries e.number ≡ Some x → IsOutcomeOf e (quiet_outcome touched w e.number x (quiet_down None quiet quiet))
      at None root none value_e =
          let alone : ancestors_of d e.number ≡ [] = ap (λ o. option_map_or (inclusive_ancestors d.elements) o []) (parent_found d tree laws before after e is ∙ root) in
          outcome_is before after e is (quiet_down None quiet quiet) (subst (λ c. IsHandedBy c (quiet_down None quiet quiet)) (sym alone) (record { rest = refl; alone = refl; plain_is = refl })) x value_e
          (from_above before after e is (quiet_down None quiet quiet) None root refl)
      at (Some p) parent none value_e =
          absurd (let q = parent_before d tree laws before after e p is parent in
          let e : Some (length q.front) ≡ None = sym (ap (option_and_then (λ p. position_of p d)) parent ∙ q.position) ∙ none in cc)

  some_handed : (down : QuietDown) (chain : List Element) (a : Element) → IsHandedBy (a ∷ chain) down → down.parent ≡ Some (unwrap_or down.parent top_down)
  some_handed down chain a handed = at down.parent handed.plain_is
    where
      at : (o : Option Down) → plainly o ≡ handed_along (a ∷ chain) → o ≡ Some (unwrap_or o top_down)
      at None is = absurd (cc)
      at (Some x) is = refl

  below_place : (p q : Place) (i : ℕ) (x : EntryParts) (s : Step EntryParts QuietDown) → p.parent ≡ Some i → slice_get (places_of d) i ≡ Some q → IsOutcomeAt q s
      → value_for entries p.element ≡ Some x → IsOutcomeAt p (quiet_outcome touched w p.element x (down_of s))
  below_place p q i x s parent_at place_at is_outcome value before after e is place =
      let value_e = ap (λ (r : Place). value_for entries r.element) (sym place) ∙ value in
      subst (λ (r : Place). IsOutcomeOf e (quiet_outcome touched w r.element x (down_of s))) (sym place)
      (at e.parent refl (sym (ap (λ (r : Place). r.parent) place) ∙ parent_at) value_e)
    where
      at : (o : Option ℕ) → e.parent ≡ o → (element_place d e).parent ≡ Some i → value_for entries e.number ≡ Some x → IsOutcomeOf e (quiet_outcome touched w e.number x (down_of s))
      at None root some value_e = absurd (let e : None ≡ Some i = sym (ap (option_and_then (λ p. position_of p d)) root) ∙ some in cc)
      at (Some n) parent some value_e =
          let a = parent_before d tree laws before after e n is parent in
          let index : Some (length a.front) ≡ Some i = sym (ap (option_and_then (λ p. position_of p d)) parent ∙ a.position) ∙ some in
          let same_index : length a.front ≡ i = cc in
          let place_q : Some q ≡ Some (element_place d a.item) =
          sym place_at ∙ ap (slice_get (places_of d)) (sym same_index) ∙ place_there d tree laws a.front a.rest a.item a.is in
          let q_is : q ≡ element_place d a.item = cc in
          let above_is = is_outcome a.front a.rest a.item a.is q_is in
          let chain : ancestors_of d e.number ≡ a.item ∷ ancestors_of d a.item.number =
          ap (λ o. option_map_or (inclusive_ancestors d.elements) o []) (parent_found d tree laws before after e is ∙ parent) ∙ ap (inclusive_ancestors d.elements) (sym a.number)
          ∙ chain_begins d tree laws a.front a.rest a.item a.is in
          outcome_is before after e is (down_of s) (subst (λ c. IsHandedBy c (down_of s)) (sym chain) above_is.handed) x value_e
          (from_above before after e is (down_of s) (Some n) parent (some_handed (down_of s) (ancestors_of d a.item.number) a.item above_is.handed))

  result_is : (p : Place) (s : Step EntryParts QuietDown) → IsResult (quiet_meaning quiet touched w) (places_of d) entries p s → IsOutcomeAt p s
  result_is p s (at_top _ x none value) = top_is p x none value
  result_is p s (below _ q i x t parent place result value) = below_place p q i x t parent place (result_is q t result) value

  -- the entries after the pass are those after the event
  pub whole_quiet : (closing : List (ℕ × EntryParts)) → map (λ x. x.0) entries ≡ numbers_of d.elements → are_distinct entries ≡ true
      → IsPassOutcome (quiet_meaning quiet touched w) (places_of d) entries closing → closing ≡ map (λ x. (x.0, entry_after_event w entries x.0)) entries
  whole_quiet closing =
      whole_event w tree laws entries (quiet_meaning quiet touched w) closing (λ before after e s is result. (result_is (element_place d e) s result before after e is refl).entry_is)
