-- The outcome of a sibling's update, where it is the element's too.
use Rattle.std.proofs.Common.{◌≡◌, ◌∙◌, refl, sym, ap, ℕ, Bool, true, false, ◌&&◌, ◌||◌, eqb, List, [], ◌∷◌, Option, Some, None, inl, inr}
use Rattle.std.specs.Prelude.{IsSomeAnd, if◌then◌else◌, unwrap_or}
use Rattle.std.specs.Option.{option_map_or}
use Rattle.std.proofs.lemmas.Bool.{cases_Bool}
use Rattle.cascade_sort.specs.Alike.{AreAlike}
use Rattle.computed_style.specs.declared.inherited.Down.{Down}
use Rattle.doc_tree.specs.Element.{Element, element_of, is_in, parent_of}
use Rattle.pass_core.specs.declared.step.Step.TheVariants.{Kept, Updated}
use Rattle.style_data.specs.Entries.{EntryParts}
use Rattle.element_step.specs.Alike.{AreOfOneKind, TellTheSame}
use Rattle.element_step.specs.Quiet.{declared_in, handed_at_rest, has_no_effects, is_at_rest, is_untouched_below, moving_step, outcome_where, quiet_down, quiet_outcome}
use Rattle.element_step.specs.Works.{DocumentEvent, element_declarations, outcome_with, top_down}
use Rattle.element_step.specs.declared.quiet.QuietDown.{QuietDown}
use Rattle.element_step.proofs.Places.{quiet_places_alike}
use Rattle.element_step.proofs.ToldAlike.{told_alike}
use Rattle.element_step.proofs.Working.{at_rest_is, in_motion_is}

-- ---- both are in the tree, under one parent

there : (n : ℕ) (es : List Element) (e : Element) → element_of n es ≡ Some e → is_in n es ≡ true
there n [] e found = cc
there n (x ∷ es) e found =
    elim (cases_Bool (eqb x.number n)) [
      | inl same ↦ ap (λ b. b || is_in n es) same
      | inr other ↦ ap (λ b. b || is_in n es) other ∙ there n es e (rw other at found)
    ]

record AreTogether (es : List Element) (n m : ℕ) : Type 0 where
  first : is_in n es ≡ true
  second : is_in m es ≡ true
  parent : parent_of n es ≡ parent_of m es

together : (es : List Element) (n m : ℕ) (o p : Option Element) → element_of n es ≡ o → element_of m es ≡ p → IsSomeAnd o (λ e. IsSomeAnd p (AreAlike e)) → AreTogether es n m
together es n m None p one other alike = absurd alike
together es n m (Some e) None one other alike = absurd alike
together es n m (Some e) (Some f) one other alike = record {
  first = there n es e one;
  second = there m es f other;
  parent = ap (λ (x : Option Element). option_map_or (λ y. y.parent) x None) one ∙ alike.parent ∙ sym (ap (λ (x : Option Element). option_map_or (λ y. y.parent) x None) other);
}

-- ---- the outcome

not_kept : (down handed : QuietDown) (after : EntryParts) → Kept down ≡ Updated after handed → ⊥
not_kept down handed after is = cc

module _ (u : Bool) (w : DocumentEvent) (n m : ℕ) (entry before after : EntryParts) (down handed : QuietDown) (kind : AreOfOneKind w n m) (same : TellTheSame entry before)
    (none : has_no_effects after.effects ≡ true) (moves : (u && down.rests && is_at_rest entry) ≡ false) (is : outcome_where u w m before down ≡ Updated after handed) where
  abbrev over : Down
  over = unwrap_or down.parent top_down

  declared_alike : (b : Bool) → declared_in b w m entry ≡ declared_in b w n entry
  declared_alike true = refl
  declared_alike false = sym kind.declared

  -- the sibling's outcome, if its entry were the element's
  by_rest : (b : Bool) → (u && down.rests && is_at_rest before) ≡ b → outcome_where u w m entry down ≡ Updated after handed
  by_rest true rests = absurd (not_kept (quiet_down (Some (handed_at_rest before down.parent)) true true) handed after (at_rest_is u w m before down rests ∙ is))
  by_rest false stirs =
      sym (in_motion_is u w m entry down moves)
      ∙ ap (λ d. moving_step u (outcome_with w m entry (if u then d else element_declarations w m) over)) same.declared
      ∙ ap (moving_step u) (told_alike w m entry before (declared_in u w m before) over same)
      ∙ in_motion_is u w m before down stirs
      ∙ is

  pub taken : outcome_where u w n entry down ≡ Updated after handed
  taken =
      let both = together w.document.elements n m (element_of n w.document.elements) (element_of m w.document.elements) refl refl kind.alike in
      quiet_places_alike u w m n entry after down handed both.second both.first (sym both.parent) (declared_alike u) (by_rest (u && down.rests && is_at_rest before) refl) none

pub taken_over : (touched : List ℕ) (w : DocumentEvent) (n m : ℕ) (entry before after : EntryParts) (down handed : QuietDown) → AreOfOneKind w n m → TellTheSame entry before
    → is_untouched_below touched m down ≡ is_untouched_below touched n down → has_no_effects after.effects ≡ true
    → (is_untouched_below touched n down && down.rests && is_at_rest entry) ≡ false → quiet_outcome touched w m before down ≡ Updated after handed
    → Updated after handed ≡ quiet_outcome touched w n entry down
taken_over touched w n m entry before after down handed kind same alike none moves is =
    sym (taken (is_untouched_below touched n down) w n m entry before after down handed kind same none moves
    (ap (λ u. outcome_where u w m before down) (sym alike) ∙ is))
