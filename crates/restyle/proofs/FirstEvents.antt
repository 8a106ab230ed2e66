-- The first event of an element, and one that comes after it wasn't rendered.
use Rattle.std.proofs.Common.{◌≡◌, ℕ, refl, ap, sym, ◌∙◌, inl, inr, Bool, true, false, List, map, Option, Some, None}
use Rattle.std.specs.Prelude.{Result, Ok, Err, is_some, option_map, unwrap_or, if◌then◌else◌}
use Rattle.std.proofs.lemmas.Bool.{cases_Bool, false≢true}
use Rattle.computed_style.specs.declared.inherited.Down.{Down}
use Rattle.doc_tree.specs.Change.{with_classes, with_id, with_style, without as cut}
use Rattle.doc_tree.specs.Element.{Document, is_in, numbers_of}
use Rattle.element_step.specs.Updates.{ElementUpdate, change_in, entry_after, rendered_after, transitions_from, transitions_of}
use Rattle.element_step.specs.Works.{DocumentEvent, entry_at, update_at}
use Rattle.pass_core.specs.Passes.{value_for}
use Rattle.script_text.specs.declared.command.Command.{Command}
use Rattle.script_text.specs.declared.command.Command.TheVariants.{Blank, Add, Insert, Remove, Id, Class, Style, Sheet, At, Frame, Get, List as Listing}
use Rattle.sheet_rules.specs.declared.fault.CssFault.{CssFault}
use Rattle.sheet_types.specs.Sheets.{SheetRules}
use Rattle.style_data.specs.Entries.{EntryParts, fresh_entry}
use Rattle.style_data.specs.TransitionSets.{no_transitions}
use Rattle.ticker.specs.Ticks.{ticked_entry}
use Rattle.restyle.specs.Distinct.{IsWorld}
use Rattle.restyle.specs.Documents.{with_last_child, with_previous_sibling}
use Rattle.restyle.specs.Edits.{edited, sheet_found, with_sheet}
use Rattle.restyle.specs.StyleChanges.{ancestors_of, entry_after_event, entry_for, frame_after, frame_event, inherited_above, styles_along}
use Rattle.restyle.specs.Worlds.{WorldParts, entries_of, frame_of, ticked_world, world_after_frame}
use Rattle.restyle.proofs.Numbers.{by_numbers, is_among, not_there, there}
use Rattle.restyle.proofs.Outcomes.{value_for-map, value_there}
use Rattle.restyle.proofs.QuietWorlds.{ticked_for}

either : {X : Type 0} (b : Bool) (x : X) → (if b then x else x) ≡ x
either true x = refl
either false x = refl

none_starts : (x : ElementUpdate) → x.entry.rendered ≡ false → transitions_of x ≡ no_transitions
unfolding transitions_of
none_starts x off =
    ap (λ b. if rendered_after x then transitions_from b (change_in x) x.entry.effects.transitions else no_transitions) off ∙ either (rendered_after x) no_transitions

pub none_at : (w : DocumentEvent) (n : ℕ) (entry : EntryParts) (parent : Option Down) → entry.rendered ≡ false
    → (entry_at w n entry parent).effects.transitions ≡ no_transitions
unfolding update_at entry_after
none_at w n entry parent off = none_starts (update_at w n entry parent) off

-- ---- elements that no frame has styled

without : {X : Type 0} (o : Option X) (x : X) → is_some o ≡ false → unwrap_or o x ≡ x
without None x none = refl
without (Some y) x none = absurd (false≢true (sym none))

-- what isn't in the tree has no entry
pub absent_fresh : (w : WorldParts) (n : ℕ) → IsWorld w → is_in n w.document.elements ≡ false → entry_for w.entries n ≡ fresh_entry
absent_fresh w n world absent = without (value_for w.entries n) fresh_entry (value_there w.entries w.document.elements world.order n ∙ absent)

fresh_again : (d : Document) (entries : List (ℕ × EntryParts)) (n : ℕ) → entry_for entries n ≡ fresh_entry → entry_for (entries_of d entries) n ≡ fresh_entry
fresh_again d entries n fresh =
    ap (λ (es : List (ℕ × EntryParts)). entry_for es n) (by_numbers d.elements entries)
    ∙ elim (cases_Bool (is_among n (numbers_of d.elements))) [
      | inl among ↦ ap (λ o. unwrap_or o fresh_entry) (there n (numbers_of d.elements) entries among) ∙ fresh
      | inr other ↦ ap (λ o. unwrap_or o fresh_entry) (not_there n (numbers_of d.elements) entries other)
    ]

-- it stays so with each edit
pub edited_fresh : (w : WorldParts) (c : Command) (n : ℕ) → entry_for w.entries n ≡ fresh_entry → entry_for (edited w c).entries n ≡ fresh_entry
edited_fresh w Blank n fresh = fresh
edited_fresh w (Add m parent tag) n fresh = fresh_again (with_last_child w.document m parent tag) w.entries n fresh
edited_fresh w (Insert m sibling tag) n fresh = fresh_again (with_previous_sibling w.document m sibling tag) w.entries n fresh
edited_fresh w (Remove m) n fresh = fresh_again (cut w.document m) w.entries n fresh
edited_fresh w (Id m name) n fresh = fresh_again (with_id w.document m name) w.entries n fresh
edited_fresh w (Class m names) n fresh = fresh_again (with_classes w.document m names) w.entries n fresh
edited_fresh w (Style m text) n fresh = fresh_again (with_style w.document m text) w.entries n fresh
edited_fresh w (Sheet k text) n fresh = by_sheet (sheet_found text)
  where
    by_sheet : (sheet : Result (Option SheetRules) CssFault) → entry_for (with_sheet w k sheet).entries n ≡ fresh_entry
    by_sheet (Ok sheet) = fresh
    by_sheet (Err fault) = fresh
edited_fresh w (At t) n fresh = fresh
edited_fresh w Frame n fresh = fresh
edited_fresh w (Get m p) n fresh = fresh
edited_fresh w (Listing m) n fresh = fresh

-- and the next frame starts no transition of it
module _ (event : DocumentEvent) (entries : List (ℕ × EntryParts)) (n : ℕ) (off : (entry_for entries n).rendered ≡ false) where
  by_value : (o : Option EntryParts) → (unwrap_or (option_map (λ _. entry_after_event event entries n) o) fresh_entry).effects.transitions ≡ no_transitions
  by_value None = refl
  by_value (Some e) = none_at event n (entry_for entries n) (option_map inherited_above (styles_along event entries (ancestors_of event.document n))) off

  none_after : (entry_for (map (λ x. (x.0, entry_after_event event entries x.0)) entries) n).effects.transitions ≡ no_transitions
  none_after = ap (λ o. (unwrap_or o fresh_entry).effects.transitions) (value_for-map (entry_after_event event entries) entries n) ∙ by_value (value_for entries n)

pub frame_starts_none : (w : WorldParts) (n : ℕ) → entry_for w.entries n ≡ fresh_entry → (entry_for (world_after_frame w).entries n).effects.transitions ≡ no_transitions
unfolding world_after_frame frame_after
frame_starts_none w n fresh =
    none_after (frame_event (frame_of (ticked_world w))) (map (ticked_entry w.time.0) w.entries) n
    (ap (λ (e : EntryParts). e.rendered) (ticked_for w.time.0 w.entries n) ∙ ap (λ (e : EntryParts). e.rendered) fresh)
