-- In every world of a run no transition ends before it starts.
use Rattle.std.proofs.Common.{◌≡◌, ℕ, zero, suc, refl, sym, subst, inl, inr, Bool, true, false, Option, Some, None, List, [], ◌∷◌, map, set}
use Rattle.std.specs.Prelude.{ℤ, ◌-◌, int_le, is_none, option_and_then, option_map, replicate, unwrap_or, if◌then◌else◌, Result, Ok, Err}
use Rattle.std.specs.List.{AllByRecursion}
use Rattle.std.specs.Result.{result_map_both}
use Rattle.cascade_sort.specs.Applying.{rules_of}
use Rattle.computed_style.specs.ByProperty.{kept_for}
use Rattle.doc_tree.specs.Change.{with_classes, with_id, with_style, without}
use Rattle.doc_tree.specs.Element.{Document}
use Rattle.element_step.specs.Works.{DocumentEvent}
use Rattle.pass_core.specs.Passes.{value_for}
use Rattle.script_text.specs.declared.command.Command.{Command}
use Rattle.script_text.specs.declared.command.Command.TheVariants.{Blank, Add, Insert, Remove, Id, Class, Style, Sheet, At, Frame, Get, List as Listing}
use Rattle.sheet_rules.specs.Rules.{sheet_of}
use Rattle.sheet_rules.specs.declared.fault.CssFault.{CssFault}
use Rattle.sheet_types.specs.Sheets.{SheetRules}
use Rattle.style_data.specs.Entries.{EntryParts, fresh_entry}
use Rattle.style_data.specs.declared.transition.Transition.{Transition}
use Rattle.ticker.specs.Ticks.{running_after, seen_in, still_running, ticked_entry}
use Rattle.transition_update.proofs.ByProperty.{by_property_has}
use Rattle.restyle.specs.Documents.{with_last_child, with_previous_sibling}
use Rattle.restyle.specs.Edits.{refusal_of, sheet_found, with_sheet}
use Rattle.restyle.specs.StyleChanges.{ancestors_of, entry_after_event, entry_for, frame_after, frame_event, inherited_above, styles_along}
use Rattle.restyle.specs.Worlds.{WorldParts, entries_of, frame_of, new_world, ticked_world, world_after_frame}
use Rattle.restyle.proofs.Outcomes.{value_for-map}
use Rattle.restyle.proofs.QuietWorlds.{ticked_for}
use Rattle.run_laws.specs.Runs.{events_of_run, world_after_command, world_left_by}
use Rattle.run_laws.specs.TransitionCourses.{IsCourse}
use Rattle.run_laws.specs.TransitionNames.{TransitionName, told_of}
use Rattle.run_laws.proofs.DeclaredDurations.{AreTimelyRules, AreTimelySheets, ReadingLaws, sheet_timely}
use Rattle.run_laws.proofs.OrderedUpdates.{IsOrdered, entry_ordered}
use Rattle.run_laws.proofs.Runs.{HoldsAlong, entry_in, new_so_far, run_course}
use Rattle.run_laws.proofs.SoFar.{HoldsOf}

-- ---- sheets

all_same : {X : Type 0} (P : X → Type 0) (n : ℕ) (x : X) → P x → AllByRecursion P (replicate n x)
all_same P zero x holds = tt
all_same P (suc n) x holds = (holds, all_same P n x holds)

all_set : {X : Type 0} (P : X → Type 0) (xs : List X) (k : ℕ) (y : X) → AllByRecursion P xs → P y → AllByRecursion P (set xs k y)
all_set P [] k y all holds = tt
all_set P (x ∷ xs) zero y all holds = (holds, all.1)
all_set P (x ∷ xs) (suc k) y all holds = (all.0, all_set P xs k y all.1 holds)

-- a tick changes neither
pub still : (r : Transition) (t : ℤ) → IsOrdered r → IsOrdered (seen_in t r)
still r t ordered = ordered

module _ (laws : ReadingLaws) (x : TransitionName) where
  abbrev n : ℕ
  n = x.element

  abbrev run_of : EntryParts → Option Transition
  run_of e = kept_for x.property e.effects.transitions.running

  pub record IsOrderedWorld (w : WorldParts) : Type 0 where
    pub sheets : AreTimelySheets w.sheets
    pub running : HoldsOf IsOrdered (run_of (entry_for w.entries n))

  new_ordered : IsOrderedWorld new_world
  new_ordered = record { sheets = all_same (λ s. AreTimelyRules (rules_of s)) 16 None tt; running = tt }

  -- ---- a frame

  ticked_ordered : (t : ℤ) (o : Option Transition) → HoldsOf IsOrdered o → HoldsOf IsOrdered (option_and_then (still_running t) o)
  ticked_ordered t None holds = tt
  ticked_ordered t (Some r) holds = go (int_le r.end.0 t)
    where
      go : (b : Bool) → HoldsOf IsOrdered (if b then None else Some (seen_in t r))
      go true = tt
      go false = holds

  module _ (event : DocumentEvent) (opening : List (ℕ × EntryParts)) (timely : AreTimelySheets event.sheets) (running : HoldsOf IsOrdered (run_of (entry_for opening n))) where
    closing_ordered : HoldsOf IsOrdered (run_of (entry_for (map (λ y. (y.0, entry_after_event event opening y.0)) opening) n))
    closing_ordered =
        subst (λ o. HoldsOf IsOrdered (run_of (unwrap_or o fresh_entry))) (sym (value_for-map (entry_after_event event opening) opening n)) (by_value (value_for opening n))
      where
        by_value : (o : Option EntryParts) → HoldsOf IsOrdered (run_of (unwrap_or (option_map (λ _. entry_after_event event opening n) o) fresh_entry))
        by_value None = tt
        by_value (Some e) =
            entry_ordered laws event n (entry_for opening n) (option_map inherited_above (styles_along event opening (ancestors_of event.document n))) x.property timely running

  module _ (w : WorldParts) (is : IsOrderedWorld w) where
    framed : IsOrderedWorld (world_after_frame w)
    unfolding world_after_frame frame_after
    framed = record {
      sheets = is.sheets;
      running = closing_ordered (frame_event (frame_of (ticked_world w))) (map (ticked_entry w.time.0) w.entries) is.sheets
          (subst (λ (e : EntryParts). HoldsOf IsOrdered (run_of e)) (sym (ticked_for w.time.0 w.entries n))
          (subst (HoldsOf IsOrdered) (sym (by_property_has (running_after w.time.0 (entry_for w.entries n).effects.transitions) x.property))
          (ticked_ordered w.time.0 (run_of (entry_for w.entries n)) is.running)));
    }

    -- ---- edits

    in_document : (d : Document) → HoldsOf IsOrdered (run_of (entry_for (entries_of d w.entries) n))
    in_document d = elim (entry_in w.entries n d) [
      | inl stays ↦ subst (λ (e : EntryParts). HoldsOf IsOrdered (run_of e)) (sym stays) is.running
      | inr fresh ↦ subst (λ (e : EntryParts). HoldsOf IsOrdered (run_of e)) (sym fresh) tt
    ]

    found_timely : (text : List ℕ) (sheet : Option SheetRules) → sheet_found text ≡ Ok sheet → AreTimelyRules (rules_of sheet)
    found_timely [] sheet found = let none : None ≡ sheet = cc in subst (λ s. AreTimelyRules (rules_of s)) none tt
    found_timely (b ∷ bs) sheet found = go (sheet_of (b ∷ bs)) refl found
      where
        go : (r : Result SheetRules CssFault) → sheet_of (b ∷ bs) ≡ r → result_map_both Some (λ fault. fault) r ≡ Ok sheet → AreTimelyRules (rules_of sheet)
        go (Ok rules) read found = let some : Some rules ≡ sheet = cc in subst (λ s. AreTimelyRules (rules_of s)) some (sheet_timely laws (b ∷ bs) rules read)
        go (Err fault) read found = absurd (cc)

    with_found : (k : ℕ) (r : Result (Option SheetRules) CssFault) → ((sheet : Option SheetRules) → r ≡ Ok sheet → AreTimelyRules (rules_of sheet)) → IsOrderedWorld (with_sheet w k r)
    with_found k (Ok sheet) timely = record {
      sheets = all_set (λ s. AreTimelyRules (rules_of s)) w.sheets (k - 1) sheet is.sheets (timely sheet refl);
      running = is.running;
    }
    with_found k (Err fault) timely = is

    left_ordered : (c : Command) → IsOrderedWorld (world_left_by w c)
    left_ordered Blank = is
    left_ordered (Add m parent tag) = record { sheets = is.sheets; running = in_document (with_last_child w.document m parent tag) }
    left_ordered (Insert m sibling tag) = record { sheets = is.sheets; running = in_document (with_previous_sibling w.document m sibling tag) }
    left_ordered (Remove m) = record { sheets = is.sheets; running = in_document (without w.document m) }
    left_ordered (Id m name) = record { sheets = is.sheets; running = in_document (with_id w.document m name) }
    left_ordered (Class m names) = record { sheets = is.sheets; running = in_document (with_classes w.document m names) }
    left_ordered (Style m text) = record { sheets = is.sheets; running = in_document (with_style w.document m text) }
    left_ordered (Sheet k text) = with_found k (sheet_found text) (found_timely text)
    left_ordered (At u) = record { sheets = is.sheets; running = is.running }
    left_ordered Frame = framed
    left_ordered (Get m p) = is
    left_ordered (Listing m) = is

    after_command : (c : Command) → IsOrderedWorld (world_after_command w c)
    after_command c = go (is_none (refusal_of w c))
      where
        go : (b : Bool) → IsOrderedWorld (if b then world_left_by w c else w)
        go true = left_ordered c
        go false = is

  along : (w : WorldParts) (cs : List Command) → IsOrderedWorld w → HoldsAlong IsOrdered still x w cs
  along w [] is = tt
  along w (c ∷ cs) is = ((after_command w is c).running, along (world_after_command w c) cs (after_command w is c))

  pub new_along : (cs : List Command) → HoldsAlong IsOrdered still x new_world cs
  new_along cs = along new_world cs new_ordered

  pub ordered_run : (cs : List Command) → IsCourse IsOrdered x.generation (told_of x (events_of_run new_world cs))
  ordered_run cs = run_course IsOrdered still x cs [] new_world (new_so_far IsOrdered still x) (new_along cs)
