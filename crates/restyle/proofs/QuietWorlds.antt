-- A frame of a world in which nothing has changed since the frame before.
use Rattle.std.proofs.Common.{◌≡◌, ℕ, ◌+◌, refl, ap, sym, ◌∙◌, subst, inl, inr, eqb, true, List, [], ◌∷◌, ◌++◌, map}
use Rattle.std.specs.Prelude.{ℤ, All}
use Rattle.std.specs.List.{flat_map}
use Rattle.std.proofs.lemmas.Bool.{cases_Bool}
use Rattle.std.proofs.lemmas.List.Elements.{All-head, All-tail}
use Rattle.doc_tree.specs.Element.{Document, is_in}
use Rattle.doc_tree.specs.Shape.{IsTree}
use Rattle.element_step.specs.Works.{DocumentEvent}
use Rattle.fix_num.specs.declared.units.Micros.{Micros}
use Rattle.script_text.specs.declared.command.Command.TheVariants.{At}
use Rattle.style_data.specs.Entries.{EffectLists, EntryParts, fresh_entry, no_effects}
use Rattle.style_data.specs.declared.gone.Gone.{Gone}
use Rattle.ticker.specs.Ticks.{cancel_events, effect_events, entry_events, position_in_tree, ticked_entry}
use Rattle.restyle.specs.Distinct.{AreInTreeOrder, IsWorld}
use Rattle.restyle.specs.Edits.{edited}
use Rattle.restyle.specs.Rest.{AreAtRest, GiveTheSame, IsStill}
use Rattle.restyle.specs.StyleChanges.{FrameParts, ancestors_of, entry_after_event, entry_for, frame_after, frame_event, root_size_of, styles_along}
use Rattle.restyle.specs.Worlds.{WorldParts, events_of_frame, frame_of, ticked_world, world_after_frame}
use Rattle.restyle.proofs.FrameOrigins.{ticked_numbers}
use Rattle.restyle.proofs.ProperPlans.{TreeLaws}
use Rattle.restyle.proofs.QuietEvents.{IsLeftStill}
use Rattle.restyle.proofs.QuietFrames.{closing_order, entry_nowhere, frame_left, rest_after, same_stays, stays_there}
use Rattle.restyle.proofs.QuietUpdates.{StaysSame, StillLaws, quiet_event}
use Rattle.restyle.proofs.StillEntries.{left_ticked, ticked_parts}

-- ---- ticks

fresh_ticked : (now : ℤ) → ticked_parts now fresh_entry ≡ fresh_entry
fresh_ticked now = refl

pub ticked_for : (now : ℤ) (entries : List (ℕ × EntryParts)) (n : ℕ) → entry_for (map (ticked_entry now) entries) n ≡ ticked_parts now (entry_for entries n)
ticked_for now [] n = sym (fresh_ticked now)
ticked_for now (x ∷ entries) n =
    elim (cases_Bool (eqb x.0 n)) [
      | inl same ↦ rw same refl
      | inr other ↦ rw other (ticked_for now entries n)
    ]

-- ---- the frame after this one, whose tick comes first

module _ (trees : TreeLaws) (laws : StillLaws) (f : FrameParts) (t : Micros) (tree : IsTree f.document) (order : AreInTreeOrder f.document f.entries) where
  abbrev w : DocumentEvent
  w = frame_event f

  abbrev closing : List (ℕ × EntryParts)
  closing = map (λ x. (x.0, entry_after_event w f.entries x.0)) f.entries

  abbrev ticked : List (ℕ × EntryParts)
  ticked = map (ticked_entry t.0) closing

  ticked_order : AreInTreeOrder f.document ticked
  ticked_order = ticked_numbers t.0 closing ∙ closing_order trees laws f t tree order

  tick_left : (n : ℕ) → is_in n f.document.elements ≡ true → IsStill (entry_for closing n)
      → IsLeftStill w n (entry_for f.entries n) (styles_along w f.entries (ancestors_of f.document n)) t.0 (entry_for ticked n)
  tick_left n within still =
      subst (λ e. IsLeftStill w n (entry_for f.entries n) (styles_along w f.entries (ancestors_of f.document n)) t.0 e) (sym (ticked_for t.0 closing n))
      (left_ticked w n (entry_for f.entries n) (styles_along w f.entries (ancestors_of f.document n)) t.0 t.0 (entry_for closing n)
      (frame_left trees laws f t tree order n within still))

  abbrev next : DocumentEvent
  next = quiet_event w t (f.generation + 1) (root_size_of ticked)

  abbrev later : List (ℕ × EntryParts)
  later = map (λ x. (x.0, entry_after_event next ticked x.0)) ticked

  later_there : (n : ℕ) → is_in n f.document.elements ≡ true → AreAtRest f.document closing n → StaysSame (entry_for ticked n) (entry_for later n)
  later_there n within rest =
      stays_there trees laws w t (f.generation + 1) (root_size_of ticked) f.entries ticked (λ m. IsStill (entry_for closing m)) tree ticked_order tick_left n within rest

  later_stays : (n : ℕ) → AreAtRest f.document closing n → StaysSame (ticked_parts t.0 (entry_for closing n)) (entry_for later n)
  later_stays n rest =
      elim (cases_Bool (is_in n f.document.elements)) [
        | inl within ↦ subst (λ e. StaysSame e (entry_for later n)) (ticked_for t.0 closing n) (later_there n within rest)
        | inr without ↦
            subst (λ e. StaysSame (ticked_parts t.0 e) (entry_for later n)) (sym (entry_nowhere (entry_after_event w f.entries) f.document f.entries n order without))
            (subst (λ e. StaysSame (ticked_parts t.0 fresh_entry) e) (sym (entry_nowhere (entry_after_event next ticked) f.document ticked n ticked_order without))
            (subst (λ e. StaysSame e fresh_entry) (sym (fresh_ticked t.0)) (same_stays fresh_entry)))
      ]

  later_rests : (n : ℕ) → AreAtRest f.document closing n → AreAtRest f.document later n
  later_rests = rest_after trees laws w t (f.generation + 1) (root_size_of ticked) f.entries ticked (λ m. IsStill (entry_for closing m)) tree ticked_order tick_left

-- ---- worlds

module _ (trees : TreeLaws) (laws : StillLaws) (w : WorldParts) (t : Micros) (world : IsWorld w) where
  first_order : AreInTreeOrder w.document (map (ticked_entry w.time.0) w.entries)
  first_order = ticked_numbers w.time.0 w.entries ∙ world.order

  pub world_stays : (n : ℕ) → AreAtRest w.document (world_after_frame w).entries n
      → StaysSame (ticked_parts t.0 (entry_for (world_after_frame w).entries n)) (entry_for (world_after_frame (edited (world_after_frame w) (At t))).entries n)
  unfolding world_after_frame frame_after
  world_stays = later_stays trees laws (frame_of (ticked_world w)) t world.tree first_order

  pub world_rests : (n : ℕ) → AreAtRest w.document (world_after_frame w).entries n
      → AreAtRest w.document (world_after_frame (edited (world_after_frame w) (At t))).entries n
  unfolding world_after_frame frame_after
  world_rests = later_rests trees laws (frame_of (ticked_world w)) t world.tree first_order

pub same_styles : (now : ℤ) (was after : EntryParts) → StaysSame (ticked_parts now was) after → GiveTheSame was after
same_styles now was after stays = record {
  styled = stays.styles.styled;
  rendered = stays.styles.rendered;
  declared = stays.styles.declared;
  style = stays.styles.style;
}

-- ---- events

none_told : (d : Document) (t : ℤ) (entries : List (ℕ × EntryParts)) → All (λ e. e.1.effects ≡ no_effects) entries → flat_map (entry_events d t) entries ≡ []
none_told d t [] none = refl
none_told d t (e ∷ entries) none =
    ap (λ (f : EffectLists). effect_events e.0 (position_in_tree d e.0) t f ++ flat_map (entry_events d t) entries) (All-head (λ (x : ℕ × EntryParts). x.1.effects ≡ no_effects) e entries none)
    ∙ none_told d t entries (All-tail (λ (x : ℕ × EntryParts). x.1.effects ≡ no_effects) e entries none)

pub nothing_told : (w : WorldParts) → All (λ e. e.1.effects ≡ no_effects) w.entries → w.departed ≡ [] → events_of_frame w ≡ []
nothing_told w none departed =
    ap (λ events. events ++ flat_map (λ d. cancel_events d.0 d.1) w.departed) (none_told w.document w.time.0 w.entries none)
    ∙ ap (λ (ds : List (ℕ × Gone)). flat_map (λ d. cancel_events d.0 d.1) ds) departed
