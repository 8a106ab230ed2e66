-- What was told of a transition so far is kept by each frame and each edit, and so by every run.
use Rattle.std.proofs.Common.{◌≡◌, ℕ, suc, ◌+◌, refl, ap, sym, ◌∙◌, inl, inr, subst, arith, Bool, true, false, not, Option, Some, None, List, [], ◌∷◌, ◌++◌, append-nil, append_assoc, filter, map}
use Rattle.std.specs.Prelude.{◌⊎◌, ⊤, ℤ, ◌≤ℤ◌, int_lt, is_none, nat_eq, option_and_then, option_map, unwrap_or, if◌then◌else◌, Result, Ok, Err}
use Rattle.std.specs.List.{flat_map}
use Rattle.std.proofs.lemmas.Bool.{and_parts, cases_Bool, cases_lt, eq-eqb, eqb-true, false≢true}
use Rattle.std.proofs.lemmas.Int.{ints}
use Rattle.std.proofs.lemmas.List.{map-append}
use Rattle.std.proofs.lemmas.List.Elements.{filter-append}
use Rattle.animation_names.specs.Continuing.{cancelled_animation}
use Rattle.computed_style.specs.ByProperty.{kept_for}
use Rattle.doc_tree.specs.Change.{each_once, new_element, without}
use Rattle.doc_tree.specs.Element.{Document, Element, is_in, is_inclusive_descendant, numbers_of, parent_of, position_of, subtree_of}
use Rattle.doc_tree.specs.Fault.{fault_of_add, fault_of_insert, has_parent}
use Rattle.doc_tree.specs.declared.fault.TreeFault.{TreeFault}
use Rattle.element_step.specs.Works.{DocumentEvent}
use Rattle.fix_num.specs.declared.units.Micros.{Micros}
use Rattle.pass_core.specs.Passes.{value_for}
use Rattle.script_text.specs.declared.command.Command.{Command}
use Rattle.script_text.specs.declared.command.Command.TheVariants.{Blank, Add, Insert, Remove, Id, Class, Style, Sheet, At, Frame, Get, List as Listing}
use Rattle.script_text.specs.declared.refusal.Refusal.{Refusal}
use Rattle.script_text.specs.declared.refusal.Refusal.TheVariants as refusal
use Rattle.sheet_rules.specs.declared.fault.CssFault.{CssFault}
use Rattle.sheet_types.specs.Sheets.{SheetRules}
use Rattle.style_data.specs.Entries.{EntryParts, fresh_entry}
use Rattle.style_data.specs.declared.event.Event.{Event}
use Rattle.style_data.specs.declared.gone.Gone.{Gone}
use Rattle.style_data.specs.TransitionSets.{running_of}
use Rattle.style_data.specs.declared.transition.Phase.{Phase}
use Rattle.style_data.specs.declared.transition.Transition.{Transition}
use Rattle.ticker.specs.Events.{cancel_occurrences}
use Rattle.ticker.specs.Ticks.{running_after, seen_in, still_running, ticked_entry}
use Rattle.transition_update.proofs.ByProperty.{by_property_has}
use Rattle.transition_update.specs.Updates.{all_cancelled}
use Rattle.restyle.specs.Documents.{last_place}
use Rattle.restyle.specs.Edits.{edited, refusal_of, refusal_of_tree, sheet_found, with_sheet, without_element}
use Rattle.restyle.specs.Entries.{are_apart, is_among}
use Rattle.restyle.specs.StyleChanges.{ancestors_of, entry_after_event, entry_for, frame_after, frame_event, inherited_above, styles_along}
use Rattle.restyle.specs.Worlds.{WorldParts, all_departed_of, all_gone_at, departed_of, entries_of, events_of_frame, frame_of, new_world, ticked_world, with_document, world_after_frame}
use Rattle.restyle.proofs.FrameOrigins.{ticked_numbers}
use Rattle.restyle.proofs.Numbers.{by_numbers, not_there, order_of_entries, there}
use Rattle.restyle.proofs.Outcomes.{value_for-map}
use Rattle.restyle.proofs.QuietWorlds.{ticked_for}
use Rattle.restyle.proofs.StillEntries.{ticked_parts}
use Rattle.restyle.proofs.WorldEdits.{unused_where_new}
use Rattle.run_laws.specs.Occurrences.{Occurrence}
use Rattle.run_laws.specs.Runs.{HasRun, events_of_command, events_of_run, world_after_command, world_after_run, world_left_by}
use Rattle.run_laws.specs.TransitionCourses.{IsCourse}
use Rattle.run_laws.specs.TransitionNames.{TransitionName, is_event_of, occurrence_told, told_of}
use Rattle.run_laws.proofs.ElementNumbers.{IsNumbered, among_passing, apart_in_fewer, away_where_passing, not_true, with_fewer, with_one_more, with_the_same}
use Rattle.run_laws.proofs.Filtered.{IsOnce, all_mapped, flat_without, none_mapped, once_by_property}
use Rattle.run_laws.proofs.FrameEvents.{departed_items, is_gone_of, tick_told, told_gone, told_running}
use Rattle.run_laws.proofs.PropertyUpdates.{IsEntryUpdated, animation_item, cancelled_items, entry_updated}
use Rattle.run_laws.proofs.SoFar.{HoldsOf, IsToldSoFar, cancelled_now, course_so_far, dropped, keeps, later, over, removed, swapped, ticked, updated, waits}

-- ---- the entry of an element in another document

fresh_in : (entries : List (ℕ × EntryParts)) (n : ℕ) (d : Document) → is_among n (numbers_of d.elements) ≡ false → entry_for (entries_of d entries) n ≡ fresh_entry
fresh_in entries n d away =
    ap (λ (es : List (ℕ × EntryParts)). entry_for es n) (by_numbers d.elements entries)
    ∙ ap (λ o. unwrap_or o fresh_entry) (not_there n (numbers_of d.elements) entries away)

pub entry_in : (entries : List (ℕ × EntryParts)) (n : ℕ) (d : Document)
    → (entry_for (entries_of d entries) n ≡ entry_for entries n) ⊎ (entry_for (entries_of d entries) n ≡ fresh_entry)
entry_in entries n d = elim (cases_Bool (is_among n (numbers_of d.elements))) [
  | inl among ↦
      inl (ap (λ (es : List (ℕ × EntryParts)). entry_for es n) (by_numbers d.elements entries)
      ∙ ap (λ o. unwrap_or o fresh_entry) (there n (numbers_of d.elements) entries among))
  | inr away ↦ inr (fresh_in entries n d away)
]

module _ (P : Transition → Type 0) (still : (r : Transition) (t : ℤ) → P r → P (seen_in t r)) (x : TransitionName) where
  abbrev n : ℕ
  n = x.element

  -- what runs of the property of the element, and what was cancelled of the transition
  abbrev run_of : EntryParts → Option Transition
  run_of e = kept_for x.property e.effects.transitions.running

  abbrev left_of : EntryParts → List (ℕ × Gone) → List Gone
  left_of e departed = departed_items x departed ++ filter (is_gone_of x) e.effects.gone

  -- of a world, after so much was told
  pub record IsRunSoFar (told : List Occurrence) (w : WorldParts) : Type 0 where
    pub numbered : IsNumbered w.document
    pub order : map (λ e. e.0) w.entries ≡ numbers_of w.document.elements
    pub once : IsOnce x.property (entry_for w.entries n).effects.transitions.running
    pub so_far : IsToldSoFar P x.generation told w.frames w.time.0 (run_of (entry_for w.entries n)) (left_of (entry_for w.entries n) w.departed)

  pub new_so_far : IsRunSoFar [] new_world
  new_so_far = record {
    numbered = record { apart = refl; used = refl };
    order = refl;
    once = refl;
    so_far = elim (cases_lt 0 x.generation) [
      | inl early ↦ waits early refl tt refl
      | inr late ↦ over late tt refl (inl refl)
    ];
  }

  -- ---- a frame

  module _ (event : DocumentEvent) (opening : List (ℕ × EntryParts)) (once : IsOnce x.property (entry_for opening n).effects.transitions.running) where
    abbrev closing : List (ℕ × EntryParts)
    closing = map (λ y. (y.0, entry_after_event event opening y.0)) opening

    closing_updated : IsEntryUpdated x event.generation event.time.0 (entry_for opening n) (entry_for closing n)
    closing_updated =
        subst (λ o. IsEntryUpdated x event.generation event.time.0 (entry_for opening n) (unwrap_or o fresh_entry))
        (sym (value_for-map (entry_after_event event opening) opening n)) (by_value (value_for opening n) refl)
      where
        by_value : (o : Option EntryParts) → value_for opening n ≡ o
            → IsEntryUpdated x event.generation event.time.0 (entry_for opening n) (unwrap_or (option_map (λ _. entry_after_event event opening n) o) fresh_entry)
        by_value None none =
            subst (λ (o : Option EntryParts). IsEntryUpdated x event.generation event.time.0 (unwrap_or o fresh_entry) fresh_entry) (sym none)
            (record { more = []; update = keeps refl refl; left = refl; once = refl })
        by_value (Some e) some = entry_updated x event n (entry_for opening n) (option_map inherited_above (styles_along event opening (ancestors_of event.document n))) once

  numbers_kept : (f : ℕ → EntryParts) (entries : List (ℕ × EntryParts)) → map (λ (e : ℕ × EntryParts). e.0) (map (λ (y : ℕ × EntryParts). (y.0, f y.0)) entries) ≡ map (λ (e : ℕ × EntryParts). e.0) entries
  numbers_kept f [] = refl
  numbers_kept f (e ∷ entries) = ap (λ ns. e.0 ∷ ns) (numbers_kept f entries)

  module _ (told : List Occurrence) (w : WorldParts) (is : IsRunSoFar told w) where
    abbrev e : EntryParts
    e = entry_for w.entries n

    abbrev t : ℤ
    t = w.time.0

    abbrev opening' : List (ℕ × EntryParts)
    opening' = map (ticked_entry t) w.entries

    abbrev event' : DocumentEvent
    event' = frame_event (frame_of (ticked_world w))

    abbrev told' : List Occurrence
    told' = told ++ told_of x (events_of_frame w)

    told_in_frame : told_of x (events_of_frame w) ≡ told_running x t (run_of e) ++ told_gone x (left_of e w.departed)
    told_in_frame =
        tick_told x w.document t w.entries w.departed (ap are_apart is.order ∙ is.numbered.apart) is.once
        ∙ append_assoc (told_running x t (run_of e)) (told_gone x (filter (is_gone_of x) e.effects.gone)) (told_gone x (departed_items x w.departed))
        ∙ ap (λ os. told_running x t (run_of e) ++ os)
        (sym (swapped P still x cancel_occurrences told w.frames t (run_of e) (departed_items x w.departed) (filter (is_gone_of x) e.effects.gone) is.so_far))

    ticked_run : run_of (ticked_parts t e) ≡ option_and_then (still_running t) (run_of e)
    ticked_run = by_property_has (running_after t e.effects.transitions) x.property

    after_tick : IsToldSoFar P x.generation told' w.frames t (run_of (entry_for opening' n)) []
    after_tick =
        subst (λ (o : EntryParts). IsToldSoFar P x.generation told' w.frames t (run_of o) []) (sym (ticked_for t w.entries n))
        (subst (λ o. IsToldSoFar P x.generation told' w.frames t o []) (sym ticked_run)
        (subst (λ more. IsToldSoFar P x.generation (told ++ more) w.frames t (option_and_then (still_running t) (run_of e)) []) (sym told_in_frame)
        (ticked P still x told w.frames t (run_of e) (left_of e w.departed) is.so_far)))

    ticked_once : IsOnce x.property (entry_for opening' n).effects.transitions.running
    ticked_once =
        subst (λ (o : EntryParts). IsOnce x.property o.effects.transitions.running) (sym (ticked_for t w.entries n))
        (once_by_property (running_after t e.effects.transitions) x.property)

    none_left : (entry_for opening' n).effects.gone ≡ []
    none_left = ap (λ (o : EntryParts). o.effects.gone) (ticked_for t w.entries n)

    pub framed : HoldsOf P (run_of (entry_for (world_after_frame w).entries n)) → IsRunSoFar (told ++ told_of x (events_of_frame w)) (world_after_frame w)
    unfolding world_after_frame frame_after
    framed holding =
        let update = closing_updated event' opening' ticked_once in
        let left : left_of (entry_for (closing event' opening' ticked_once) n) [] ≡ update.more =
        update.left ∙ ap (λ gs. filter (is_gone_of x) gs ++ update.more) none_left in record {
          numbered = is.numbered;
          order = numbers_kept (entry_after_event event' opening') opening' ∙ ticked_numbers t w.entries ∙ is.order;
          once = update.once;
          so_far =
              subst (λ gs. IsToldSoFar P x.generation told' (w.frames + 1) t (run_of (entry_for (closing event' opening' ticked_once) n)) gs) (sym left)
              (updated P still x told' w.frames t (run_of (entry_for opening' n)) (run_of (entry_for (closing event' opening' ticked_once) n)) [] update.more after_tick holding update.update);
        }

    -- ---- another document

    -- the entry stays, or is a fresh one
    with_entry : (d : Document) (departed : List (ℕ × Gone)) → IsNumbered d → departed_items x departed ≡ departed_items x w.departed
        → IsRunSoFar told (record w { document = d; entries = entries_of d w.entries; departed = departed })
    with_entry d departed numbered same = elim (entry_in w.entries n d) [
      | inl stays ↦ record {
        numbered = numbered;
        order = order_of_entries d w.entries;
        once = subst (λ (o : EntryParts). IsOnce x.property o.effects.transitions.running) (sym stays) is.once;
        so_far =
            subst (λ (o : EntryParts). IsToldSoFar P x.generation told w.frames t (run_of o) (left_of o departed)) (sym stays)
            (subst (λ gs. IsToldSoFar P x.generation told w.frames t (run_of e) (gs ++ filter (is_gone_of x) e.effects.gone)) (sym same) is.so_far);
      }
      | inr fresh ↦ record {
        numbered = numbered;
        order = order_of_entries d w.entries;
        once = subst (λ (o : EntryParts). IsOnce x.property o.effects.transitions.running) (sym fresh) refl;
        so_far =
            subst (λ (o : EntryParts). IsToldSoFar P x.generation told w.frames t (run_of o) (left_of o departed)) (sym fresh)
            (subst (λ gs. IsToldSoFar P x.generation told w.frames t None gs) (sym (append-nil (departed_items x departed) ∙ same))
            (dropped P still x told w.frames t (run_of e) (departed_items x w.departed) (filter (is_gone_of x) e.effects.gone) is.so_far));
      }
    ]

    documented : (d : Document) → IsNumbered d → IsRunSoFar told (with_document w d)
    documented d numbered = with_entry d w.departed numbered refl

    -- ---- an element is removed

    departed_more : (more : List (ℕ × Gone)) → departed_items x (w.departed ++ more) ≡ departed_items x w.departed ++ departed_items x more
    departed_more more =
        ap (λ ds. filter (is_gone_of x) (map (λ (d : ℕ × Gone). d.1) ds)) (filter-append (λ d. nat_eq d.0 n) w.departed more)
        ∙ ap (filter (is_gone_of x)) (map-append (λ (d : ℕ × Gone). d.1) (filter (λ d. nat_eq d.0 n) w.departed) (filter (λ d. nat_eq d.0 n) more))
        ∙ filter-append (is_gone_of x) (map (λ (d : ℕ × Gone). d.1) (filter (λ d. nat_eq d.0 n) w.departed)) (map (λ (d : ℕ × Gone). d.1) (filter (λ d. nat_eq d.0 n) more))

    only_among : (ns : List ℕ) → are_apart ns ≡ true → filter (λ m. nat_eq m n) ns ≡ (if is_among n ns then n ∷ [] else [])
    only_among [] apart = refl
    only_among (m ∷ ns) apart =
        let parts = and_parts (not (is_among m ns)) (are_apart ns) apart in
        elim (cases_Bool (nat_eq m n)) [
          | inl same ↦
              let away : is_among n ns ≡ false = ap (λ k. is_among k ns) (sym (eqb-true m n same)) ∙ not_true (is_among m ns) parts.0 in
              rw same (ap (λ ks. m ∷ ks) (only_among ns parts.1 ∙ ap (λ b. if b then n ∷ [] else []) away) ∙ ap (λ k. k ∷ []) (eqb-true m n same))
          | inr differ ↦ rw differ (only_among ns parts.1)
        ]

    pairs_back : (gs : List Gone) → map (λ (d : ℕ × Gone). d.1) (map (λ g. (n, g)) gs) ≡ gs
    pairs_back [] = refl
    pairs_back (g ∷ gs) = ap (λ hs. g ∷ hs) (pairs_back gs)

    departing : (ns : List ℕ) (b : Bool) → are_apart ns ≡ true → is_among n ns ≡ b
        → departed_items x (all_departed_of w.entries w.time ns) ≡ (if b then filter (is_gone_of x) (all_gone_at w.time e.effects) else [])
    departing ns b apart among =
        ap (λ ds. filter (is_gone_of x) (map (λ (d : ℕ × Gone). d.1) ds))
        (flat_without (λ d. nat_eq d.0 n) (departed_of w.entries w.time) (λ m. nat_eq m n) ns (λ m differ.
        none_mapped (λ (d : ℕ × Gone). nat_eq d.0 n) (λ g. (m, g)) (all_gone_at w.time (entry_for w.entries m).effects) (λ g. differ))
        ∙ ap (λ ms. filter (λ (d : ℕ × Gone). nat_eq d.0 n) (flat_map (departed_of w.entries w.time) ms)) (only_among ns apart ∙ ap (λ b. if b then n ∷ [] else []) among))
        ∙ by_test b
      where
        by_test : (b : Bool) → filter (is_gone_of x) (map (λ (d : ℕ × Gone). d.1) (filter (λ (d : ℕ × Gone). nat_eq d.0 n) (flat_map (departed_of w.entries w.time) (if b then n ∷ [] else []))))
            ≡ (if b then filter (is_gone_of x) (all_gone_at w.time e.effects) else [])
        by_test true =
            ap (λ ds. filter (is_gone_of x) (map (λ (d : ℕ × Gone). d.1) (filter (λ (d : ℕ × Gone). nat_eq d.0 n) ds))) (append-nil (departed_of w.entries w.time n))
            ∙ ap (λ ds. filter (is_gone_of x) (map (λ (d : ℕ × Gone). d.1) ds))
            (all_mapped (λ (d : ℕ × Gone). nat_eq d.0 n) (λ g. (n, g)) (all_gone_at w.time e.effects) (λ g. eq-eqb n n refl))
            ∙ ap (filter (is_gone_of x)) (pairs_back (all_gone_at w.time e.effects))
        by_test false = refl

    all_gone : filter (is_gone_of x) (all_gone_at w.time e.effects) ≡ filter (is_gone_of x) e.effects.gone ++ cancelled_now x t (run_of e)
    all_gone =
        filter-append (is_gone_of x) (e.effects.gone ++ all_cancelled e.effects.transitions t) (map (cancelled_animation w.time) e.effects.animations)
        ∙ ap (λ gs. filter (is_gone_of x) (e.effects.gone ++ all_cancelled e.effects.transitions t) ++ gs)
        (none_mapped (is_gone_of x) (cancelled_animation w.time) e.effects.animations (λ a. animation_item x w.time a))
        ∙ append-nil (filter (is_gone_of x) (e.effects.gone ++ all_cancelled e.effects.transitions t))
        ∙ filter-append (is_gone_of x) e.effects.gone (all_cancelled e.effects.transitions t)
        ∙ ap (λ gs. filter (is_gone_of x) e.effects.gone ++ gs) (cancelled_items x t e.effects.transitions is.once)

    module _ (m : ℕ) where
      abbrev numbers : List ℕ
      numbers = numbers_of (subtree_of w.document.elements m)

      abbrev departed' : List (ℕ × Gone)
      departed' = w.departed ++ all_departed_of w.entries w.time numbers

      abbrev d' : Document
      d' = without w.document m

      apart_there : are_apart numbers ≡ true
      apart_there = apart_in_fewer (λ y. is_inclusive_descendant w.document.elements m y.number) w.document.elements is.numbered.apart

      stays_there : is_among n numbers ≡ false → departed_items x departed' ≡ departed_items x w.departed
      stays_there away =
          departed_more (all_departed_of w.entries w.time numbers) ∙ ap (λ gs. departed_items x w.departed ++ gs) (departing numbers false apart_there away)
          ∙ append-nil (departed_items x w.departed)

      goes_away : is_among n numbers ≡ true → IsRunSoFar told (without_element w m)
      goes_away among = record {
        numbered = with_fewer w.document m is.numbered;
        order = order_of_entries d' w.entries;
        once = subst (λ (o : EntryParts). IsOnce x.property o.effects.transitions.running) (sym fresh) refl;
        so_far =
            subst (λ (o : EntryParts). IsToldSoFar P x.generation told w.frames t (run_of o) (left_of o departed')) (sym fresh)
            (subst (λ gs. IsToldSoFar P x.generation told w.frames t None gs) (sym left)
            (removed P still x told w.frames t (run_of e) (left_of e w.departed) is.so_far));
      }
        where
          fresh : entry_for (entries_of d' w.entries) n ≡ fresh_entry
          fresh =
              fresh_in w.entries n d' (away_where_passing (is_inclusive_descendant w.document.elements m) n w.document.elements
              (among_passing (is_inclusive_descendant w.document.elements m) n w.document.elements among))

          left : departed_items x departed' ++ [] ≡ left_of e w.departed ++ cancelled_now x t (run_of e)
          left =
              append-nil (departed_items x departed') ∙ departed_more (all_departed_of w.entries w.time numbers)
              ∙ ap (λ gs. departed_items x w.departed ++ gs) (departing numbers true apart_there among ∙ all_gone)
              ∙ sym (append_assoc (departed_items x w.departed) (filter (is_gone_of x) e.effects.gone) (cancelled_now x t (run_of e)))

      pub without_it : IsRunSoFar told (without_element w m)
      without_it = elim (cases_Bool (is_among n numbers)) [
        | inl among ↦ goes_away among
        | inr away ↦ with_entry d' departed' (with_fewer w.document m is.numbered) (stays_there away)
      ]

    -- ---- all edits

    no_fault : (fault : Option TreeFault) → option_map refusal_of_tree fault ≡ None → fault ≡ None
    no_fault None accepted = refl
    no_fault (Some f) accepted = cc

    changed : (m : ℕ) (change : Element → Element) → ((y : Element) → (change y).number ≡ y.number)
        → IsRunSoFar told (with_document w (record w.document { elements = map (λ y. if nat_eq y.number m then change y else y) w.document.elements }))
    changed m change same = documented _ (with_the_same w.document m change same is.numbered)

    same_sheet : (k : ℕ) (found : Result (Option SheetRules) CssFault) → IsRunSoFar told (with_sheet w k found)
    same_sheet k (Ok sheet) = record { numbered = is.numbered; order = is.order; once = is.once; so_far = is.so_far }
    same_sheet k (Err fault) = is

    no_earlier : (u : Micros) → (if int_lt u.0 w.time.0 then Some (refusal.TimeBack w.time) else None) ≡ None → w.time.0 ≤ℤ u.0
    no_earlier u accepted = go (int_lt u.0 w.time.0) refl accepted
      where
        go : (b : Bool) → int_lt u.0 w.time.0 ≡ b → (if b then Some (refusal.TimeBack w.time) else None) ≡ None → w.time.0 ≤ℤ u.0
        go true before accepted = absurd (cc)
        go false later accepted = grind (arith, ints)

    pub edited_so_far : (c : Command) → refusal_of w c ≡ None → IsRunSoFar told (edited w c)
    edited_so_far Blank accepted = is
    edited_so_far (Add m parent tag) accepted =
        documented _ (with_one_more w.document (last_place w.document parent) (new_element m parent tag) is.numbered
        (unused_where_new w.document m (has_parent parent w.document) parent (no_fault (fault_of_add w.document m parent) accepted)))
    edited_so_far (Insert m sibling tag) accepted =
        documented _ (with_one_more w.document (unwrap_or (position_of sibling w.document) 0) (new_element m (parent_of sibling w.document.elements) tag) is.numbered
        (unused_where_new w.document m (is_in sibling w.document.elements) (parent_of sibling w.document.elements) (no_fault (fault_of_insert w.document m sibling) accepted)))
    edited_so_far (Remove m) accepted = without_it m
    edited_so_far (Id m name) accepted = changed m (λ y. record y { id = name }) (λ y. refl)
    edited_so_far (Class m names) accepted = changed m (λ y. record y { classes = each_once names }) (λ y. refl)
    edited_so_far (Style m text) accepted = changed m (λ y. record y { style = text }) (λ y. refl)
    edited_so_far (Sheet k text) accepted = same_sheet k (sheet_found text)
    edited_so_far (At u) accepted = record {
      numbered = is.numbered;
      order = is.order;
      once = is.once;
      so_far = later P still x told w.frames t u.0 (run_of e) (left_of e w.departed) (no_earlier u accepted) is.so_far;
    }
    edited_so_far Frame accepted = is
    edited_so_far (Get m p) accepted = is
    edited_so_far (Listing m) accepted = is

  -- ---- a command

  none_is : (o : Option Refusal) → is_none o ≡ true → o ≡ None
  none_is None none = refl
  none_is (Some r) none = absurd (false≢true none)

  told_none : (told : List Occurrence) (w : WorldParts) → IsRunSoFar told w → IsRunSoFar (told ++ []) w
  told_none told w is = subst (λ os. IsRunSoFar os w) (sym (append-nil told)) is

  commanded : (told : List Occurrence) (w : WorldParts) (c : Command) → IsRunSoFar told w → refusal_of w c ≡ None → HoldsOf P (run_of (entry_for (world_left_by w c).entries n))
      → IsRunSoFar (told ++ told_of x (events_of_command w c)) (world_left_by w c)
  commanded told w Blank is accepted holding = told_none told w is
  commanded told w (Add m parent tag) is accepted holding = told_none told (edited w (Add m parent tag)) (edited_so_far told w is (Add m parent tag) accepted)
  commanded told w (Insert m sibling tag) is accepted holding = told_none told (edited w (Insert m sibling tag)) (edited_so_far told w is (Insert m sibling tag) accepted)
  commanded told w (Remove m) is accepted holding = told_none told (edited w (Remove m)) (edited_so_far told w is (Remove m) accepted)
  commanded told w (Id m name) is accepted holding = told_none told (edited w (Id m name)) (edited_so_far told w is (Id m name) accepted)
  commanded told w (Class m names) is accepted holding = told_none told (edited w (Class m names)) (edited_so_far told w is (Class m names) accepted)
  commanded told w (Style m text) is accepted holding = told_none told (edited w (Style m text)) (edited_so_far told w is (Style m text) accepted)
  commanded told w (Sheet k text) is accepted holding = told_none told (edited w (Sheet k text)) (edited_so_far told w is (Sheet k text) accepted)
  commanded told w (At u) is accepted holding = told_none told (edited w (At u)) (edited_so_far told w is (At u) accepted)
  commanded told w Frame is accepted holding = framed told w is holding
  commanded told w (Get m p) is accepted holding = told_none told w is
  commanded told w (Listing m) is accepted holding = told_none told w is

  -- a command that is refused is no frame
  refused_tells : (w : WorldParts) (c : Command) → is_none (refusal_of w c) ≡ false → told_of x (events_of_command w c) ≡ []
  refused_tells w Blank refused = refl
  refused_tells w (Add m parent tag) refused = refl
  refused_tells w (Insert m sibling tag) refused = refl
  refused_tells w (Remove m) refused = refl
  refused_tells w (Id m name) refused = refl
  refused_tells w (Class m names) refused = refl
  refused_tells w (Style m text) refused = refl
  refused_tells w (Sheet k text) refused = refl
  refused_tells w (At u) refused = refl
  refused_tells w Frame refused = absurd (false≢true (sym refused))
  refused_tells w (Get m p) refused = refl
  refused_tells w (Listing m) refused = refl

  pub one_command : (told : List Occurrence) (w : WorldParts) (c : Command) → IsRunSoFar told w → HoldsOf P (run_of (entry_for (world_after_command w c).entries n))
      → IsRunSoFar (told ++ told_of x (events_of_command w c)) (world_after_command w c)
  one_command told w c is = go (is_none (refusal_of w c)) refl
    where
      go : (b : Bool) → is_none (refusal_of w c) ≡ b → HoldsOf P (run_of (entry_for (if b then world_left_by w c else w).entries n))
          → IsRunSoFar (told ++ told_of x (events_of_command w c)) (if b then world_left_by w c else w)
      go true accepted holding = commanded told w c is (none_is (refusal_of w c) accepted) holding
      go false refused holding = subst (λ os. IsRunSoFar os w) (sym (ap (λ os. told ++ os) (refused_tells w c refused) ∙ append-nil told)) is

  -- ---- a run

  pub told_in_turn : (a b : List Event) → told_of x (a ++ b) ≡ told_of x a ++ told_of x b
  told_in_turn a b =
      ap (map occurrence_told) (filter-append (is_event_of x) a b) ∙ map-append occurrence_told (filter (is_event_of x) a) (filter (is_event_of x) b)

  -- it holds of what runs after each command
  abbrev pub HoldsAlong : WorldParts → List Command → Type 0
  HoldsAlong w [] = ⊤
  HoldsAlong w (c ∷ cs) = HoldsOf P (run_of (entry_for (world_after_command w c).entries n)) × HoldsAlong (world_after_command w c) cs

  pub run_course : (cs : List Command) (told : List Occurrence) (w : WorldParts) → IsRunSoFar told w → HoldsAlong w cs
      → IsCourse P x.generation (told ++ told_of x (events_of_run w cs))
  unfolding events_of_run
  run_course [] told w is along =
      subst (IsCourse P x.generation) (sym (append-nil told))
      (course_so_far P x.generation w.frames told w.time.0 (run_of (entry_for w.entries n)) (left_of (entry_for w.entries n) w.departed) is.so_far)
  run_course (c ∷ cs) told w is along =
      subst (IsCourse P x.generation)
      (append_assoc told (told_of x (events_of_command w c)) (told_of x (events_of_run (world_after_command w c) cs))
      ∙ ap (λ os. told ++ os) (sym (told_in_turn (events_of_command w c) (events_of_run (world_after_command w c) cs))))
      (run_course cs (told ++ told_of x (events_of_command w c)) (world_after_command w c) (one_command told w c is along.0) along.1)

-- ---- what runs

run_is : (o : Option Transition) → HoldsOf (λ r. (seen : Phase) × (o ≡ Some (record r { seen = seen }))) o
run_is None = tt
run_is (Some r) = (r.seen, refl)

holds_more : (P Q : Transition → Type 0) (o : Option Transition) → ((r : Transition) → P r → Q r) → HoldsOf P o → HoldsOf Q o
holds_more P Q None more holds = tt
holds_more P Q (Some r) more holds = more r holds

-- the world after one command more
next_runs : (w : WorldParts) (c : Command) (cs : List Command) (x : TransitionName) (r : Transition) → HasRun (world_after_command w c) cs x r → HasRun w (c ∷ cs) x r
unfolding world_after_run
next_runs w c cs x r is = (suc is.0, is.1, is.2)

first_runs : (w : WorldParts) (cs : List Command) (x : TransitionName) (r : Transition)
    → ((seen : Phase) × (running_of (entry_for w.entries x.element).effects.transitions x.property ≡ Some (record r { seen = seen }))) → HasRun w cs x r
unfolding world_after_run
first_runs w cs x r is = (0, is.0, is.1)

module _ (P : Transition → Type 0) (still : (r : Transition) (t : ℤ) → P r → P (seen_in t r)) (x : TransitionName) where
  runs_along : (w : WorldParts) (cs : List Command) → ((r : Transition) → HasRun w cs x r → P r) → HoldsAlong P still x w cs
  runs_along w [] all = tt
  runs_along w (c ∷ cs) all = (
    holds_more (λ r. (seen : Phase) × (running_of (entry_for (world_after_command w c).entries x.element).effects.transitions x.property ≡ Some (record r { seen = seen }))) P
        (running_of (entry_for (world_after_command w c).entries x.element).effects.transitions x.property)
        (λ r is. all r (next_runs w c cs x r (first_runs (world_after_command w c) cs x r is)))
        (run_is (running_of (entry_for (world_after_command w c).entries x.element).effects.transitions x.property)),
    runs_along (world_after_command w c) cs (λ r is. all r (next_runs w c cs x r is)),
  )

pub whole_run : (cs : List Command) (x : TransitionName) → IsCourse (HasRun new_world cs x) x.generation (told_of x (events_of_run new_world cs))
whole_run cs x =
    let still : (r : Transition) (t : ℤ) → HasRun new_world cs x r → HasRun new_world cs x (seen_in t r) = λ r t is. is in
    run_course (HasRun new_world cs x) still x cs [] new_world (new_so_far (HasRun new_world cs x) still x)
    (runs_along (HasRun new_world cs x) still x new_world cs (λ r is. is))
