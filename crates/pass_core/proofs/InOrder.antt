-- A pass in the order of its plan is a schedule of it.
use Rattle.std.proofs.Common.{◌≡◌, ℕ, zero, suc, ◌+◌, ◌<◌, refl, ap, sym, ◌∙◌, subst, arith, List, ◌∷◌, [], ◌++◌, length, take, map, get_or, Bool, true, false, not, ◌&&◌, ◌||◌, Option, Some, None, eq-eqb}
use Rattle.std.specs.Prelude.{is_some, slice_get, option_map, IfSome, nat_lt}
use Rattle.std.specs.List.{list_all, list_any}
use Rattle.std.specs.Option.{option_and_then, option_map_or}
use Rattle.std.proofs.lemmas.List.{length-map, length-take-le, map-append, take_all, take_more}
use Rattle.std.proofs.lemmas.List.Folds.{list_all_at}
use Rattle.std.proofs.lemmas.Option.{slice_get-get_or}
use Rattle.pass_core.specs.Work.{Meaning, down_of}
use Rattle.pass_core.specs.Plans.{differ, is_proper, parents_stand_before, planned_place, subtrees_end}
use Rattle.pass_core.specs.Passes.{IsPassOutcome, PassState, after_event, after_events, are_allowed, are_distinct, handed_to, have_entries, is_allowed, is_done, is_done_at, outcome_at, state_of, update_all, updates, value_for, with_outcome}
use Rattle.pass_core.specs.declared.event.CoreEvent.{CoreEvent}
use Rattle.pass_core.specs.declared.event.CoreEvent.TheVariants.{Update}
use Rattle.pass_core.specs.declared.plan.Place.{Place}
use Rattle.pass_core.specs.declared.step.Step.{Step}
use Rattle.pass_core.specs.declared.step.Step.TheVariants.{Updated, Kept}
use Rattle.pass_core.proofs.Passing.{done_some}
use Rattle.pass_core.proofs.Planned.{both_true, planned_place-slice_get}
use Rattle.pass_core.proofs.Schedules.{after-push, allowed-push, differs_in, event_entries, whole_outcome}
use Rattle.pass_core.proofs.Indexes.{distinct_push, distinct_with_value, done_at, undone_at}

-- what is handed down to a place, where all places before it are done in their order
abbrev pub handed_at : {E D : Type 0} → Meaning E D → List (ℕ × D) → Place → Option D
handed_at m done p = option_map_or (λ i. option_map (λ x. x.1) (slice_get done i)) p.parent (Some m.top)

-- the outcome of the update of its element
abbrev pub outcome_of : {E D : Type 0} → Meaning E D → PassState E D → Place → Option (Step E D)
outcome_of m st p = option_and_then (λ x. option_map (λ d. m.outcome p.element x d) (handed_at m st.done p)) (value_for st.entries p.element)

-- what all have, the one at an index has
all_at : (p : Place → Bool) (ps : List Place) (i : ℕ) (d : Place) → i < length ps → list_all p ps ≡ true → p (get_or ps i d) ≡ true
all_at p ps i d within all = go (p (get_or ps i d)) refl where
  go : (b : Bool) → p (get_or ps i d) ≡ b → p (get_or ps i d) ≡ true
  go true is = is
  go false is = let h : true ≡ false = sym all ∙ list_all_at p ps i d within is in cc

-- ---- the first places

-- the updates of these places, in their order
abbrev pub updates_of : List Place → List CoreEvent
updates_of ps = map (λ p. Update p.element) ps

-- the first i places of the plan are done
pub record Passed {E D : Type 0} (m : Meaning E D) (places : List Place) (opening : List (ℕ × E)) (i : ℕ) (entries : List (ℕ × E)) (done : List (ℕ × D)) : Type 0 where
  pub state : state_of entries done ≡ after_events m places (state_of opening []) (updates_of (take i places))
  pub allowed : are_allowed m places (state_of opening []) (updates_of (take i places)) ≡ true
  pub elements : map (λ x. x.0) done ≡ map (λ p. p.element) (take i places)
  pub distinct : are_distinct entries ≡ true
  pub once : are_distinct done ≡ true
  pub have : have_entries places entries ≡ true

pub nothing_passed : {E D : Type 0} (m : Meaning E D) (places : List Place) (opening : List (ℕ × E)) → are_distinct opening ≡ true → have_entries places opening ≡ true
    → Passed m places opening 0 opening []
nothing_passed m places opening distinct have = record { state = refl; allowed = refl; elements = refl; distinct = distinct; once = refl; have = have }

-- a parent stands before its children
pub parent_before : (places : List Place) (n i : ℕ) (d : Place) → parents_stand_before n places ≡ true → i < length places → IfSome (get_or places i d).parent (λ j. j < n + i)
parent_before [] n i d before within = absurd (omega (arith, within))
parent_before (p ∷ ps) n zero d before within = go p.parent (both_true (option_map_or (λ j. nat_lt j n) p.parent true) (parents_stand_before (n + 1) ps) before).0 where
  go : (o : Option ℕ) → option_map_or (λ j. nat_lt j n) o true ≡ true → IfSome o (λ j. j < n + 0)
  go None is = tt
  go (Some j) is = grind arith
parent_before (p ∷ ps) n (suc i) d before within = go (get_or ps i d).parent (parent_before ps (n + 1) i d (both_true (option_map_or (λ j. nat_lt j n) p.parent true) (parents_stand_before (n + 1) ps) before).1 (omega (arith, within))) where
  go : (o : Option ℕ) → IfSome o (λ j. j < n + 1 + i) → IfSome o (λ j. j < n + suc i)
  go None is = tt
  go (Some j) is = omega (arith, is)

pub parents_in : (places : List Place) → is_proper places ≡ true → parents_stand_before 0 places ≡ true
parents_in places proper = (both_true (parents_stand_before 0 places) (subtrees_end places 0 places) (both_true (differ places) (parents_stand_before 0 places && subtrees_end places 0 places) proper).1).0

module _ {E D : Type 0} (m : Meaning E D) (places : List Place) (opening : List (ℕ × E)) (i : ℕ) (es : List (ℕ × E)) (ds : List (ℕ × D)) (passed : Passed m places opening i es ds)
    (proper : is_proper places ≡ true) (within : i < length places) (d : Place) where
  pub done_count : length ds ≡ i
  done_count = sym (length-map ds (λ x. x.0)) ∙ ap length passed.elements ∙ length-map (take i places) (λ p. p.element) ∙ length-take-le i places (omega (arith, within))

  pub entry_there : (x : E) × (value_for es (get_or places i d).element ≡ Some x)
  entry_there = done_some (value_for es (get_or places i d).element) (all_at (λ p. is_some (value_for es p.element)) places i d within passed.have)

  planned : planned_place places (get_or places i d).element ≡ Some (get_or places i d)
  planned = planned_place-slice_get places i (get_or places i d) (differs_in places proper) (slice_get-get_or places i d within)

  undone : value_for ds (get_or places i d).element ≡ None
  undone = undone_at places ds i d (differs_in places proper) within passed.elements

  -- what the place is handed, by its parent's index and by its parent's element
  pub record HandedAlike : Type 0 where
    pub down : D
    pub at : handed_at m ds (get_or places i d) ≡ Some down
    pub to : handed_to m places ds (get_or places i d) ≡ Some down
    pub parent : option_map_or (is_done_at places ds) (get_or places i d).parent true ≡ true

  pub handed_alike : HandedAlike
  handed_alike = go (get_or places i d).parent refl (parent_before places 0 i d (parents_in places proper) within) where
    go : (o : Option ℕ) → (get_or places i d).parent ≡ o → IfSome o (λ j. j < 0 + i) → HandedAlike
    go None is before = record {
      down = m.top;
      at = ap (λ o. option_map_or (λ j. option_map (λ x. x.1) (slice_get ds j)) o (Some m.top)) is;
      to = ap (λ o. option_map_or (λ j. option_and_then (λ (q : Place). value_for ds q.element) (slice_get places j)) o (Some m.top)) is;
      parent = ap (λ o. option_map_or (is_done_at places ds) o true) is;
    }
    go (Some j) is before =
        let less : j < i = omega (arith, before) in
        let done = done_at places ds i j d passed.once less (omega (arith, within)) passed.elements in
        let there = slice_get-get_or places j d (omega (arith, less, within)) in
        record {
          down = done.down;
          at = ap (λ o. option_map_or (λ j. option_map (λ x. x.1) (slice_get ds j)) o (Some m.top)) is ∙ done.here;
          to =
              ap (λ o. option_map_or (λ j. option_and_then (λ (q : Place). value_for ds q.element) (slice_get places j)) o (Some m.top)) is
              ∙ ap (option_and_then (λ (q : Place). value_for ds q.element)) there ∙ done.element;
          parent =
              ap (λ o. option_map_or (is_done_at places ds) o true) is
              ∙ ap (λ o. option_map_or (λ (q : Place). is_done ds q.element) o false) there ∙ ap is_some done.element;
        }

  may_come : is_allowed places ds (Update (get_or places i d).element) ≡ true
  may_come =
      ap (λ o. option_map_or (λ (p : Place). not (is_done ds (get_or places i d).element) && option_map_or (is_done_at places ds) p.parent true) o false) planned
      ∙ ap (λ o. not (is_some o) && option_map_or (is_done_at places ds) (get_or places i d).parent true) undone ∙ handed_alike.parent

  -- the update of the place, by the indexes and by the elements
  event_is : (s : Step E D) → outcome_of m (state_of es ds) (get_or places i d) ≡ Some s
      → after_event m places (state_of es ds) (Update (get_or places i d).element) ≡ with_outcome (state_of es ds) (get_or places i d).element s
  event_is s is =
      let e = (get_or places i d).element in
      let x = entry_there in
      let alike = handed_alike in
      let by_index : outcome_of m (state_of es ds) (get_or places i d) ≡ Some (m.outcome e x.0 alike.down) =
      ap (option_and_then (λ y. option_map (λ w. m.outcome e y w) (handed_at m ds (get_or places i d)))) x.1 ∙ ap (option_map (λ w. m.outcome e x.0 w)) alike.at in
      let by_element : outcome_at m places (state_of es ds) e ≡ Some (m.outcome e x.0 alike.down) =
      ap (option_and_then (λ y. option_and_then (λ p. option_map (λ w. m.outcome e y w) (handed_to m places ds p)) (planned_place places e))) x.1
      ∙ ap (option_and_then (λ p. option_map (λ w. m.outcome e x.0 w) (handed_to m places ds p))) planned ∙ ap (option_map (λ w. m.outcome e x.0 w)) alike.to in
      let same : outcome_at m places (state_of es ds) e ≡ Some s = by_element ∙ sym by_index ∙ is in
      ap (λ o. option_map_or (with_outcome (state_of es ds) e) o (state_of es ds)) same

  -- the outcome of its update
  abbrev pub result_of : Step E D
  result_of = m.outcome (get_or places i d).element entry_there.0 handed_alike.down

  outcome_there : outcome_of m (state_of es ds) (get_or places i d) ≡ Some result_of
  outcome_there =
      ap (option_and_then (λ y. option_map (λ w. m.outcome (get_or places i d).element y w) (handed_at m ds (get_or places i d)))) entry_there.1
      ∙ ap (option_map (λ w. m.outcome (get_or places i d).element entry_there.0 w)) handed_alike.at

  pub next_passed : (es' : List (ℕ × E)) (ds' : List (ℕ × D))
      → state_of es' ds' ≡ with_outcome (state_of es ds) (get_or places i d).element result_of → Passed m places opening (i + 1) es' ds'
  next_passed es' ds' noted = go result_of outcome_there noted where
    more : take (i + 1) places ≡ take i places ++ get_or places i d ∷ []
    more = take_more places i d within

    events : updates_of (take (i + 1) places) ≡ updates_of (take i places) ++ Update (get_or places i d).element ∷ []
    events = ap updates_of more ∙ map-append (λ p. Update p.element) (take i places) (get_or places i d ∷ [])

    entries_distinct : (s : Step E D) → are_distinct (with_outcome (state_of es ds) (get_or places i d).element s).entries ≡ true
    entries_distinct (Updated x w) = distinct_with_value es (get_or places i d).element x ∙ passed.distinct
    entries_distinct (Kept w) = passed.distinct

    done_is : (s : Step E D) → (with_outcome (state_of es ds) (get_or places i d).element s).done ≡ ds ++ ((get_or places i d).element, down_of s) ∷ []
    done_is (Updated x w) = refl
    done_is (Kept w) = refl

    go : (s : Step E D) → outcome_of m (state_of es ds) (get_or places i d) ≡ Some s
        → state_of es' ds' ≡ with_outcome (state_of es ds) (get_or places i d).element s → Passed m places opening (i + 1) es' ds'
    go s some noted =
        let e = (get_or places i d).element in
        let st : PassState E D = state_of es ds in
        let event : state_of es' ds' ≡ after_event m places st (Update e) = noted ∙ sym (event_is s some) in
        let pushed : ds' ≡ ds ++ (e, down_of s) ∷ [] = ap (λ (t : PassState E D). t.done) noted ∙ done_is s in
        record {
          state =
              event ∙ ap (λ t. after_event m places t (Update e)) passed.state
              ∙ sym (after-push m places (state_of opening []) (updates_of (take i places)) (Update e)) ∙ ap (after_events m places (state_of opening [])) (sym events);
          allowed =
              ap (are_allowed m places (state_of opening [])) events
              ∙ allowed-push m places (state_of opening []) (updates_of (take i places)) (Update e) passed.allowed
              (ap (λ (t : PassState E D). is_allowed places t.done (Update e)) (sym passed.state) ∙ may_come);
          elements =
              ap (map (λ x. x.0)) pushed ∙ map-append (λ x. x.0) ds ((e, down_of s) ∷ []) ∙ ap (λ l. l ++ e ∷ []) passed.elements
              ∙ sym (map-append (λ p. p.element) (take i places) (get_or places i d ∷ [])) ∙ ap (map (λ p. p.element)) (sym more);
          distinct = ap (λ (t : PassState E D). are_distinct t.entries) noted ∙ entries_distinct s;
          once = ap are_distinct pushed ∙ distinct_push ds e (down_of s) passed.once undone;
          have = ap (λ (t : PassState E D). have_entries places t.entries) event ∙ event_entries m places st (Update e) passed.have;
        }

-- ---- the whole plan

pub whole_passed : {E D : Type 0} (m : Meaning E D) (places : List Place) (opening : List (ℕ × E)) (i : ℕ) (es : List (ℕ × E)) (ds : List (ℕ × D)) → Passed m places opening i es ds
    → is_proper places ≡ true → have_entries places opening ≡ true → i ≡ length places → IsPassOutcome m places opening es
whole_passed m places opening i es ds passed proper have all =
    let whole : take i places ≡ places = take_all i places (omega (arith, all)) in
    subst (λ (l : List (ℕ × _)). IsPassOutcome m places opening l)
    (ap (λ (t : PassState _ _). t.entries) (sym (passed.state ∙ ap (λ ps. after_events m places (state_of opening []) (updates_of ps)) whole)))
    (whole_outcome m places (state_of opening []) (updates_of places) proper have
    (ap (λ ps. are_allowed m places (state_of opening []) (updates_of ps)) (sym whole) ∙ passed.allowed) refl (each_updated places))
  where
    kept : (ps : List Place) (q : Place) (es : List CoreEvent) → list_all (λ p. list_any (updates p.element) es) ps ≡ true
        → list_all (λ p. list_any (updates p.element) (Update q.element ∷ es)) ps ≡ true
    kept [] q es h = refl
    kept (p ∷ ps) q es h =
        let parts = both_true (list_any (updates p.element) es) (list_all (λ r. list_any (updates r.element) es) ps) h in
        first (updates p.element (Update q.element)) parts.0 (kept ps q es parts.1)
      where
        first : (b : Bool) → list_any (updates p.element) es ≡ true → list_all (λ r. list_any (updates r.element) (Update q.element ∷ es)) ps ≡ true
            → ((b || list_any (updates p.element) es) && list_all (λ r. list_any (updates r.element) (Update q.element ∷ es)) ps) ≡ true
        first true here rest = rest
        first false here rest = ap (λ c. c && list_all (λ r. list_any (updates r.element) (Update q.element ∷ es)) ps) here ∙ rest

    each_updated : (ps : List Place) → update_all ps (updates_of ps) ≡ true
    each_updated [] = refl
    each_updated (p ∷ ps) =
        ap (λ b. (b || list_any (updates p.element) (updates_of ps)) && list_all (λ r. list_any (updates r.element) (updates_of (p ∷ ps))) ps) (eq-eqb p.element p.element refl)
        ∙ kept ps p (updates_of ps) (each_updated ps)
