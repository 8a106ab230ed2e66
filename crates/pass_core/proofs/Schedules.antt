-- Whole schedules.
use Rattle.std.proofs.Common.{◌≡◌, ℕ, ◌+◌, ◌<◌, eqb, refl, arith, ap, subst, sym, ◌∙◌, List, ◌∷◌, [], ◌++◌, length, take, drop, get_or, Bool, true, false, ◌&&◌, ◌||◌, ◌⊎◌, inl, inr, Option, Some, None}
use Rattle.std.specs.Prelude.{is_some}
use Rattle.std.specs.Option.{option_map_or}
use Rattle.std.specs.List.{list_all, list_any}
use Rattle.std.proofs.lemmas.Bool.{eqb-false, eqb-true}
use Rattle.std.proofs.lemmas.List.{drop_more, take_all, take_more}
use Rattle.pass_core.specs.Work.{Meaning, down_of}
use Rattle.pass_core.specs.Plans.{differ, is_proper, parents_stand_before, planned_place, subtrees_end}
use Rattle.pass_core.specs.Passes.{IsPass, IsPassOutcome, IsResult, PassState, after_event, after_events, are_allowed, have_entries, is_allowed, outcome_at, update_all, updates, value_for, with_outcome, with_value}
use Rattle.pass_core.specs.declared.event.CoreEvent.{CoreEvent}
use Rattle.pass_core.specs.declared.event.CoreEvent.TheVariants.{Update, Refuse}
use Rattle.pass_core.specs.declared.plan.Place.{Place}
use Rattle.pass_core.specs.declared.step.Step.{Step}
use Rattle.pass_core.specs.declared.step.Step.TheVariants.{Updated, Kept}
use Rattle.pass_core.proofs.ListsByElement.{value_for-append_none, value_for-append_some, value_for-lone, value_for-with_value_other, value_for-with_value_same}
use Rattle.pass_core.proofs.Planned.{both_true, planned_place-element, planned_place-first, some_none}
use Rattle.pass_core.proofs.Passing.{begins, comes, done_some, event_keeps, events_keep}

pub differs_in : (places : List Place) → is_proper places ≡ true → differ places ≡ true
differs_in places proper = (both_true (differ places) (parents_stand_before 0 places && subtrees_end places 0 places) proper).0

-- ---- entries stay

noted_entry : {E D : Type 0} (st : PassState E D) (n : ℕ) (s : Step E D) (e : ℕ) (x : E) → value_for st.entries e ≡ Some x
    → (y : E) × (value_for (with_outcome st n s).entries e ≡ Some y)
noted_entry st n (Kept d) e x is = (x, is)
noted_entry st n (Updated new d) e x is = by_number (eqb n e) refl
  where
    by_number : (b : Bool) → eqb n e ≡ b → (y : _) × (value_for (with_value st.entries n new) e ≡ Some y)
    by_number true same =
        let e_is = eqb-true n e same in
        (new, ap (value_for (with_value st.entries n new)) (sym e_is) ∙ value_for-with_value_same st.entries n new x (ap (value_for st.entries) e_is ∙ is))
    by_number false other = (x, value_for-with_value_other st.entries n e new (eqb-false n e other) ∙ is)

outcome_entry : {E D : Type 0} (st : PassState E D) (n : ℕ) (o : Option (Step E D)) (e : ℕ) (x : E) → value_for st.entries e ≡ Some x
    → (y : E) × (value_for (option_map_or (with_outcome st n) o st).entries e ≡ Some y)
outcome_entry st n None e x is = (x, is)
outcome_entry st n (Some s) e x is = noted_entry st n s e x is

pub event_entry : {E D : Type 0} (m : Meaning E D) (places : List Place) (st : PassState E D) (event : CoreEvent) (e : ℕ) (x : E) → value_for st.entries e ≡ Some x
    → (y : E) × (value_for (after_event m places st event).entries e ≡ Some y)
event_entry m places st (Update n) e x is = outcome_entry st n (outcome_at m places st n) e x is
event_entry m places st (Refuse n) e x is = (x, is)

all_weaker : {X : Type 0} (p q : X → Bool) → ((x : X) → p x ≡ true → q x ≡ true) → (xs : List X) → list_all p xs ≡ true → list_all q xs ≡ true
all_weaker p q weaker [] is = refl
all_weaker p q weaker (x ∷ xs) is =
    let parts = both_true (p x) (list_all p xs) is in
    rw (weaker x parts.0, all_weaker p q weaker xs parts.1) refl

pub event_entries : {E D : Type 0} (m : Meaning E D) (places : List Place) (st : PassState E D) (event : CoreEvent) → have_entries places st.entries ≡ true
    → have_entries places (after_event m places st event).entries ≡ true
event_entries m places st event have =
    all_weaker (λ (p : Place). is_some (value_for st.entries p.element)) (λ (p : Place). is_some (value_for (after_event m places st event).entries p.element))
    (λ p is. let x = done_some (value_for st.entries p.element) is in ap is_some (event_entry m places st event p.element x.0 x.1).1) places have

-- ---- what is done stays done

noted_done : {E D : Type 0} (st : PassState E D) (n : ℕ) (s : Step E D) (e : ℕ) (d : D) → value_for st.done e ≡ Some d → value_for (with_outcome st n s).done e ≡ Some d
noted_done st n (Updated x down) e d is = value_for-append_some st.done ((n, down) ∷ []) e d is
noted_done st n (Kept down) e d is = value_for-append_some st.done ((n, down) ∷ []) e d is

outcome_done : {E D : Type 0} (st : PassState E D) (n : ℕ) (o : Option (Step E D)) (e : ℕ) (d : D) → value_for st.done e ≡ Some d
    → value_for (option_map_or (with_outcome st n) o st).done e ≡ Some d
outcome_done st n None e d is = is
outcome_done st n (Some s) e d is = noted_done st n s e d is

event_done : {E D : Type 0} (m : Meaning E D) (places : List Place) (st : PassState E D) (event : CoreEvent) (e : ℕ) (d : D) → value_for st.done e ≡ Some d
    → value_for (after_event m places st event).done e ≡ Some d
event_done m places st (Update n) e d is = outcome_done st n (outcome_at m places st n) e d is
event_done m places st (Refuse n) e d is = is

events_done : {E D : Type 0} (m : Meaning E D) (places : List Place) (st : PassState E D) (events : List CoreEvent) (e : ℕ) (d : D) → value_for st.done e ≡ Some d
    → value_for (after_events m places st events).done e ≡ Some d
events_done m places st [] e d is = is
events_done m places st (event ∷ events) e d is = events_done m places (after_event m places st event) events e d (event_done m places st event e d is)

-- ---- what is updated is done

noted_now : {E D : Type 0} (st : PassState E D) (e : ℕ) (s : Step E D) → value_for st.done e ≡ None → value_for (with_outcome st e s).done e ≡ Some (down_of s)
noted_now st e (Updated x d) undone = value_for-append_none st.done ((e, d) ∷ []) e undone ∙ value_for-lone e d
noted_now st e (Kept d) undone = value_for-append_none st.done ((e, d) ∷ []) e undone ∙ value_for-lone e d

either_true : (a b : Bool) → (a || b) ≡ true → (a ≡ true) ⊎ (b ≡ true)
either_true true b is = inl refl
either_true false b is = inr is

module _ {E D : Type 0} (m : Meaning E D) (places : List Place) (opening : List (ℕ × E)) (differs : differ places ≡ true) where
  updated_now : (st : PassState E D) (event : CoreEvent) (e : ℕ) (x : E) → IsPass m places opening st → is_allowed places st.done event ≡ true
      → value_for st.entries e ≡ Some x → updates e event ≡ true → (d : D) × (value_for (after_event m places st event).done e ≡ Some d)
  updated_now st (Refuse n) e x pass may entry is = absurd (cc)
  updated_now st (Update n) e x pass may entry is =
      let n_is = eqb-true n e is in
      let c = comes m places opening st n x differs pass may (ap (value_for st.entries) n_is ∙ entry) in (
        down_of c.result,
        ap (value_for (after_event m places st (Update n)).done) (sym n_is)
            ∙ ap (λ o. value_for (option_map_or (with_outcome st n) o st).done n) c.outcome_is ∙ noted_now st n c.result c.undone,
      )

  all_updated : (st : PassState E D) (events : List CoreEvent) (e : ℕ) (x : E) → IsPass m places opening st → are_allowed m places st events ≡ true
      → value_for st.entries e ≡ Some x → list_any (updates e) events ≡ true → (d : D) × (value_for (after_events m places st events).done e ≡ Some d)
  all_updated st [] e x pass may entry is = absurd (cc)
  all_updated st (event ∷ events) e x pass may entry is =
      let parts = both_true (is_allowed places st.done event) (are_allowed m places (after_event m places st event) events) may in
      let more = event_entry m places st event e x entry in
      by_event parts.0 (all_updated (after_event m places st event) events e more.0 (event_keeps m places opening st event differs pass parts.0) parts.1 more.1)
      (either_true (updates e event) (list_any (updates e) events) is)
    where
      by_event : is_allowed places st.done event ≡ true
          → (list_any (updates e) events ≡ true → (d : D) × (value_for (after_events m places (after_event m places st event) events).done e ≡ Some d))
          → (updates e event ≡ true) ⊎ (list_any (updates e) events ≡ true) → (d : D) × (value_for (after_events m places (after_event m places st event) events).done e ≡ Some d)
      by_event may later (inl now) =
          let first = updated_now st event e x pass may entry now in
          (first.0, events_done m places (after_event m places st event) events e first.0 first.1)
      by_event may later (inr rest) = later rest

-- what holds of each place holds of the place of an element
at_place : (p : Place → Bool) (ps : List Place) (e : ℕ) (q : Place) → planned_place ps e ≡ Some q → list_all p ps ≡ true → p q ≡ true
at_place p [] e q is all = absurd (cc)
at_place p (r ∷ ps) e q is all = at_first (eqb r.element e) refl (both_true (p r) (list_all p ps) all) (at_place p ps e q)
  where
    at_first : (b : Bool) → eqb r.element e ≡ b → (p r ≡ true) × (list_all p ps ≡ true) → (planned_place ps e ≡ Some q → list_all p ps ≡ true → p q ≡ true) → p q ≡ true
    at_first true same parts rest =
        let here : Some r ≡ Some q = sym (planned_place-first r ps e true same) ∙ is in
        let r_is : r ≡ q = cc in ap p (sym r_is) ∙ parts.0
    at_first false other parts rest = rest (sym (planned_place-first r ps e false other) ∙ is) parts.1

-- a pass that has done the whole plan has its outcome
outcome_when_done : {E D : Type 0} (m : Meaning E D) (places : List Place) (opening : List (ℕ × E)) (st : PassState E D) → IsPass m places opening st
    → ((e : ℕ) (p : Place) → planned_place places e ≡ Some p → (d : D) × (value_for st.done e ≡ Some d)) → IsPassOutcome m places opening st.entries
outcome_when_done m places opening st pass all = record {
  elements = pass.elements;
  planned = λ e p is.
      let d = all e p is in
      let done = pass.updated e d.0 d.1 in
      let same : Some done.place ≡ Some p = sym done.planned ∙ is in
      let place_is : done.place ≡ p = cc in
      (done.result, subst (λ q. IsResult m places opening q done.result) place_is done.result_is, done.entry_is);
  others = λ e none. pass.others e (undone e (value_for st.done e) refl none);
}
  where
    undone : (e : ℕ) (o : Option _) → value_for st.done e ≡ o → planned_place places e ≡ None → value_for st.done e ≡ None
    undone e None was none = was
    undone e (Some d) was none = absurd (some_none (planned_place places e) (pass.updated e d was).place (pass.updated e d was).planned none)

pub whole_outcome : {E D : Type 0} (m : Meaning E D) (places : List Place) (st : PassState E D) (events : List CoreEvent) → is_proper places ≡ true
    → have_entries places st.entries ≡ true → are_allowed m places st events ≡ true → st.done ≡ [] → update_all places events ≡ true
    → IsPassOutcome m places st.entries (after_events m places st events).entries
whole_outcome m places st events proper have may nothing all =
    let differs = differs_in places proper in
    let start = begins m places st nothing in
    outcome_when_done m places st.entries (after_events m places st events) (events_keep m places st.entries st events differs start may)
    (λ e p is.
    let element = planned_place-element places e p is in
    let x = done_some (value_for st.entries p.element) (at_place (λ q. is_some (value_for st.entries q.element)) places e p is have) in
    let comes : list_any (updates e) events ≡ true =
    ap (λ n. list_any (updates n) events) (sym element) ∙ at_place (λ q. list_any (updates q.element) events) places e p is all in
    all_updated m places st.entries differs st events e x.0 start may (ap (value_for st.entries) (sym element) ∙ x.1) comes)

-- ---- a schedule that is carried out

-- so many events were carried out
pub record Running {E D : Type 0} (m : Meaning E D) (places : List Place) (st : PassState E D) (events : List CoreEvent) (i : ℕ) (now : PassState E D) : Type 0 where
  pub now_is : now ≡ after_events m places st (take i events)
  pub so_far : are_allowed m places st (take i events) ≡ true
  pub rest : are_allowed m places now (drop i events) ≡ true
  pub entries : have_entries places now.entries ≡ true

pub after-push : {E D : Type 0} (m : Meaning E D) (places : List Place) (st : PassState E D) (events : List CoreEvent) (event : CoreEvent)
    → after_events m places st (events ++ event ∷ []) ≡ after_event m places (after_events m places st events) event
after-push m places st [] event = refl
after-push m places st (first ∷ events) event = after-push m places (after_event m places st first) events event

pub allowed-push : {E D : Type 0} (m : Meaning E D) (places : List Place) (st : PassState E D) (events : List CoreEvent) (event : CoreEvent)
    → are_allowed m places st events ≡ true → is_allowed places (after_events m places st events).done event ≡ true → are_allowed m places st (events ++ event ∷ []) ≡ true
allowed-push m places st [] event may here = rw here refl
allowed-push m places st (first ∷ events) event may here =
    let parts = both_true (is_allowed places st.done first) (are_allowed m places (after_event m places st first) events) may in
    rw (parts.0, allowed-push m places (after_event m places st first) events event parts.1 here) refl

module _ {E D : Type 0} (m : Meaning E D) (places : List Place) (st : PassState E D) (events : List CoreEvent) (i : ℕ) (now : PassState E D) (run : Running m places st events i now) where
  next_parts : (event d : CoreEvent) → i < length events → event ≡ get_or events i d
      → (is_allowed places now.done event ≡ true) × (are_allowed m places (after_event m places now event) (drop (i + 1) events) ≡ true)
  next_parts event d within read =
      let cut : drop i events ≡ event ∷ drop (i + 1) events = drop_more events i d within ∙ ap (λ x. x ∷ drop (i + 1) events) (sym read) in
      both_true (is_allowed places now.done event) (are_allowed m places (after_event m places now event) (drop (i + 1) events)) (ap (are_allowed m places now) (sym cut) ∙ run.rest)

  pub next_allowed : (event d : CoreEvent) → i < length events → event ≡ get_or events i d → is_allowed places now.done event ≡ true
  next_allowed event d within read = (next_parts event d within read).0

  pub next_running : (event d : CoreEvent) (after : PassState E D) → i < length events → event ≡ get_or events i d → after ≡ after_event m places now event
      → Running m places st events (i + 1) after
  next_running event d after within read is =
      let more : take (i + 1) events ≡ take i events ++ event ∷ [] = take_more events i d within ∙ ap (λ x. take i events ++ x ∷ []) (sym read) in
      let parts = next_parts event d within read in
      record {
        now_is = is ∙ ap (λ s. after_event m places s event) run.now_is ∙ sym (after-push m places st (take i events) event) ∙ ap (after_events m places st) (sym more);
        so_far =
            ap (are_allowed m places st) more
            ∙ allowed-push m places st (take i events) event run.so_far (ap (λ s. is_allowed places s.done event) (sym run.now_is) ∙ parts.0);
        rest = ap (λ s. are_allowed m places s (drop (i + 1) events)) is ∙ parts.1;
        entries = ap (λ s. have_entries places s.entries) is ∙ event_entries m places now event run.entries;
      }

  pub running_pass : is_proper places ≡ true → st.done ≡ [] → IsPass m places st.entries now
  running_pass proper nothing =
      subst (IsPass m places st.entries) (sym run.now_is)
      (events_keep m places st.entries st (take i events) (differs_in places proper) (begins m places st nothing) run.so_far)

  pub all_run : i ≡ length events → now ≡ after_events m places st events
  all_run all = run.now_is ∙ ap (after_events m places st) (take_all i events (omega arith))
