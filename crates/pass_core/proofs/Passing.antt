-- Each event of a pass keeps what the pass has to do.
use Rattle.std.proofs.Common.{◌≡◌, ℕ, eqb, refl, ap, subst, sym, ◌∙◌, List, ◌∷◌, [], ◌++◌, map, Bool, true, false, not, ◌&&◌, Option, Some, None}
use Rattle.std.specs.Prelude.{is_some, option_map, slice_get}
use Rattle.std.specs.Option.{option_and_then, option_map_or}
use Rattle.std.proofs.lemmas.Bool.{eqb-true}
use Rattle.std.proofs.lemmas.Bool.{eqb-false}
use Rattle.pass_core.specs.Work.{Meaning, down_of, entry_after}
use Rattle.pass_core.specs.Plans.{differ, planned_place}
use Rattle.pass_core.specs.Passes.{IsDone, IsPass, IsResult, PassState, after_event, handed_to, is_done, is_done_at, may_come, outcome_at, value_for, with_outcome, with_value}
use Rattle.pass_core.specs.Passes as passes
use Rattle.pass_core.specs.declared.event.CoreEvent.{CoreEvent}
use Rattle.pass_core.specs.declared.event.CoreEvent.TheVariants.{Update, Refuse}
use Rattle.pass_core.specs.declared.plan.Place.{Place}
use Rattle.pass_core.specs.declared.step.Step.{Step}
use Rattle.pass_core.specs.declared.step.Step.TheVariants.{Updated, Kept}
use Rattle.pass_core.proofs.ListsByElement.{map-with_value, value_for-append_none, value_for-append_some, value_for-lone, value_for-lone_other, value_for-with_value_other, value_for-with_value_same}
use Rattle.pass_core.proofs.Planned.{both_true, planned_place-element, planned_place-slice_get, some_none}

-- ---- an element that may come

pub record MayCome {D : Type 0} (places : List Place) (done : List (ℕ × D)) (e : ℕ) : Type 0 where
  pub place : Place
  pub planned : planned_place places e ≡ Some place
  pub undone : value_for done e ≡ None
  pub after_parent : option_map_or (is_done_at places done) place.parent true ≡ true

not_done : {D : Type 0} (o : Option D) → not (is_some o) ≡ true → o ≡ None
not_done None is = refl
not_done (Some d) is = absurd (cc)

pub done_some : {D : Type 0} (o : Option D) → is_some o ≡ true → (d : D) × (o ≡ Some d)
done_some None is = absurd (cc)
done_some (Some d) is = (d, refl)

pub mapped_true : {A : Type 0} (f : A → Bool) (o : Option A) → option_map_or f o false ≡ true → (a : A) × (o ≡ Some a) × (f a ≡ true)
mapped_true f None is = absurd (cc)
mapped_true f (Some a) is = (a, refl, is)

pub as_may_come : {D : Type 0} (places : List Place) (done : List (ℕ × D)) (e : ℕ) → may_come places done e ≡ true → MayCome places done e
as_may_come places done e is =
    let there = mapped_true (λ (p : Place). not (is_done done e) && option_map_or (is_done_at places done) p.parent true) (planned_place places e) is in
    let parts = both_true (not (is_done done e)) (option_map_or (is_done_at places done) (there.0).parent true) there.2 in
    record { place = there.0; planned = there.1; undone = not_done (value_for done e) parts.0; after_parent = parts.1 }

-- ---- what is handed down

pub record Handed {E D : Type 0} (m : Meaning E D) (places : List Place) (opening : List (ℕ × E)) (done : List (ℕ × D)) (p : Place) (x : E) : Type 0 where
  pub down : D
  pub handed : handed_to m places done p ≡ Some down
  pub result : IsResult m places opening p (m.outcome p.element x down)

handed_by : {E D : Type 0} (m : Meaning E D) (places : List Place) (opening : List (ℕ × E)) (st : PassState E D) (p : Place) (x : E) (o : Option ℕ) → differ places ≡ true
    → IsPass m places opening st → value_for opening p.element ≡ Some x → p.parent ≡ o → option_map_or (is_done_at places st.done) o true ≡ true
    → Handed m places opening st.done p x
handed_by m places opening st p x None differs pass entry parent is = record {
  down = m.top;
  handed = ap (λ o. option_map_or (λ i. option_and_then (λ (q : Place). value_for st.done q.element) (slice_get places i)) o (Some m.top)) parent;
  result = passes.at_top p x parent entry;
}
handed_by m places opening st p x (Some i) differs pass entry parent is =
    let there = mapped_true (λ (q : Place). is_done st.done q.element) (slice_get places i) is in
    let q = there.0 in
    let down = done_some (value_for st.done q.element) there.2 in
    let done = pass.updated q.element down.0 down.1 in
    let same : Some done.place ≡ Some q = sym done.planned ∙ planned_place-slice_get places i q differs there.1 in
    let place_is : done.place ≡ q = cc in
    record {
      down = down_of done.result;
      handed =
          ap (λ o. option_map_or (λ i. option_and_then (λ (q : Place). value_for st.done q.element) (slice_get places i)) o (Some m.top)) parent
          ∙ ap (λ o. option_and_then (λ (q : Place). value_for st.done q.element) o) there.1 ∙ down.1 ∙ ap Some done.down_is;
      result = passes.below p q i x done.result parent there.1 (subst (λ r. IsResult m places opening r done.result) place_is done.result_is) entry;
    }

-- ---- an outcome that is noted

module _ {E D : Type 0} (m : Meaning E D) (places : List Place) (opening : List (ℕ × E)) (st : PassState E D) (entries : List (ℕ × E)) (e : ℕ) (p : Place) (s : Step E D)
    (pass : IsPass m places opening st) (undone : value_for st.done e ≡ None) (planned : planned_place places e ≡ Some p) (result : IsResult m places opening p s)
    (elements : map (λ x. x.0) entries ≡ map (λ x. x.0) st.entries) (other : (n : ℕ) → (e ≡ n → ⊥) → value_for entries n ≡ value_for st.entries n)
    (own : value_for entries e ≡ option_map (entry_after s) (value_for opening e)) where
  differs : (n : ℕ) (d : D) → value_for st.done n ≡ Some d → e ≡ n → ⊥
  differs n d is same = some_none (value_for st.done n) d is (ap (value_for st.done) (sym same) ∙ undone)

  abbrev now : PassState E D
  now = record { entries = entries; done = st.done ++ (e, down_of s) ∷ [] }

  earlier : (n : ℕ) (d : D) → value_for st.done n ≡ Some d → IsDone m places opening now n d
  earlier n d is =
      let done = pass.updated n d is in
      record {
        place = done.place;
        result = done.result;
        planned = done.planned;
        result_is = done.result_is;
        down_is = done.down_is;
        entry_is = other n (differs n d is) ∙ done.entry_is;
      }

  this : (n : ℕ) (d : D) → e ≡ n → d ≡ down_of s → IsDone m places opening now n d
  this n d same down = record {
    place = p;
    result = s;
    planned = ap (planned_place places) (sym same) ∙ planned;
    result_is = result;
    down_is = down;
    entry_is = ap (value_for entries) (sym same) ∙ own ∙ ap (λ k. option_map (entry_after s) (value_for opening k)) same;
  }

  last_is : (n : ℕ) (d : D) (b : Bool) → eqb e n ≡ b → value_for ((e, down_of s) ∷ []) n ≡ Some d → IsDone m places opening now n d
  last_is n d true same is =
      let e_is = eqb-true e n same in
      let down : Some (down_of s) ≡ Some d = sym (value_for-lone e (down_of s)) ∙ ap (value_for ((e, down_of s) ∷ [])) e_is ∙ is in
      this n d e_is (cc)
  last_is n d false same is = absurd (some_none (value_for ((e, down_of s) ∷ []) n) d is (value_for-lone_other e n (down_of s) (eqb-false e n same)))

  done_by : (n : ℕ) (d : D) (o : Option D) → value_for st.done n ≡ o → value_for (st.done ++ (e, down_of s) ∷ []) n ≡ Some d → IsDone m places opening now n d
  done_by n d (Some before) was is =
      let same : Some before ≡ Some d = sym (value_for-append_some st.done ((e, down_of s) ∷ []) n before was) ∙ is in
      earlier n d (was ∙ same)
  done_by n d None was is = last_is n d (eqb e n) refl (sym (value_for-append_none st.done ((e, down_of s) ∷ []) n was) ∙ is)

  not_this : (n : ℕ) → value_for (st.done ++ (e, down_of s) ∷ []) n ≡ None → e ≡ n → ⊥
  not_this n none same =
      some_none (value_for (st.done ++ (e, down_of s) ∷ []) n) (down_of s)
      (ap (value_for (st.done ++ (e, down_of s) ∷ [])) (sym same) ∙ value_for-append_none st.done ((e, down_of s) ∷ []) e undone ∙ value_for-lone e (down_of s)) none

  not_before : (n : ℕ) (o : Option D) → value_for st.done n ≡ o → value_for (st.done ++ (e, down_of s) ∷ []) n ≡ None → value_for st.done n ≡ None
  not_before n None was none = was
  not_before n (Some d) was none = absurd (some_none (value_for (st.done ++ (e, down_of s) ∷ []) n) d (value_for-append_some st.done ((e, down_of s) ∷ []) n d was) none)

  pub noted : IsPass m places opening now
  noted = record {
    elements = elements ∙ pass.elements;
    updated = λ n d is. done_by n d (value_for st.done n) refl is;
    others = λ n none. other n (not_this n none) ∙ pass.others n (not_before n (value_for st.done n) refl none);
  }

outcome_noted : {E D : Type 0} (m : Meaning E D) (places : List Place) (opening : List (ℕ × E)) (st : PassState E D) (e : ℕ) (p : Place) (x : E) (s : Step E D)
    → IsPass m places opening st → value_for st.done e ≡ None → planned_place places e ≡ Some p → IsResult m places opening p s → value_for st.entries e ≡ Some x
    → value_for opening e ≡ Some x → IsPass m places opening (with_outcome st e s)
outcome_noted m places opening st e p x (Updated new d) pass undone planned result entry opened =
    noted m places opening st (with_value st.entries e new) e p (Updated new d) pass undone planned result (map-with_value st.entries e new)
    (λ n other. value_for-with_value_other st.entries e n new other)
    (value_for-with_value_same st.entries e new x entry ∙ sym (ap (option_map (entry_after (Updated new d))) opened))
outcome_noted m places opening st e p x (Kept d) pass undone planned result entry opened =
    noted m places opening st st.entries e p (Kept d) pass undone planned result refl (λ n other. refl) (entry ∙ sym (ap (option_map (entry_after (Kept d))) opened))

-- ---- events

-- the update of an element that has an entry notes this outcome
pub record Comes {E D : Type 0} (m : Meaning E D) (places : List Place) (opening : List (ℕ × E)) (st : PassState E D) (e : ℕ) : Type 0 where
  pub place : Place
  pub entry : E
  pub result : Step E D
  pub planned : planned_place places e ≡ Some place
  pub undone : value_for st.done e ≡ None
  pub entry_is : value_for st.entries e ≡ Some entry
  pub outcome_is : outcome_at m places st e ≡ Some result
  pub result_is : IsResult m places opening place result

pub comes : {E D : Type 0} (m : Meaning E D) (places : List Place) (opening : List (ℕ × E)) (st : PassState E D) (e : ℕ) (x : E) → differ places ≡ true
    → IsPass m places opening st → may_come places st.done e ≡ true → value_for st.entries e ≡ Some x → Comes m places opening st e
comes m places opening st e x differs pass may entry =
    let can = as_may_come places st.done e may in
    let element = planned_place-element places e can.place can.planned in
    let opened : value_for opening (can.place).element ≡ Some x = ap (value_for opening) element ∙ sym (pass.others e can.undone) ∙ entry in
    let down = handed_by m places opening st can.place x (can.place).parent differs pass opened refl can.after_parent in
    record {
      place = can.place;
      entry = x;
      result = m.outcome e x down.down;
      planned = can.planned;
      undone = can.undone;
      entry_is = entry;
      outcome_is =
          ap (λ o. option_and_then (λ x. option_and_then (λ p. option_map (λ d. m.outcome e x d) (handed_to m places st.done p)) (planned_place places e)) o) entry
          ∙ ap (λ o. option_and_then (λ p. option_map (λ d. m.outcome e x d) (handed_to m places st.done p)) o) can.planned
          ∙ ap (λ o. option_map (λ d. m.outcome e x d) o) down.handed;
      result_is = subst (λ n. IsResult m places opening can.place (m.outcome n x down.down)) element down.result;
    }

update_keeps : {E D : Type 0} (m : Meaning E D) (places : List Place) (opening : List (ℕ × E)) (st : PassState E D) (e : ℕ) (o : Option E) → differ places ≡ true
    → IsPass m places opening st → may_come places st.done e ≡ true → value_for st.entries e ≡ o → IsPass m places opening (after_event m places st (Update e))
update_keeps m places opening st e None differs pass may entry =
    let none : outcome_at m places st e ≡ None = ap (λ o. option_and_then (λ x. option_and_then (λ p. option_map (λ d. m.outcome e x d) (handed_to m places st.done p)) (planned_place places e)) o) entry in
    subst (λ o. IsPass m places opening (option_map_or (with_outcome st e) o st)) (sym none) pass
update_keeps m places opening st e (Some x) differs pass may entry =
    let c = comes m places opening st e x differs pass may entry in
    subst (λ o. IsPass m places opening (option_map_or (with_outcome st e) o st)) (sym c.outcome_is)
    (outcome_noted m places opening st e c.place x c.result pass c.undone c.planned c.result_is entry (sym (pass.others e c.undone) ∙ entry))

pub event_keeps : {E D : Type 0} (m : Meaning E D) (places : List Place) (opening : List (ℕ × E)) (st : PassState E D) (event : CoreEvent) → differ places ≡ true
    → IsPass m places opening st → passes.is_allowed places st.done event ≡ true → IsPass m places opening (after_event m places st event)
event_keeps m places opening st (Update e) differs pass may = update_keeps m places opening st e (value_for st.entries e) differs pass may refl
event_keeps m places opening st (Refuse e) differs pass may = pass

pub begins : {E D : Type 0} (m : Meaning E D) (places : List Place) (st : PassState E D) → st.done ≡ [] → IsPass m places st.entries st
begins m places st nothing = record {
  elements = refl;
  updated = λ e d is. absurd (some_none (value_for st.done e) d is (ap (λ l. value_for l e) nothing));
  others = λ e none. refl;
}

pub events_keep : {E D : Type 0} (m : Meaning E D) (places : List Place) (opening : List (ℕ × E)) (st : PassState E D) (events : List CoreEvent) → differ places ≡ true
    → IsPass m places opening st → passes.are_allowed m places st events ≡ true → IsPass m places opening (passes.after_events m places st events)
events_keep m places opening st [] differs pass may = pass
events_keep m places opening st (event ∷ events) differs pass may =
    let parts = both_true (passes.is_allowed places st.done event) (passes.are_allowed m places (after_event m places st event) events) may in
    events_keep m places opening (after_event m places st event) events differs (event_keeps m places opening st event differs pass parts.0) parts.1
