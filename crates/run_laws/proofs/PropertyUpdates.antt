-- What a style change event leaves and cancels of one property's transition.
use Rattle.std.proofs.Common.{◌≡◌, ℕ, refl, ap, sym, ◌∙◌, subst, Bool, true, false, Option, Some, None, List, [], ◌∷◌, ◌++◌, append-nil, filter, map}
use Rattle.std.specs.Prelude.{ℤ, ◌&&◌, nat_eq, option_and_then, option_map, if◌then◌else◌}
use Rattle.std.specs.Option.{option_to_list}
use Rattle.std.proofs.lemmas.List.Elements.{filter-append}
use Rattle.animation_names.specs.Continuing.{cancelled_animation}
use Rattle.animation_names.specs.NameLists.{NamesUpdate}
use Rattle.animation_names.specs.Updates.{animations_after, gone_after, gone_at, gone_from, goes_on}
use Rattle.computed_style.specs.ByProperty.{kept_for}
use Rattle.computed_style.specs.declared.inherited.Down.{Down}
use Rattle.element_step.specs.Updates.{ElementUpdate, cancelled_from, cancelled_of, change_in, entry_after, rendered_after, transitions_from, transitions_of}
use Rattle.element_step.specs.Works.{DocumentEvent, animations_updated, entry_at, paired_at, update_at}
use Rattle.fix_num.specs.declared.units.Micros.{Micros}
use Rattle.style_data.specs.Entries.{EntryParts}
use Rattle.style_data.specs.TransitionSets.{TransitionSet, no_transitions}
use Rattle.style_data.specs.declared.animation.AnimationState.{AnimationState}
use Rattle.style_data.specs.declared.decision.Decision.{Decision}
use Rattle.style_data.specs.declared.gone.Gone.{Gone}
use Rattle.style_data.specs.declared.transition.Transition.{Transition}
use Rattle.transition_start.specs.Change.{Change}
use Rattle.transition_start.specs.Functions.{decision_of, rule_of}
use Rattle.transition_start.specs.Results.{decision_by, gone_item, new_transition, reversing_transition}
use Rattle.transition_start.specs.Rules.{Rule, Unmatched, Starts, DropsCompleted, CancelsThere, CancelsAtOnce, Reverses, Replaces, Keeps}
use Rattle.transition_start.specs.Sampling.{sample_of}
use Rattle.transition_update.proofs.ByProperty.{by_property_has}
use Rattle.transition_update.specs.Updates.{StyleChange, all_cancelled, cancelled_by, change_of, decision_for, transitions_after}
use Rattle.value_types.specs.Properties.{number_of}
use Rattle.value_types.specs.declared.property.PropertyId.{PropertyId}
use Rattle.run_laws.specs.TransitionNames.{TransitionName}
use Rattle.run_laws.proofs.Filtered.{IsOnce, is_for, mapped_without, none_below, once_by_property, only_property}
use Rattle.run_laws.proofs.FrameEvents.{is_gone_of}
use Rattle.run_laws.proofs.SoFar.{IsNew, IsUpdated, keeps, starts, cancels}

module _ (x : TransitionName) where
  abbrev of_it : Gone → Bool
  of_it = is_gone_of x

  -- ---- items of others

  other_item : (q : PropertyId) (r : Transition) (t : ℤ) → nat_eq (number_of q) (number_of x.property) ≡ false → of_it (gone_item q r t) ≡ false
  other_item q r t differ = ap (λ b. b && nat_eq r.generation x.generation) differ

  pub animation_item : (t : Micros) (a : AnimationState) → of_it (cancelled_animation t a) ≡ false
  unfolding cancelled_animation
  animation_item t a = refl

  animation_gone : (time : Micros) (old animations : List AnimationState) (j : ℕ) (o : Option AnimationState)
      → filter of_it (option_to_list (option_and_then (gone_from time old animations j) o)) ≡ []
  animation_gone time old animations j None = refl
  animation_gone time old animations j (Some a) = go (goes_on old animations j a)
    where
      go : (b : Bool) → filter of_it (option_to_list (if b then None else Some (cancelled_animation time a))) ≡ []
      go true = refl
      go false = rw (animation_item time a) refl

  animations_gone : (u : NamesUpdate) → filter of_it (gone_after u) ≡ []
  unfolding gone_after
  animations_gone u =
      none_below of_it (gone_at u.time u.old (animations_after u)) _ (λ j. animation_gone u.time u.old (animations_after u) j _)

  -- ---- by each rule

  new_made : {M : Type 0} (frame : ℕ) (t : ℤ) (f : M → Transition) (o : Option M) → ((m : M) → IsNew frame t (Some (f m))) → IsNew frame t (option_map f o)
  new_made frame t f None each = tt
  new_made frame t f (Some m) each = each m

  new_instead : (frame : ℕ) (t : ℤ) (f : Transition → Option Transition) (o : Option Transition) → ((r : Transition) → IsNew frame t (f r)) → IsNew frame t (option_and_then f o)
  new_instead frame t f None each = tt
  new_instead frame t f (Some r) each = each r

  module _ (c : Change) (own : c.event.property ≡ x.property) where
    abbrev IsDecided : Decision → Type 0
    IsDecided d = IsUpdated x c.event.generation c.event.time.0 c.running d.running (filter of_it (option_to_list d.gone))

    replacing : (run after : Option Transition) → IsNew c.event.generation c.event.time.0 after
        → IsUpdated x c.event.generation c.event.time.0 run after (filter of_it (option_to_list (option_map (λ r. gone_item c.event.property r c.event.time.0) run)))
    replacing None after new = starts new refl
    replacing (Some r) after new = cancels r refl new (ap (λ p. filter of_it (gone_item p r c.event.time.0 ∷ [])) own)

    reversing_new : (r : Transition) → IsNew c.event.generation c.event.time.0 (option_map (λ m. reversing_transition c.event m r) c.matched)
    reversing_new r = new_made c.event.generation c.event.time.0 (λ m. reversing_transition c.event m r) c.matched (λ m. (refl, refl, refl))

    replacing_new : (r : Transition) → IsNew c.event.generation c.event.time.0 (option_map (λ m. new_transition c.event m (sample_of c.event.property r c.event.time.0)) c.matched)
    replacing_new r =
        new_made c.event.generation c.event.time.0 (λ m. new_transition c.event m (sample_of c.event.property r c.event.time.0)) c.matched (λ m. (refl, refl, refl))

    decided : (rule : Rule) → IsDecided (decision_by c rule)
    decided Unmatched = replacing c.running None tt
    decided Starts = starts (new_made c.event.generation c.event.time.0 (λ m. new_transition c.event m c.event.before) c.matched (λ m. (refl, refl, refl))) refl
    decided DropsCompleted = starts tt refl
    decided CancelsThere = replacing c.running None tt
    decided CancelsAtOnce = replacing c.running None tt
    decided Reverses =
        replacing c.running (option_and_then (λ r. option_map (λ m. reversing_transition c.event m r) c.matched) c.running)
        (new_instead c.event.generation c.event.time.0 (λ r. option_map (λ m. reversing_transition c.event m r) c.matched) c.running reversing_new)
    decided Replaces =
        replacing c.running (option_and_then (λ r. option_map (λ m. new_transition c.event m (sample_of c.event.property r c.event.time.0)) c.matched) c.running)
        (new_instead c.event.generation c.event.time.0 (λ r. option_map (λ m. new_transition c.event m (sample_of c.event.property r c.event.time.0)) c.matched) c.running replacing_new)
    decided Keeps = keeps refl refl

  -- what the decision for a property cancels is of the property
  replaced_other : (q : PropertyId) (t : ℤ) (run : Option Transition) → nat_eq (number_of q) (number_of x.property) ≡ false
      → filter of_it (option_to_list (option_map (λ r. gone_item q r t) run)) ≡ []
  replaced_other q t None differ = refl
  replaced_other q t (Some r) differ = rw (other_item q r t differ) refl

  decided_other : (c : Change) (rule : Rule) → nat_eq (number_of c.event.property) (number_of x.property) ≡ false → filter of_it (option_to_list (decision_by c rule).gone) ≡ []
  decided_other c Unmatched differ = replaced_other c.event.property c.event.time.0 c.running differ
  decided_other c Starts differ = refl
  decided_other c DropsCompleted differ = refl
  decided_other c CancelsThere differ = replaced_other c.event.property c.event.time.0 c.running differ
  decided_other c CancelsAtOnce differ = replaced_other c.event.property c.event.time.0 c.running differ
  decided_other c Reverses differ = replaced_other c.event.property c.event.time.0 c.running differ
  decided_other c Replaces differ = replaced_other c.event.property c.event.time.0 c.running differ
  decided_other c Keeps differ = refl

  -- ---- by the rules of all properties

  for_other : (ch : StyleChange) (ts : TransitionSet) (q : PropertyId) → nat_eq (number_of q) (number_of x.property) ≡ false
      → filter of_it (option_to_list (decision_for ch ts q).gone) ≡ []
  unfolding decision_for decision_of
  for_other ch ts q differ = decided_other (change_of ch ts q) (rule_of (change_of ch ts q)) differ

  for_it : (ch : StyleChange) (ts : TransitionSet)
      → IsUpdated x ch.event.generation ch.event.time.0 (kept_for x.property ts.running) (decision_for ch ts x.property).running
      (filter of_it (option_to_list (decision_for ch ts x.property).gone))
  unfolding decision_for decision_of
  for_it ch ts = decided (change_of ch ts x.property) refl (rule_of (change_of ch ts x.property))

  by_rules : (ch : StyleChange) (ts : TransitionSet)
      → IsUpdated x ch.event.generation ch.event.time.0 (kept_for x.property ts.running) (kept_for x.property (transitions_after ch ts).running) (filter of_it (cancelled_by ch ts))
  by_rules ch ts =
      subst (λ o. IsUpdated x ch.event.generation ch.event.time.0 (kept_for x.property ts.running) o (filter of_it (cancelled_by ch ts)))
      (sym (by_property_has (λ p. (decision_for ch ts p).running) x.property))
      (subst (λ gs. IsUpdated x ch.event.generation ch.event.time.0 (kept_for x.property ts.running) (decision_for ch ts x.property).running gs)
      (sym (only_property of_it (λ p. (decision_for ch ts p).gone) x.property (λ q differ. for_other ch ts q differ))) (for_it ch ts))

  -- ---- all are cancelled

  pub cancelled_items : (t : ℤ) (ts : TransitionSet) → IsOnce x.property ts.running
      → filter of_it (all_cancelled ts t) ≡ filter of_it (option_to_list (option_map (λ r. gone_item x.property r t) (kept_for x.property ts.running)))
  cancelled_items t ts once =
      mapped_without of_it (λ y. gone_item y.0 y.1 t) (is_for x.property) ts.running (λ y differ. other_item y.0 y.1 t differ)
      ∙ ap (λ ys. filter of_it (map (λ (y : PropertyId × Transition). gone_item y.0 y.1 t) ys)) once ∙ go (kept_for x.property ts.running)
    where
      go : (o : Option Transition)
          → filter of_it (map (λ (y : PropertyId × Transition). gone_item y.0 y.1 t) (option_to_list (option_map (λ r. (x.property, r)) o)))
          ≡ filter of_it (option_to_list (option_map (λ r. gone_item x.property r t) o))
      go None = refl
      go (Some r) = refl

  all_at_once : (frame : ℕ) (t : ℤ) (run : Option Transition) → IsUpdated x frame t run None (filter of_it (option_to_list (option_map (λ r. gone_item x.property r t) run)))
  all_at_once frame t None = keeps refl refl
  all_at_once frame t (Some r) = cancels r refl tt refl

  -- ---- one element

  element_updated : (u : ElementUpdate) → IsOnce x.property u.entry.effects.transitions.running
      → IsUpdated x u.event.generation u.event.time.0 (kept_for x.property u.entry.effects.transitions.running) (kept_for x.property (transitions_of u).running)
      (filter of_it (cancelled_of u))
  unfolding transitions_of cancelled_of
  element_updated u once = go (rendered_after u) u.entry.rendered
    where
      ts : TransitionSet
      ts = u.entry.effects.transitions

      go : (b c : Bool)
          → IsUpdated x u.event.generation u.event.time.0 (kept_for x.property u.entry.effects.transitions.running)
          (kept_for x.property (if b then transitions_from c (change_in u) u.entry.effects.transitions else no_transitions).running)
          (filter of_it (if b then cancelled_from c (change_in u) u.entry.effects.transitions else all_cancelled u.entry.effects.transitions u.event.time.0))
      go true true = by_rules (change_in u) u.entry.effects.transitions
      go true false = starts tt refl
      go false c =
          subst (λ gs. IsUpdated x u.event.generation u.event.time.0 (kept_for x.property u.entry.effects.transitions.running) None gs)
          (sym (cancelled_items u.event.time.0 u.entry.effects.transitions once))
          (all_at_once u.event.generation u.event.time.0 (kept_for x.property u.entry.effects.transitions.running))

  once_after : (u : ElementUpdate) → IsOnce x.property (transitions_of u).running
  unfolding transitions_of
  once_after u = go (rendered_after u) u.entry.rendered
    where
      go : (b c : Bool) → IsOnce x.property (if b then transitions_from c (change_in u) u.entry.effects.transitions else no_transitions).running
      go true true = once_by_property (λ p. (decision_for (change_in u) u.entry.effects.transitions p).running) x.property
      go true false = refl
      go false c = refl

  -- an entry before and after the event: what it leaves, what is cancelled more, and one item at most of the property
  pub record IsEntryUpdated (frame : ℕ) (t : ℤ) (e after : EntryParts) : Type 0 where
    pub more : List Gone
    pub update : IsUpdated x frame t (kept_for x.property e.effects.transitions.running) (kept_for x.property after.effects.transitions.running) more
    pub left : filter of_it after.effects.gone ≡ filter of_it e.effects.gone ++ more
    pub once : IsOnce x.property after.effects.transitions.running

  gone_left : (old cancelled gone : List Gone) → filter of_it gone ≡ [] → filter of_it (old ++ cancelled ++ gone) ≡ filter of_it old ++ filter of_it cancelled
  gone_left old cancelled gone none =
      filter-append of_it (old ++ cancelled) gone ∙ ap (λ gs. filter of_it (old ++ cancelled) ++ gs) none ∙ append-nil (filter of_it (old ++ cancelled))
      ∙ filter-append of_it old cancelled

  updated_with : (u : ElementUpdate) (gone : List Gone) → IsOnce x.property u.entry.effects.transitions.running → filter of_it gone ≡ []
      → IsEntryUpdated u.event.generation u.event.time.0 u.entry (entry_after u gone)
  unfolding entry_after
  updated_with u gone once none = record {
    more = filter of_it (cancelled_of u);
    update = element_updated u once;
    left = gone_left u.entry.effects.gone (cancelled_of u) gone none;
    once = once_after u;
  }

  paired_gone : (w : DocumentEvent) (n : ℕ) (entry : EntryParts) (parent : Option Down) → filter of_it (paired_at w n entry parent).gone ≡ []
  unfolding animations_updated
  paired_gone w n entry parent = animations_gone _

  pub entry_updated : (w : DocumentEvent) (n : ℕ) (entry : EntryParts) (parent : Option Down) → IsOnce x.property entry.effects.transitions.running
      → IsEntryUpdated w.generation w.time.0 entry (entry_at w n entry parent)
  unfolding update_at
  entry_updated w n entry parent once = updated_with (update_at w n entry parent) (paired_at w n entry parent).gone once (paired_gone w n entry parent)
