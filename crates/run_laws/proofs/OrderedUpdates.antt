-- No transition that an event starts ends before it starts.
use Rattle.std.proofs.Common.{◌≡◌, ℕ, refl, sym, subst, arith, Bool, true, false, Option, Some, None}
use Rattle.std.specs.Prelude.{ℤ, pos, ◌+ℤ◌, ◌-ℤ◌, ◌≤ℤ◌, option_and_then, option_map, if◌then◌else◌}
use Rattle.std.specs.List.{AllByRecursion}
use Rattle.std.proofs.lemmas.Int.{ints}
use Rattle.change_styles.specs.ThreeStyles.{after_change_style}
use Rattle.computed_style.specs.ByProperty.{kept_for}
use Rattle.computed_style.specs.ComputedStyles.{AnimatedValues, computed_style, transition_lists_of}
use Rattle.computed_style.specs.Winners.{Declarations}
use Rattle.computed_style.specs.declared.inherited.Down.{Down}
use Rattle.computed_style.specs.declared.inherited.InheritedValues.{InheritedValues}
use Rattle.element_step.specs.Updates.{ElementUpdate, change_in, entry_after, rendered_after, transitions_from, transitions_of}
use Rattle.element_step.specs.Works.{DocumentEvent, entry_at, update_at}
use Rattle.fix_num.specs.declared.units.TheConstants.Bill.{ONE}
use Rattle.reversing.proofs.Parts.{clipped_factor, part_within}
use Rattle.reversing.specs.Reversal.{IsFactor, part_of, shortened}
use Rattle.style_data.specs.Entries.{EntryParts}
use Rattle.style_data.specs.TransitionSets.{TransitionSet, no_transitions}
use Rattle.style_data.specs.declared.transition.Transition.{Transition}
use Rattle.transition_list.specs.declared.matched.MatchedItem.{MatchedItem}
use Rattle.transition_start.specs.Change.{Change}
use Rattle.transition_start.specs.Functions.{decision_of, rule_of}
use Rattle.transition_start.specs.Results.{decision_by, new_transition, reversing_transition}
use Rattle.transition_start.specs.Rules.{Rule, Unmatched, Starts, DropsCompleted, CancelsThere, CancelsAtOnce, Reverses, Replaces, Keeps}
use Rattle.transition_start.specs.Sampling.{output_at, sample_of}
use Rattle.transition_start.specs.declared.change.PropertyChange.{PropertyChange}
use Rattle.transition_update.proofs.ByProperty.{by_property_has}
use Rattle.transition_update.specs.Updates.{StyleChange, change_of, decision_for, transitions_after}
use Rattle.value_types.specs.declared.property.PropertyId.{PropertyId}
use Rattle.value_types.specs.declared.value.Value.{Value}
use Rattle.run_laws.proofs.DeclaredDurations.{AreTimelySheets, HasDuration, ReadingLaws, durations_timely, matched_timely}
use Rattle.run_laws.proofs.Durations.{IsNotNegative}
use Rattle.run_laws.proofs.SoFar.{HoldsOf}

-- it ends no earlier than it starts
abbrev pub IsOrdered : Transition → Type 0
IsOrdered r = r.start.0 ≤ℤ r.end.0

longer : (a d : ℤ) → pos 0 ≤ℤ d → a ≤ℤ (a +ℤ d)
longer a d some = omega (arith, ints)

factor_is : (factor output : ℤ) → IsFactor (shortened factor output)
unfolding shortened
factor_is factor output = clipped_factor (part_of factor output +ℤ (ONE.0 -ℤ factor))

new_ordered : (e : PropertyChange) (m : MatchedItem) (from : Value) → IsNotNegative m.duration → IsOrdered (new_transition e m from)
new_ordered e m from some = longer (e.time.0 +ℤ m.delay.0) m.duration.0 some

reversing_ordered : (e : PropertyChange) (m : MatchedItem) (r : Transition) → IsNotNegative m.duration → IsOrdered (reversing_transition e m r)
reversing_ordered e m r some =
    longer (reversing_transition e m r).start.0 (part_of (shortened r.factor.0 (output_at r e.time.0)) m.duration.0)
    (part_within (shortened r.factor.0 (output_at r e.time.0)) m.duration.0 (factor_is r.factor.0 (output_at r e.time.0)) some).0

made : (f : MatchedItem → Transition) (o : Option MatchedItem) → ((m : MatchedItem) → IsNotNegative m.duration → IsOrdered (f m)) → HasDuration o → HoldsOf IsOrdered (option_map f o)
made f None each some = tt
made f (Some m) each some = each m some

instead : (f : Transition → Option Transition) (o : Option Transition) → ((r : Transition) → HoldsOf IsOrdered (f r)) → HoldsOf IsOrdered (option_and_then f o)
instead f None each = tt
instead f (Some r) each = each r

decided_ordered : (c : Change) (rule : Rule) → HoldsOf IsOrdered c.running → HasDuration c.matched → HoldsOf IsOrdered (decision_by c rule).running
decided_ordered c Unmatched running some = tt
decided_ordered c Starts running some = made (λ m. new_transition c.event m c.event.before) c.matched (λ m. new_ordered c.event m c.event.before) some
decided_ordered c DropsCompleted running some = tt
decided_ordered c CancelsThere running some = tt
decided_ordered c CancelsAtOnce running some = tt
decided_ordered c Reverses running some =
    instead (λ r. option_map (λ m. reversing_transition c.event m r) c.matched) c.running
    (λ r. made (λ m. reversing_transition c.event m r) c.matched (λ m. reversing_ordered c.event m r) some)
decided_ordered c Replaces running some =
    instead (λ r. option_map (λ m. new_transition c.event m (sample_of c.event.property r c.event.time.0)) c.matched) c.running
    (λ r. made (λ m. new_transition c.event m (sample_of c.event.property r c.event.time.0)) c.matched (λ m. new_ordered c.event m (sample_of c.event.property r c.event.time.0)) some)
decided_ordered c Keeps running some = running

for_property : (ch : StyleChange) (ts : TransitionSet) (p : PropertyId) → AllByRecursion IsNotNegative ch.after.transitions.durations → HoldsOf IsOrdered (kept_for p ts.running)
    → HoldsOf IsOrdered (decision_for ch ts p).running
unfolding decision_for decision_of
for_property ch ts p some running =
    decided_ordered (change_of ch ts p) (rule_of (change_of ch ts p)) running (matched_timely ch.after.transitions p some)

by_rules : (ch : StyleChange) (ts : TransitionSet) (p : PropertyId) → AllByRecursion IsNotNegative ch.after.transitions.durations → HoldsOf IsOrdered (kept_for p ts.running)
    → HoldsOf IsOrdered (kept_for p (transitions_after ch ts).running)
by_rules ch ts p some running =
    subst (HoldsOf IsOrdered) (sym (by_property_has (λ p. (decision_for ch ts p).running) p)) (for_property ch ts p some running)

after_lists : (d : Declarations) (old : AnimatedValues) (parent : Option InheritedValues) → (after_change_style d old parent).transitions ≡ transition_lists_of d
unfolding computed_style
after_lists d old parent = refl

element_ordered : (u : ElementUpdate) (p : PropertyId) → AllByRecursion IsNotNegative (transition_lists_of u.declared).durations
    → HoldsOf IsOrdered (kept_for p u.entry.effects.transitions.running) → HoldsOf IsOrdered (kept_for p (transitions_of u).running)
unfolding transitions_of
element_ordered u p some running = go (rendered_after u) u.entry.rendered
  where
    go : (b c : Bool) → HoldsOf IsOrdered (kept_for p (if b then transitions_from c (change_in u) u.entry.effects.transitions else no_transitions).running)
    go true true =
        by_rules (change_in u) u.entry.effects.transitions p
        (subst (λ lists. AllByRecursion IsNotNegative lists.durations) (sym (after_lists u.declared u.old _)) some) running
    go true false = tt
    go false c = tt

after_event : (u : ElementUpdate) (gone : _) (p : PropertyId) → AllByRecursion IsNotNegative (transition_lists_of u.declared).durations
    → HoldsOf IsOrdered (kept_for p u.entry.effects.transitions.running) → HoldsOf IsOrdered (kept_for p (entry_after u gone).effects.transitions.running)
unfolding entry_after
after_event u gone p some running = element_ordered u p some running

pub entry_ordered : ReadingLaws → (w : DocumentEvent) (n : ℕ) (entry : EntryParts) (parent : Option Down) (p : PropertyId) → AreTimelySheets w.sheets
    → HoldsOf IsOrdered (kept_for p entry.effects.transitions.running) → HoldsOf IsOrdered (kept_for p (entry_at w n entry parent).effects.transitions.running)
unfolding update_at
entry_ordered laws w n entry parent p timely running =
    after_event (update_at w n entry parent) _ p (durations_timely laws w.sheets w.document.elements n timely) running
