-- A tick makes no origin: it drops those of what has ended or was cancelled.
use Rattle.std.proofs.Common.{arith, ℕ, ◌≤◌, List, map, Bool, true, false, Option, None, Some}
use Rattle.std.specs.Prelude.{ℤ, int_le, option_and_then, if◌then◌else◌}
use Rattle.style_data.specs.Entries.{EffectLists, EntryParts}
use Rattle.style_data.specs.TransitionSets.{TransitionSet, running_of}
use Rattle.style_data.specs.declared.transition.Transition.{Transition}
use Rattle.ticker.specs.Ticks.{running_after, seen_in, still_running, ticked_animation, ticked_effects, ticked_entry, ticked_transitions}
use Rattle.ticker.specs.declared.event.Standing.{Standing}
use Rattle.value_types.specs.Properties.{all_properties, number_of}
use Rattle.value_types.specs.declared.property.PropertyId.{PropertyId}
use Rattle.restyle.proofs.EffectCounts.{animation_count, count_for, counted_by_property, effect_count, entry_count, gone_count, kept_no_more, of_these, properties_count_up, transition_count}
use Rattle.restyle.proofs.OriginCounts.{CountUp, total, total-le, total-map, total-nil}

still : (s : Standing) (p : PropertyId) (t : ℤ) (r : Transition) (b : Bool) → count_for s p (if b then None else Some (seen_in t r)) ≤ count_for s p (Some r)
still s p t r true = omega arith
still s p t r false = omega arith

after_tick : (s : Standing) (p : PropertyId) (t : ℤ) (o : Option Transition) → count_for s p (option_and_then (still_running t) o) ≤ count_for s p o
after_tick s p t None = omega arith
after_tick s p t (Some r) = still s p t r (int_le r.end.0 t)

these_count : (s : Standing) (t : ℤ) (ts : TransitionSet) (ps : List PropertyId) → CountUp number_of 0 ps
    → total (transition_count s) (of_these (running_after t ts) ps) ≤ total (transition_count s) ts.running
these_count s t ts ps up =
    omega (
      arith,
      counted_by_property s (running_after t ts) ps,
      kept_no_more s ts.running ps up,
      total-le (λ p. count_for s p (running_after t ts p)) (λ p. count_for s p (running_of ts p)) ps (λ p. after_tick s p t (running_of ts p)),
    )

ticked_transitions_count : (s : Standing) (t : ℤ) (ts : TransitionSet) → total (transition_count s) (ticked_transitions t ts).running ≤ total (transition_count s) ts.running
ticked_transitions_count s t ts = these_count s t ts all_properties properties_count_up

pub ticked_count : (s : Standing) (t : ℤ) (e : EffectLists) → effect_count s (ticked_effects t e) ≤ effect_count s e
ticked_count s t e =
    omega (arith, ticked_transitions_count s t e.transitions, total-map (animation_count s) (ticked_animation t) e.animations, total-nil (gone_count s))

-- so of all entries
pub ticked_entries_count : (s : Standing) (t : ℤ) (entries : List (ℕ × EntryParts)) → entry_count s (map (ticked_entry t) entries) ≤ entry_count s entries
ticked_entries_count s t entries =
    omega (
      arith,
      total-map (λ (e : ℕ × EntryParts). effect_count s e.1.effects) (ticked_entry t) entries,
      total-le (λ (e : ℕ × EntryParts). effect_count s (ticked_effects t e.1.effects)) (λ e. effect_count s e.1.effects) entries (λ e. ticked_count s t e.1.effects),
    )
