-- In which phase an animation is.
use Rattle.std.proofs.Common.{◌≡◌, ◌∙◌, refl, sym, subst, arith}
use Rattle.std.specs.Prelude.{ℤ, pos, ◌-ℤ◌, ◌≤ℤ◌, ◌<ℤ◌, int_le, int_lt, Bool, true, false, Option, None, Some, IfSome, IsSomeAnd, if◌then◌else◌}
use Rattle.std.specs.Int.{int_max}
use Rattle.std.specs.Option.{option_map_or}
use Rattle.std.proofs.lemmas.Int.{ints, clamps}
use Rattle.style_data.specs.Animations.{IsTiming}
use Rattle.style_data.specs.declared.timing.AnimationTiming.{AnimationTiming}
use Rattle.style_data.specs.declared.transition.Phase.{Phase}
use Rattle.style_data.specs.declared.transition.Phase.TheVariants.{Idle, Before, Active, After}
use Rattle.anim_timing.specs.ActiveTimes.{active_time, active_time_in}
use Rattle.anim_timing.specs.Durations.{active_after_boundary, active_duration, before_active_boundary, no_later_than}
use Rattle.anim_timing.specs.Phases.{IsInPhase, phase_of}
use Rattle.anim_timing.specs.Playing.{filling_both}
use Rattle.anim_timing.proofs.Bounds.{before_boundary, ordered}

lt_true : (a b : ℤ) → a <ℤ b → int_lt a b ≡ true
lt_true a b h = grind (arith, ints)

lt_false : (a b : ℤ) → b ≤ℤ a → int_lt a b ≡ false
lt_false a b h = grind (arith, ints)

le_true : (a b : ℤ) → a ≤ℤ b → int_le a b ≡ true
le_true a b h = grind (arith, ints)

le_false : (a b : ℤ) → b <ℤ a → int_le a b ≡ false
le_false a b h = grind (arith, ints)

is_less : (a b : ℤ) → int_lt a b ≡ true → a <ℤ b
is_less a b e = grind (arith, ints)

not_less : (a b : ℤ) → int_lt a b ≡ false → b ≤ℤ a
not_less a b e = grind (arith, ints)

is_most : (a b : ℤ) → int_le a b ≡ true → a ≤ℤ b
is_most a b e = grind (arith, ints)

not_most : (a b : ℤ) → int_le a b ≡ false → b <ℤ a
not_most a b e = grind (arith, ints)

-- ---- phases between any two boundaries

abbrev IsBetween : ℤ → Option ℤ → ℤ → Phase → Type 0
IsBetween first second local Idle = ⊥
IsBetween first second local Before = local <ℤ first
IsBetween first second local Active = (first ≤ℤ local) × IfSome second (λ boundary. local <ℤ boundary)
IsBetween first second local After = IsSomeAnd second (λ boundary. boundary ≤ℤ local)

abbrev phase_between : ℤ → Option ℤ → ℤ → Phase
phase_between first second local =
    (if int_lt local first then Before else if option_map_or (λ boundary. int_le boundary local) second false then After else Active)

between : (first : ℤ) (second : Option ℤ) (local : ℤ) → IsBetween first second local (phase_between first second local)
between first second local = go (int_lt local first) refl second where
  late : (b : Bool) (boundary : ℤ) → int_le boundary local ≡ b → first ≤ℤ local → IsBetween first (Some boundary) local (if b then After else Active)
  late true boundary e begun = is_most boundary local e
  late false boundary e begun = (begun, not_most boundary local e)

  go : (b : Bool) → int_lt local first ≡ b → (end : Option ℤ)
      → IsBetween first end local (if b then Before else if option_map_or (λ boundary. int_le boundary local) end false then After else Active)
  go true e end = is_less local first e
  go false e None = (not_less local first e, tt)
  go false e (Some boundary) = late (int_le boundary local) boundary refl (not_less local first e)

only_between : (first : ℤ) (second : Option ℤ) (local : ℤ) (phase : Phase) → IfSome second (λ boundary. first ≤ℤ boundary)
    → IsBetween first second local phase → phase ≡ phase_between first second local
only_between first second local Idle order is = absurd is
only_between first second local Before order is = rw (lt_true local first is) refl
only_between first None local Active order (begun, ends) = rw (lt_false local first begun) refl
only_between first (Some boundary) local Active order (begun, ends) = rw (lt_false local first begun, le_false boundary local ends) refl
only_between first None local After order is = absurd is
only_between first (Some boundary) local After order is =
    let begun : first ≤ℤ local = omega (arith, ints) in rw (lt_false local first begun, le_true boundary local is) refl

-- ---- those of a timing

to_phase : (t : AnimationTiming) (local : ℤ) (phase : Phase) → IsBetween (before_active_boundary t) (active_after_boundary t) local phase → IsInPhase t local phase
to_phase t local Idle is = is
to_phase t local Before is = is
to_phase t local Active is = is
to_phase t local After is = is

of_phase : (t : AnimationTiming) (local : ℤ) (phase : Phase) → IsInPhase t local phase → IsBetween (before_active_boundary t) (active_after_boundary t) local phase
of_phase t local Idle is = is
of_phase t local Before is = is
of_phase t local Active is = is
of_phase t local After is = is

pub in_phase : (t : AnimationTiming) (local : ℤ) → IsInPhase t local (phase_of t local)
unfolding phase_of
in_phase t local =
    to_phase t local (phase_between (before_active_boundary t) (active_after_boundary t) local) (between (before_active_boundary t) (active_after_boundary t) local)

pub only_phase : (t : AnimationTiming) (local : ℤ) (phase : Phase) → IsTiming t → IsInPhase t local phase → phase ≡ phase_of t local
unfolding phase_of
only_phase t local phase is h = only_between (before_active_boundary t) (active_after_boundary t) local phase (ordered t is) (of_phase t local phase h)

-- ---- active times

-- an active animation has passed its delay
pub since_delay : (t : AnimationTiming) (local : ℤ) (phase : Phase) → IsTiming t → phase ≡ phase_of t local → phase ≡ Active → pos 0 ≤ℤ (local -ℤ t.delay.0)
since_delay t local phase is p e =
    let h = subst (IsInPhase t local) (sym p ∙ e) (in_phase t local) in
    passed (before_active_boundary t) (before_boundary t is) h.0 where
      passed : (first : ℤ) → first ≡ int_max t.delay.0 (pos 0) → first ≤ℤ local → pos 0 ≤ℤ (local -ℤ t.delay.0)
      passed first e h = omega (arith, ints, clamps)

not_negative : (x : ℤ) → pos 0 ≤ℤ int_max x (pos 0)
not_negative x = omega (arith, ints, clamps)

both_ways : (t : AnimationTiming) → IsTiming t → IsTiming (filling_both t)
both_ways t is = record { duration = is.duration; delay = is.delay; count = is.count; easing = is.easing }

pub resolved : (t : AnimationTiming) (local : ℤ) → IsTiming t → IsSomeAnd (active_time (filling_both t) local) (λ active. pos 0 ≤ℤ active)
resolved t local is = go (phase_of (filling_both t) local) refl where
  go : (phase : Phase) → phase_of (filling_both t) local ≡ phase → IsSomeAnd (active_time_in (filling_both t) phase local) (λ active. pos 0 ≤ℤ active)
  go Idle e = absurd (subst (IsInPhase (filling_both t) local) e (in_phase (filling_both t) local))
  go Before e = not_negative (local -ℤ t.delay.0)
  go Active e = since_delay (filling_both t) local Active (both_ways t is) (sym e) refl
  go After e = not_negative (no_later_than (active_duration t) (local -ℤ t.delay.0))
