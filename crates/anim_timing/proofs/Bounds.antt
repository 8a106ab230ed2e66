-- How large the times of an animation are.
use Rattle.std.proofs.Common.{◌≡◌, ℕ, ◌*◌, ◌^◌, ◌≤◌, refl, ap, subst, arith}
use Rattle.std.specs.Prelude.{ℤ, pos, negsuc, ◌+ℤ◌, ◌*ℤ◌, ◌≤ℤ◌, ◌<ℤ◌, unsigned_abs, Bool, true, false, Option, None, Some, option_map, IfSome, if◌then◌else◌}
use Rattle.std.specs.Int.{int_max, int_min, w128}
use Rattle.std.specs.Ordering.{int_eq}
use Rattle.std.proofs.lemmas.Int.{ints, clamps, fits_signed_from_abs}
use mir.Val.{SFits}
use Rattle.std.proofs.Math.Nat.{mul-le-mul_left, mul-le-mul_right}
use Rattle.fix_num.specs.Fractions.{IsFraction}
use Rattle.fix_num.specs.Rounding.{rounded_quotient}
use Rattle.fix_num.specs.declared.units.TheConstants.Fix.{ONE}
use Rattle.fix_num.proofs.RoundingLemmas.{rounded_between}
use Rattle.timing_types.specs.Timing.{IsCount}
use Rattle.timing_types.specs.declared.timing.Count.{Count}
use Rattle.timing_types.specs.declared.timing.Count.TheVariants.{Times, Infinite}
use Rattle.style_data.specs.Animations.{IsTiming}
use Rattle.style_data.specs.declared.timing.AnimationTiming.{AnimationTiming}
use Rattle.anim_timing.specs.Durations.{active_after_boundary, active_duration, before_active_boundary, no_later_than, repeated}

product_within : (a b : ℕ) → a ≤ 10 ^ 15 → b ≤ 10 ^ 12 → a * b ≤ 10 ^ 27
product_within a b short few = omega (arith, mul-le-mul_left a few, mul-le-mul_right (10 ^ 12) short)

pub repeated_bounds : (d n : ℤ) → pos 0 ≤ℤ d → d ≤ℤ pos (10 ^ 15) → pos 0 ≤ℤ n → n ≤ℤ pos (10 ^ 12)
    → (pos 0 ≤ℤ rounded_quotient (d *ℤ n) ONE.0) × (rounded_quotient (d *ℤ n) ONE.0 ≤ℤ pos (10 ^ 21))
repeated_bounds (pos a) (pos b) low short some few =
    let size = product_within a b (omega (arith, ints)) (omega (arith, ints)) in
    rounded_between (pos 0) (pos (10 ^ 21)) (pos (a * b)) ONE.0 (omega (arith, ints)) (omega (arith, ints)) (omega (arith, ints))
repeated_bounds (negsuc a) n low short some few = absurd (omega (arith, ints))
repeated_bounds (pos a) (negsuc b) low short some few = absurd (omega (arith, ints))

-- a duration that may be infinite isn't negative, and not over 10^21
abbrev pub IsLasting : Option ℤ → Type 0
IsLasting lasting = IfSome lasting (λ d. (pos 0 ≤ℤ d) × (d ≤ℤ pos (10 ^ 21)))

pub lasting_bounds : (t : AnimationTiming) → IsTiming t → IsLasting (active_duration t)
lasting_bounds t is = go (int_eq t.duration.0 (pos 0)) t.count is.count where
  go : (b : Bool) (count : Count) → IsCount count → IsLasting (if b then Some (pos 0) else repeated t.duration.0 count)
  go true count some = (omega (arith, ints), omega (arith, ints))
  go false (Times n) (low, high) = repeated_bounds t.duration.0 n.0 is.duration.low is.duration.high low high
  go false Infinite some = tt

-- ---- the boundaries

first_boundary : (delay : ℤ) (lasting : Option ℤ) → IsLasting lasting
    → int_max (no_later_than (option_map (λ d. int_max (delay +ℤ d) (pos 0)) lasting) delay) (pos 0) ≡ int_max delay (pos 0)
first_boundary delay None is = refl
first_boundary delay (Some d) (low, high) = omega (arith, ints, clamps)

pub before_boundary : (t : AnimationTiming) → IsTiming t → before_active_boundary t ≡ int_max t.delay.0 (pos 0)
before_boundary t is = first_boundary t.delay.0 (active_duration t) (lasting_bounds t is)

after_boundary : (end : ℤ) → int_max (int_min end (int_max end (pos 0))) (pos 0) ≡ int_max end (pos 0)
after_boundary end = omega (arith, ints, clamps)

pub after_boundary_at : (t : AnimationTiming) (lasting : ℤ) → active_duration t ≡ Some lasting
    → active_after_boundary t ≡ Some (int_max (t.delay.0 +ℤ lasting) (pos 0))
after_boundary_at t lasting e = rw e (ap Some (after_boundary (t.delay.0 +ℤ lasting)))

boundaries_ordered : (delay : ℤ) (lasting : Option ℤ) → IsLasting lasting
    → IfSome (option_map (λ d. int_max (no_later_than (option_map (λ e. int_max (delay +ℤ e) (pos 0)) lasting) (delay +ℤ d)) (pos 0)) lasting)
    (λ second. int_max (no_later_than (option_map (λ e. int_max (delay +ℤ e) (pos 0)) lasting) delay) (pos 0) ≤ℤ second)
boundaries_ordered delay None is = tt
boundaries_ordered delay (Some d) (low, high) = omega (arith, ints, clamps)

-- the second boundary isn't before the first
pub ordered : (t : AnimationTiming) → IsTiming t → IfSome (active_after_boundary t) (λ second. before_active_boundary t ≤ℤ second)
ordered t is = boundaries_ordered t.delay.0 (active_duration t) (lasting_bounds t is)

end_fits : (delay lasting : ℤ) → unsigned_abs delay ≤ 10 ^ 15 → (pos 0 ≤ℤ lasting) × (lasting ≤ℤ pos (10 ^ 21)) → SFits w128 (delay +ℤ lasting)
end_fits delay lasting size (low, high) =
    let small : unsigned_abs (delay +ℤ lasting) ≤ 2 * 10 ^ 21 = omega (arith, ints) in fits_signed_from_abs w128 (delay +ℤ lasting) (omega arith)

-- the sum of the delay and the active duration
pub end_fits_at : (t : AnimationTiming) (lasting : ℤ) → IsTiming t → active_duration t ≡ Some lasting → SFits w128 (t.delay.0 +ℤ lasting)
end_fits_at t lasting is e = end_fits t.delay.0 lasting is.delay.size (subst IsLasting e (lasting_bounds t is))

-- a part in billionths
pub in_billionths : (num den : ℤ) → pos 0 ≤ℤ num → num ≤ℤ den → pos 0 <ℤ den → IsFraction (rounded_quotient (num *ℤ pos (10 ^ 9)) den)
in_billionths num (pos d) low high some =
    let h = rounded_between (pos 0) (pos (10 ^ 9)) (num *ℤ pos (10 ^ 9)) (pos d) some (omega (arith, ints)) (omega (arith, ints)) in
    record { low = h.0; high = h.1 }
in_billionths num (negsuc d) low high some = absurd (omega (arith, ints))
