-- The time that whole iterations have taken.
use Rattle.std.proofs.Common.{◌≡◌, ◌∙◌, ℕ, zero, suc, ◌*◌, ◌/◌, ◌^◌, ◌≤◌, refl, sym, subst, arith}
use Rattle.std.specs.Prelude.{ℤ, pos, negsuc, ◌-ℤ◌, ◌≤ℤ◌, ◌<ℤ◌, unsigned_abs, unwrap_or, Bool, true, false, Option, None, Some, option_map, IfSome, if◌then◌else◌}
use Rattle.std.specs.Int.{int_div_euclid, int_max}
use Rattle.std.specs.Ordering.{int_eq}
use Rattle.std.proofs.lemmas.Bool.Decides.{Decides-int_eq}
use Rattle.std.proofs.lemmas.Int.{ints, clamps}
use Rattle.std.proofs.Math.Nat.{div-add-mod}
use Rattle.fix_num.specs.declared.units.TheConstants.Fix.{ONE}
use Rattle.style_data.specs.Animations.{IsTiming}
use Rattle.style_data.specs.declared.timing.AnimationTiming.{AnimationTiming}
use Rattle.style_data.specs.declared.transition.Phase.{Phase}
use Rattle.style_data.specs.declared.transition.Phase.TheVariants.{Idle, Before, Active, After}
use Rattle.anim_timing.specs.ActiveTimes.{active_time, active_time_in, fills_backwards, fills_forwards}
use Rattle.anim_timing.specs.Durations.{active_duration, no_later_than}
use Rattle.anim_timing.specs.Iterations.{count_of, current_iteration, ends_iteration, is_before, ratio}
use Rattle.anim_timing.specs.Phases.{phase_of}
use Rattle.anim_timing.specs.Progresses.{progress_in, progress_of}
use Rattle.anim_timing.specs.declared.progress.Progress.{Progress}
use Rattle.anim_timing.proofs.PhaseLemmas.{since_delay}

-- ---- active times

abbrev IsActive : ℤ → Type 0
IsActive active = (pos 0 ≤ℤ active) × (active ≤ℤ pos (2 * 10 ^ 15))

limited : (limit : Option ℤ) (time : ℤ) → time ≤ℤ pos (2 * 10 ^ 15) → IsActive (int_max (no_later_than limit time) (pos 0))
limited None time small = (omega (arith, ints, clamps), omega (arith, ints, clamps))
limited (Some limit) time small = (omega (arith, ints, clamps), omega (arith, ints, clamps))

active_bounds : (t : AnimationTiming) (local : ℤ) → IsTiming t → unsigned_abs local ≤ 10 ^ 15 → IfSome (active_time t local) IsActive
active_bounds t local is small = go (phase_of t local) refl where
  passed : (local -ℤ t.delay.0) ≤ℤ pos (2 * 10 ^ 15)
  passed = let size = is.delay.size in omega (arith, ints)

  filled : (b : Bool) (active : ℤ) → IsActive active → IfSome (if b then Some active else None) IsActive
  filled true active bounds = bounds
  filled false active bounds = tt

  go : (phase : Phase) → phase_of t local ≡ phase → IfSome (active_time_in t phase local) IsActive
  go Idle e = tt
  go Before e = filled (fills_backwards t.fill) (int_max (local -ℤ t.delay.0) (pos 0)) (limited None (local -ℤ t.delay.0) passed)
  go Active e = (since_delay t local Active is (sym e) refl, passed)
  go After e = filled (fills_forwards t.fill) (int_max (no_later_than (active_duration t) (local -ℤ t.delay.0)) (pos 0)) (limited (active_duration t) (local -ℤ t.delay.0) passed)

-- ---- whole iterations

abbrev counted : ℤ → ℤ → Bool → ℤ
counted active duration ends = (if ends then int_div_euclid active duration -ℤ pos 1 else int_div_euclid active duration)

before : (n d a : ℕ) → n * d ≤ a → d ≤ 10 ^ 15 → a ≤ 2 * 10 ^ 15 → unsigned_abs (pos n -ℤ pos 1) * d ≤ 2 * 10 ^ 15
before zero d a within short small = omega (arith, short)
before (suc n) d a within short small = let e : pos (suc n) -ℤ pos 1 ≡ pos n = omega (arith, ints) in rw e (omega (arith, within, small))

whole_small : (active duration : ℤ) (ends : Bool) → pos 0 <ℤ duration → duration ≤ℤ pos (10 ^ 15) → IsActive active
    → unsigned_abs (counted active duration ends) * unsigned_abs duration ≤ 2 * 10 ^ 15
whole_small (pos a) (pos d) true some short (low, high) = before (a / d) d a (omega (arith, div-add-mod a d)) (omega (arith, ints)) (omega (arith, ints))
whole_small (pos a) (pos d) false some short (low, high) = let small : a ≤ 2 * 10 ^ 15 = omega (arith, ints) in omega (arith, div-add-mod a d)
whole_small (negsuc a) d ends some short (low, high) = absurd (omega (arith, ints))
whole_small (pos a) (negsuc d) ends some short bounds = absurd (omega (arith, ints))

passed_in : (t : AnimationTiming) (phase : Phase) (active : ℤ) → IsTiming t → IsActive active → (progress_in t phase active).iteration * unsigned_abs t.duration.0 ≤ 2 * 10 ^ 15
passed_in t phase active is bounds = go (int_eq t.duration.0 (pos 0)) refl (ends_iteration t phase active) where
  nothing : (n : ℕ) (d : ℤ) → d ≡ pos 0 → n * unsigned_abs d ≤ 2 * 10 ^ 15
  nothing n d none = rw none (omega arith)

  go : (b : Bool) → int_eq t.duration.0 (pos 0) ≡ b → (ends : Bool)
      → unsigned_abs (unwrap_or (current_iteration (if b then (if is_before phase then Some (ratio (pos 0) ONE.0) else count_of t.count) else Some (ratio active t.duration.0)) ends) (pos 0))
      * unsigned_abs t.duration.0 ≤ 2 * 10 ^ 15
  go true e ends = nothing _ t.duration.0 ((Decides-int_eq t.duration.0 (pos 0)).0 e)
  go false e ends =
      let low = is.duration.low in
      let some : t.duration.0 ≡ pos 0 → ⊥ = λ none. let h : true ≡ false = sym ((Decides-int_eq t.duration.0 (pos 0)).1 none) ∙ e in cc in
      whole_small active t.duration.0 ends (positive t.duration.0 low some) is.duration.high bounds
    where
      positive : (d : ℤ) → pos 0 ≤ℤ d → (d ≡ pos 0 → ⊥) → pos 0 <ℤ d
      positive (pos zero) low some = absurd (some refl)
      positive (pos (suc d)) low some = omega (arith, ints)
      positive (negsuc d) low some = absurd (omega (arith, ints))

-- the iterations before the current one have taken no longer than an animation can have been active
pub iterations_passed : (t : AnimationTiming) (local : ℤ) (p : Progress) → IsTiming t → unsigned_abs local ≤ 10 ^ 15 → progress_of t local ≡ Some p
    → p.iteration * unsigned_abs t.duration.0 ≤ 2 * 10 ^ 15
unfolding progress_of
iterations_passed t local p is small e = go (active_time t local) (active_bounds t local is small) e where
  go : (o : Option ℤ) → IfSome o IsActive → option_map (progress_in t (phase_of t local)) o ≡ Some p → p.iteration * unsigned_abs t.duration.0 ≤ 2 * 10 ^ 15
  go None bounds e = absurd (cc)
  go (Some active) bounds e =
      let same : progress_in t (phase_of t local) active ≡ p = cc in
      subst (λ (q : Progress). q.iteration * unsigned_abs t.duration.0 ≤ 2 * 10 ^ 15) same (passed_in t (phase_of t local) active is bounds)
