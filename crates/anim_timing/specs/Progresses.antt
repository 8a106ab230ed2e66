-- The progress of an animation (Web Animations Level 1, "Core animation effect calculations").
use Rattle.std.specs.Prelude.{ℤ, pos, ◌*ℤ◌, ◌≤ℤ◌, ◌<ℤ◌, unsigned_abs, Option, option_map, unwrap_or}
use Rattle.fix_num.specs.Rounding.{rounded_quotient}
use Rattle.fix_num.specs.declared.limits.TheConstants.{MAX_TIME}
use Rattle.fix_num.specs.declared.units.TheConstants.Bill.{ONE}
use Rattle.style_data.specs.declared.animation.AnimationState.{AnimationState}
use Rattle.style_data.specs.declared.timing.AnimationTiming.{AnimationTiming}
use Rattle.style_data.specs.declared.transition.Phase.{Phase}
use Rattle.anim_timing.specs.declared.iterations.Ratio.{Ratio}
use Rattle.anim_timing.specs.declared.progress.Progress.{Progress}
use Rattle.anim_timing.specs.ActiveTimes.{active_time}
use Rattle.anim_timing.specs.Directions.{directed_progress}
use Rattle.anim_timing.specs.Iterations.{iteration_in, progress_in_iteration}
use Rattle.anim_timing.specs.Phases.{phase_of}
use Rattle.anim_timing.specs.Playing.{local_time}

-- a directed progress with its value in billionths, and the current iteration; an infinite one is given as 0
abbrev pub progress_with : Ratio → Option ℤ → Progress
progress_with r iteration = record {
  num = r.num;
  den = r.den;
  value = record { 0 = rounded_quotient (r.num *ℤ ONE.0) r.den };
  iteration = unsigned_abs (unwrap_or iteration (pos 0));
}

-- the progress in a phase at an active time
abbrev pub progress_in : AnimationTiming → Phase → ℤ → Progress
progress_in t phase active =
    progress_with (directed_progress t.direction (iteration_in t phase active) (progress_in_iteration t phase active)) (iteration_in t phase active)

-- the progress at a local time; none where the active time is unresolved
unfoldable pub progress_of : AnimationTiming → ℤ → Option Progress
progress_of t local = option_map (progress_in t (phase_of t local)) (active_time t local)

-- the progress of an animation at time t
abbrev pub progress_at : AnimationState → ℤ → Option Progress
progress_at a t = progress_of a.timing (local_time a t)

-- a part of the whole, of at most the longest time
pub record IsProgress (p : Progress) : Type 0 where
  pub low : pos 0 ≤ℤ p.num
  pub high : p.num ≤ℤ p.den
  pub positive : pos 0 <ℤ p.den
  pub small : p.den ≤ℤ pos MAX_TIME
