use Rattle.std.proofs.Common.{◌≡◌, refl}
use Rattle.std.specs.Prelude.{ℤ, Bool, Option}
use Rattle.std.specs.Int.{w128}
use Rattle.std.proofs.lemmas.Int.{to_z-of_z}
use mir.Val.{SFits}
use Rattle.style_data.specs.declared.timing.AnimationTiming.{AnimationTiming}
use Rattle.style_data.specs.declared.transition.Phase.{Phase}
use Rattle.anim_timing.specs.declared.iterations.Ratio.{Ratio}
use Rattle.anim_timing.specs.declared.progress.Progress.{Progress}
use Rattle.anim_timing.specs.Directions.{directed_progress}
use Rattle.anim_timing.specs.Iterations.{current_iteration, ends_iteration, overall_progress, simple_iteration_progress}
use Rattle.anim_timing.specs.Progresses.{progress_in, progress_with}
use Rattle.anim_timing.proofs.progress.progress_in.Goals as goal

step_by_step : (t : AnimationTiming) (phase : Phase) (active : ℤ) (overall : Option Ratio) (ends : Bool) (iteration : Option ℤ) (simple directed : Ratio) (p : Progress)
    → overall ≡ overall_progress t phase active → ends ≡ ends_iteration t phase active → iteration ≡ current_iteration overall ends
    → simple ≡ simple_iteration_progress overall ends → directed ≡ directed_progress t.direction iteration simple → p ≡ progress_with directed iteration
    → p ≡ progress_in t phase active
step_by_step t phase active overall ends iteration simple directed p o e i s d is = rw (is, d, s, i, e, o) refl

pub returns-clause-value : goal.returns-clause-value
returns-clause-value c =
    let active : SFits w128 c.args.active = c.ranges.active in
    let overall = simp to_z-of_z at c.overall_progress-overall.ensures.value in
    let ends = simp to_z-of_z at c.ends_iteration-ends.ensures in
    step_by_step c.args.t c.args.phase c.args.active c.overall_progress-overall.result c.ends_iteration-ends.result c.current_iteration-iteration.result
    c.simple_iteration_progress-simple.result c.directed_progress.result c.progress_with.result overall ends c.current_iteration-iteration.ensures.value
    c.simple_iteration_progress-simple.ensures.value c.directed_progress.ensures.value c.progress_with.ensures.value
