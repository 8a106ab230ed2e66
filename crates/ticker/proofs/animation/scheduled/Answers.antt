use Rattle.std.proofs.Common.{◌∙◌, ap, rules}
use Rattle.std.specs.Prelude.{ℤ, ◌+ℤ◌, ◌-ℤ◌}
use Rattle.std.specs.Int.{int_max, int_min, w64}
use Rattle.std.proofs.lemmas.Int.{to_z-of_z}
use mir.Val.{SFits}
use Rattle.anim_timing.specs.Playing.{local_time}
use Rattle.style_data.specs.declared.animation.AnimationState.{AnimationState}
use Rattle.style_data.specs.declared.timing.AnimationTiming.{AnimationTiming}
use Rattle.ticker.proofs.Times.{sums_fit}
use Rattle.ticker.proofs.animation.scheduled.Goals as goal

pub returns : goal.returns
returns c =
    let t : SFits w64 c.args.t.0 = search rules in
    let local : SFits w64 c.local_time.result.0 = search rules in
    let delay : SFits w64 c.get.result.delay.0 = search rules in
    let active : SFits w64 c.args.active = c.ranges.active in
    let created : SFits w64 c.get-state.result.now.created.0 = search rules in
    let result : SFits w64 c.clamped.result = search rules in
    let sums =
    sums_fit c.args.t.0 c.local_time.result.0 c.get.result.delay.0 c.args.active c.requires.time c.local_time.ensures.size c.get.ensures.bounds.delay.size
    c.requires.low c.requires.high in
    let since = sums.since in
    let began = sums.began in
    let came = sums.came in
    let at : ℤ → ℤ → ℤ → ℤ = λ local delay created. int_min (int_max (((c.args.t.0 -ℤ local) +ℤ delay) +ℤ c.args.active) created) c.args.t.0 in
    rw (to_z-of_z w64 c.clamped.result result) (simp to_z-of_z at c.clamped.ensures)
    ∙ ap (λ l. at l c.get.result.delay.0 c.get-state.result.now.created.0) c.local_time.ensures.value
    ∙ ap (λ (tm : AnimationTiming). at (local_time c.args.a.now c.args.t.0) tm.delay.0 c.get-state.result.now.created.0) c.get.ensures.value
    ∙ ap (λ (a : AnimationState). at (local_time c.args.a.now c.args.t.0) a.timing.delay.0 a.created.0) c.get-state.ensures.value
