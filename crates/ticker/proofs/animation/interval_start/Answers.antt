use Rattle.std.proofs.Common.{◌∙◌, ap, rules, subst, sym}
use Rattle.std.specs.Prelude.{ℤ, pos, ◌-ℤ◌, ◌≤ℤ◌}
use Rattle.std.specs.Int.{int_max, w64}
use Rattle.std.proofs.lemmas.Int.{to_z-of_z}
use mir.Val.{SFits}
use Rattle.fix_num.specs.declared.limits.TheConstants.{MAX_TIME}
use Rattle.anim_timing.specs.Durations.{active_duration, no_later_than}
use Rattle.style_data.specs.declared.timing.AnimationTiming.{AnimationTiming}
use Rattle.ticker.proofs.Times.{skipped_fits, start_small}
use Rattle.ticker.proofs.animation.interval_start.Goals as goal

pub returns-clause-value : goal.returns-clause-value
returns-clause-value c =
    let delay : SFits w64 c.get-skipped.result.delay.0 = search rules in
    let skipped : SFits w64 (pos 0 -ℤ c.get-skipped.result.delay.0) = skipped_fits c.get-skipped.result.delay.0 c.get-skipped.ensures.bounds.delay.size in
    let limited : SFits w64 c.no_later_than.result = record { sfits = c.no_later_than.type_inv } in
    let result : SFits w64 c.max.result = record { sfits = c.max.type_inv } in
    let limit = simp to_z-of_z at c.no_later_than.ensures in
    rw (to_z-of_z w64 c.max.result result)
    (simp to_z-of_z at c.max.ensures.value
    ∙ ap (λ v. int_max v (pos 0))
    (limit ∙ ap (λ l. no_later_than l (pos 0 -ℤ c.get-skipped.result.delay.0)) c.active_duration.ensures.value
    ∙ ap (λ (t : AnimationTiming). no_later_than (active_duration c.args.timing) (pos 0 -ℤ t.delay.0)) c.get-skipped.ensures.value))

pub returns-clause-high : goal.returns-clause-high
returns-clause-high c =
    let delay : SFits w64 c.get-skipped.result.delay.0 = search rules in
    let skipped : SFits w64 (pos 0 -ℤ c.get-skipped.result.delay.0) = skipped_fits c.get-skipped.result.delay.0 c.get-skipped.ensures.bounds.delay.size in
    let limited : SFits w64 c.no_later_than.result = record { sfits = c.no_later_than.type_inv } in
    let result : SFits w64 c.max.result = record { sfits = c.max.type_inv } in
    let limit = simp to_z-of_z at c.no_later_than.ensures in
    rw (to_z-of_z w64 c.max.result result)
    (subst (λ (v : ℤ). v ≤ℤ pos MAX_TIME)
    (sym (simp to_z-of_z at c.max.ensures.value ∙ ap (λ v. int_max v (pos 0)) limit))
    (start_small c.active_duration.result c.get-skipped.result.delay.0 c.get-skipped.ensures.bounds.delay.size))
