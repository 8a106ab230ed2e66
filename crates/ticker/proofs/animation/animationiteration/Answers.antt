use Rattle.std.proofs.Common.{◌≡◌, ◌∙◌, ap, rules}
use Rattle.std.specs.Prelude.{◌*ℤ◌}
use Rattle.std.specs.Int.{w64, w128}
use Rattle.std.proofs.lemmas.Int.{to_z-of_z}
use mir.Val.{SFits, of_z, to_z}
use Rattle.style_data.specs.declared.animation.AnimationState.{AnimationState}
use Rattle.style_data.specs.declared.event.EventKind.TheVariants.{Iteration}
use Rattle.style_data.specs.declared.timing.AnimationTiming.{AnimationTiming}
use Rattle.ticker.proofs.Times.{narrowed_product}
use Rattle.ticker.proofs.animation.animationiteration.Goals as goal
use Rattle.ticker.specs.AnimationEvents.{scheduled}
use Rattle.ticker.specs.Events.{occurrence}

pub returns : goal.returns
returns c =
    let duration : SFits w64 c.get-2.result.duration.0 = search rules in
    let first : SFits w128 c.from.result = record { sfits = c.from.type_inv } in
    let second : SFits w128 c.from-2.result = record { sfits = c.from-2.type_inv } in
    let is : c.from-2.result ≡ c.args.a.now.timing.duration.0 =
    simp to_z-of_z at c.from-2.ensures ∙ ap (λ (tm : AnimationTiming). tm.duration.0) c.get-2.ensures.value
    ∙ ap (λ (a : AnimationState). a.timing.duration.0) c.get.ensures.value in
    let low = c.get-2.ensures.bounds.duration.low in
    let product =
    narrowed_product c.from.result c.from-2.result c.args.iteration c.args.a.now.timing.duration.0 first second c.from.ensures is
    (rw (c.get-2.ensures.value, c.get.ensures.value) at low) c.requires.passed in
    let narrow = to_z w64 (of_z w64 (to_z w128 (of_z w128 (to_z w128 (of_z w128 c.from.result) *ℤ to_z w128 (of_z w128 c.from-2.result))))) in
    ap (λ time. occurrence Iteration narrow time) c.scheduled.ensures ∙ ap (λ active. occurrence Iteration active (scheduled c.args.a.now c.args.t.0 active)) product
