use Rattle.std.proofs.Common.{◌∙◌, ap, subst, sym}
use Rattle.anim_timing.specs.Playing.{local_time}
use Rattle.style_data.specs.Animations.{IsAnimation, IsTiming}
use Rattle.style_data.specs.declared.animation.AnimationState.{AnimationState}
use Rattle.ticker.proofs.Passed.{iterations_passed}
use Rattle.ticker.proofs.Times.{local_small}
use Rattle.ticker.proofs.animation.push_iteration.Goals as goal

pub animationiteration-requires-clause-passed : goal.animationiteration-requires-clause-passed
animationiteration-requires-clause-passed c =
    let state = subst IsAnimation c.get.ensures.value c.get.ensures.bounds in
    let timing = subst IsTiming (c.get-2.ensures.value ∙ ap (λ (a : AnimationState). a.timing) c.get.ensures.value) c.get-2.ensures.bounds in
    iterations_passed c.args.a.now.timing (local_time c.args.a.now c.args.t.0) c.in-Some.progress timing (local_small c.args.a.now c.args.t.0 state c.requires)
    (sym c.in-Some.ensures.value)
