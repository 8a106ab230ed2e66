use Rattle.keyframes.specs.SamplesIn.{samples_in}
use Rattle.animation_names.specs.Samples.{sample_of_animation}
use Rattle.animation_names.proofs.NumberedLemmas.{filter_map-step}
use Rattle.animation_names.proofs.sampling.sampled.Goals as goal

pub loop-animation-preserved : goal.loop-animation-preserved
loop-animation-preserved c =
    filter_map-step (sample_of_animation c.args.sheets.now c.args.t.0) c.args.animations.now c.loop-animation.animation-index c.animation-item.result
    (samples_in c.loop-animation.samples) (samples_in c.push_sample.new.samples) c.loop-animation-test.true c.animation-item.is c.loop-animation.invariant c.in_ok-push_sample.ensures
