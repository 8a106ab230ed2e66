use Rattle.std.proofs.Common.{◌≡◌, take}
use Rattle.std.specs.List.{filter_map}
use Rattle.keyframes.specs.SamplesIn.{samples_in}
use Rattle.animation_names.specs.Samples.{sample_of_animation}
use Rattle.animation_names.proofs.sampling.sampled.Given as goal

-- the samples of the animations so far
abbrev pub invariant-loop-animation : goal.invariant-loop-animation
invariant-loop-animation l = samples_in l.samples ≡ filter_map (sample_of_animation l.sheets l.t.0) (take l.animation-index l.animations)
