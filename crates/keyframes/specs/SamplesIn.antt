-- Samples as they are kept.
use Rattle.std.specs.Prelude.{List}
use Rattle.keyframes.specs.declared.animation_sample.SampleParts.{SampleParts}
use Rattle.keyframes.specs.declared.sampled.Sampled.{Sampled}

-- the samples of the animations, in their order
abbrev pub samples_in : Sampled → List SampleParts
samples_in s = s.samples
