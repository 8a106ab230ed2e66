use Rattle.std.proofs.Common.{◌≡◌, take}
use Rattle.keyframes.specs.Last.{last_given}
use Rattle.keyframes.specs.SampleLists.{value_given_by}
use Rattle.keyframes.proofs.sampling.last_given.Given as goal

abbrev pub invariant-loop-sample : goal.invariant-loop-sample
invariant-loop-sample l = l.last ≡ last_given (value_given_by l.p l.parent_size l.own_size l.root_size l.under) (take l.sample-index l.samples)
