use Rattle.std.proofs.Common.{arith}
use Rattle.keyframes.specs.SampleLists.{value_given_by}
use Rattle.keyframes.proofs.ListLemmas.{last_given-more}
use Rattle.keyframes.proofs.sampling.last_given.Goals as goal

pub loop-sample-preserved : goal.loop-sample-preserved
loop-sample-preserved c =
    let more = last_given-more (value_given_by c.args.p c.args.parent_size c.args.own_size c.args.root_size c.args.under) c.args.samples.now
    c.loop-sample.sample-index c.sample-item.result (omega arith) in
    cc (more, c.sample-item.is, c.value-given.ensures.value, c.or-last.ensures, c.loop-sample.invariant)
