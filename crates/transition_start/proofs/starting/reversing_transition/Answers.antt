use Rattle.std.proofs.Common.{arith}
use Rattle.std.proofs.lemmas.Int.{ints}
use Rattle.reversing.specs.Reversal.{part_of, reversed_start}
use Rattle.reversing.proofs.Parts.{further, part_within}
use Rattle.transition_start.proofs.starting.reversing_transition.Goals as goal

pub new-requires : goal.new-requires
new-requires c =
    let start = c.reversed_times.ensures.start_size in
    let end = c.reversed_times.ensures.end_size in
    let factor = c.shortened-factor.ensures.factor in
    record {
      created = c.requires.change.time;
      ordered = rw (c.reversed_times.ensures.start, c.reversed_times.ensures.end)
          (further (reversed_start c.args.change.time.0 c.args.item.delay.0 c.shortened-factor.result.0) (part_of c.shortened-factor.result.0 c.args.item.duration.0)
          (part_within c.shortened-factor.result.0 c.args.item.duration.0 factor c.requires.item.duration.low).0);
      start = omega (arith, ints);
      end = omega (arith, ints);
      easing = c.requires.item.easing;
      factor = factor;
    }
