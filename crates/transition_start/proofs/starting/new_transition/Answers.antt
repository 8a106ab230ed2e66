use Rattle.std.proofs.Common.{arith}
use Rattle.std.proofs.lemmas.Int.{ints}
use Rattle.transition_start.proofs.starting.new_transition.Goals as goal

pub new-requires : goal.new-requires
new-requires c =
    let start = c.times.ensures.start in
    let end = c.times.ensures.end in
    let early = c.requires.change.time.low in
    let late = c.requires.change.time.high in
    let delay = c.requires.item.delay.size in
    let short = c.requires.item.duration.low in
    let long = c.requires.item.duration.high in
    record {
      created = c.requires.change.time;
      ordered = omega (arith, ints);
      start = omega (arith, ints);
      end = omega (arith, ints);
      easing = c.requires.item.easing;
      factor = record { low = omega (arith, ints); high = omega (arith, ints) };
    }
