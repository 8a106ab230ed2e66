use Rattle.std.proofs.Common.{◌≡◌, codes, length, arith}
use Rattle.transcript_cli.specs.Demo.{tells_event, tells_event_of}
use Rattle.transcript_cli.proofs.Tallies.{count_ends, count_small}
use Rattle.transcript_cli.proofs.tally.Tally.of.Goals as goal

pub with_line-tally-requires-clause-events : goal.with_line-tally-requires-clause-events
with_line-tally-requires-clause-events c =
    omega (arith, c.lines.invariant.events, count_small tells_event c.args.transcript.now)

pub with_line-tally-requires-clause-cancels : goal.with_line-tally-requires-clause-cancels
with_line-tally-requires-clause-cancels c =
    omega (arith, c.lines.invariant.cancels, count_small (tells_event_of (codes "transitioncancel")) c.args.transcript.now)

pub with_line-tally-requires-clause-ends : goal.with_line-tally-requires-clause-ends
with_line-tally-requires-clause-ends c =
    omega (arith, c.lines.invariant.ends, count_small (tells_event_of (codes "transitionend")) c.args.transcript.now)

pub returns-clause-events : goal.returns-clause-events
returns-clause-events c =
    let none : length c.lines.rest.now ≡ 0 = grind arith in
    count_ends tells_event c.lines.rest.now _ _ none c.lines.invariant.events

pub returns-clause-cancels : goal.returns-clause-cancels
returns-clause-cancels c =
    let none : length c.lines.rest.now ≡ 0 = grind arith in
    count_ends (tells_event_of (codes "transitioncancel")) c.lines.rest.now _ _ none c.lines.invariant.cancels

pub returns-clause-ends : goal.returns-clause-ends
returns-clause-ends c =
    let none : length c.lines.rest.now ≡ 0 = grind arith in
    count_ends (tells_event_of (codes "transitionend")) c.lines.rest.now _ _ none c.lines.invariant.ends
