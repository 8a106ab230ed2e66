use Rattle.std.proofs.Common.{arith}
use Rattle.std.specs.Int.{w128}
use Rattle.std.proofs.lemmas.Int.{ints, clamps, to_z-of_z}
use mir.Val.{SFits}
use Rattle.anim_timing.proofs.PhaseLemmas.{since_delay}
use Rattle.anim_timing.proofs.active.active_time_in.Goals as goal

pub returns-in-Active-clause-bounds : goal.returns-in-Active-clause-bounds
returns-in-Active-clause-bounds c =
    let local : SFits w128 c.args.local = c.ranges.local in
    let since : SFits w128 c.since_delay-since.result = record { sfits = c.since_delay-since.type_inv } in
    let value = simp to_z-of_z at c.since_delay-since.ensures.value in
    let size = c.since_delay-since.ensures.size in
    rw (to_z-of_z w128 c.since_delay-since.result since)
    (rw value (since_delay c.args.t c.args.local c.args.phase c.requires.timing c.requires.phase c.in-Active.is), omega (arith, ints))

pub returns-in-After-clause-bounds : goal.returns-in-After-clause-bounds
returns-in-After-clause-bounds c =
    let since : SFits w128 c.since_delay-since.result = record { sfits = c.since_delay-since.type_inv } in
    let limited : SFits w128 c.no_later_than.result = record { sfits = c.no_later_than.type_inv } in
    let result : SFits w128 c.not_negative-in-After.result = record { sfits = c.not_negative-in-After.type_inv } in
    let value = simp to_z-of_z at c.not_negative-in-After.ensures in
    let bound = simp to_z-of_z at c.no_later_than.ensures.bound in
    let size = c.since_delay-since.ensures.size in
    rw (to_z-of_z w128 c.not_negative-in-After.result result, value) (omega (arith, ints, clamps), omega (arith, ints, clamps))
