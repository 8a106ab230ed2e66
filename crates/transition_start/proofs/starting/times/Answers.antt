use Rattle.std.specs.Prelude.{◌+ℤ◌}
use Rattle.std.specs.Int.{w64}
use Rattle.std.proofs.Common.{rules}
use Rattle.std.proofs.lemmas.Int.{to_z-of_z}
use mir.Val.{SFits}
use Rattle.transition_start.proofs.starting.times.Goals as goal

pub returns-clause-start : goal.returns-clause-start
returns-clause-start c =
    let t : SFits w64 c.args.t.0 = search rules in
    let delay : SFits w64 c.args.item.delay.0 = search rules in
    let start : SFits w64 (c.args.t.0 +ℤ c.args.item.delay.0) = search rules in
    simp to_z-of_z

pub returns-clause-end : goal.returns-clause-end
returns-clause-end c =
    let t : SFits w64 c.args.t.0 = search rules in
    let delay : SFits w64 c.args.item.delay.0 = search rules in
    let duration : SFits w64 c.args.item.duration.0 = search rules in
    let start : SFits w64 (c.args.t.0 +ℤ c.args.item.delay.0) = search rules in
    let end : SFits w64 ((c.args.t.0 +ℤ c.args.item.delay.0) +ℤ c.args.item.duration.0) = search rules in
    simp to_z-of_z
