use Rattle.std.proofs.Common.{rules}
use Rattle.std.specs.Prelude.{◌-ℤ◌}
use Rattle.std.specs.Int.{w64}
use Rattle.std.proofs.lemmas.Int.{to_z-of_z}
use mir.Val.{SFits}
use Rattle.transition_start.proofs.Times.{difference_fits, moment_small}
use Rattle.transition_start.proofs.cancel.elapsed.Goals as goal

pub returns : goal.returns
returns c =
    let t : SFits w64 c.args.t.0 = search rules in
    let start : SFits w64 c.args.r.start.0 = search rules in
    let end : SFits w64 c.args.r.end.0 = search rules in
    let elapsed : SFits w64 (c.args.t.0 -ℤ c.args.r.start.0) = difference_fits c.args.t.0 c.args.r.start.0 (moment_small c.args.t.0 c.requires.time) c.requires.bounds.start in
    let duration : SFits w64 (c.args.r.end.0 -ℤ c.args.r.start.0) = difference_fits c.args.r.end.0 c.args.r.start.0 c.requires.bounds.end c.requires.bounds.start in
    let result : SFits w64 c.capped.result = search rules in
    rw (to_z-of_z w64 c.capped.result result) (simp to_z-of_z at c.capped.ensures)
