use Rattle.std.proofs.Common.{rules}
use Rattle.std.specs.Prelude.{◌-ℤ◌}
use Rattle.std.specs.Int.{w64}
use Rattle.std.proofs.lemmas.Int.{to_z-of_z}
use mir.Val.{SFits}
use Rattle.transition_start.proofs.Times.{difference_fits}
use Rattle.ticker.proofs.transition.ended.Goals as goal

pub returns : goal.returns
returns c =
    let created : SFits w64 c.args.r.created.0 = search rules in
    let start : SFits w64 c.args.r.start.0 = search rules in
    let end : SFits w64 c.args.r.end.0 = search rules in
    let duration : SFits w64 (c.args.r.end.0 -ℤ c.args.r.start.0) = difference_fits c.args.r.end.0 c.args.r.start.0 c.requires.end c.requires.start in
    let latest : SFits w64 c.max.result = search rules in
    let value = simp to_z-of_z at c.max.ensures.value in
    rw (to_z-of_z w64 c.max.result latest, value) (simp to_z-of_z)
