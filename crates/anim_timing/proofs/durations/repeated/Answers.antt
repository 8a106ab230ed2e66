use Rattle.std.proofs.Common.{rules}
use Rattle.std.specs.Int.{w64, w128}
use Rattle.std.proofs.lemmas.Int.{to_z-of_z}
use mir.Val.{SFits}
use Rattle.anim_timing.proofs.Bounds.{repeated_bounds}
use Rattle.anim_timing.proofs.durations.repeated.Goals as goal

pub returns-clause-bounds : goal.returns-clause-bounds
returns-clause-bounds c =
    let duration : SFits w64 c.args.duration.0 = search rules in
    let times : SFits w64 c.args.times.0 = search rules in
    let fits : SFits w128 c.rounded_product.result = record { sfits = c.rounded_product.type_inv } in
    rw (to_z-of_z w128 c.rounded_product.result fits, simp to_z-of_z at c.rounded_product.ensures.value)
    (repeated_bounds c.args.duration.0 c.args.times.0 c.requires.duration.low c.requires.duration.high c.requires.times.0 c.requires.times.1)
