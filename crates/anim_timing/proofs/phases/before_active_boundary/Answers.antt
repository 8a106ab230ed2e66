use Rattle.std.proofs.Common.{◌≡◌, ◌∙◌, ap, sym, rules}
use Rattle.std.specs.Prelude.{pos}
use Rattle.std.specs.Int.{int_max, w64, w128}
use Rattle.std.proofs.lemmas.Int.{to_z-of_z}
use mir.Val.{SFits}
use Rattle.anim_timing.proofs.Bounds.{before_boundary}
use Rattle.anim_timing.proofs.phases.before_active_boundary.Goals as goal

pub returns : goal.returns
returns c =
    let delay : SFits w64 c.args.t.delay.0 = search rules in
    let wide : SFits w128 c.from.result = record { sfits = c.from.type_inv } in
    let fits : SFits w128 c.max.result = record { sfits = c.max.type_inv } in
    let is : c.from.result ≡ c.args.t.delay.0 = simp to_z-of_z at c.from.ensures in
    let value = simp to_z-of_z at c.max.ensures.value in
    rw (to_z-of_z w128 c.max.result fits) (value ∙ ap (λ v. int_max v (pos 0)) is ∙ sym (before_boundary c.args.t c.requires))
