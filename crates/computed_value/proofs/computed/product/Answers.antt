use Rattle.std.proofs.Common.{◌∙◌, ap}
use Rattle.std.specs.Prelude.{neg_ℤ, pos}
use Rattle.std.specs.Int.{w64, w128}
use Rattle.std.proofs.lemmas.Int.{to_z-of_z}
use mir.Val.{SFits}
use Rattle.fix_num.specs.Clamping.{clamped_number}
use Rattle.fix_num.specs.declared.limits.TheConstants.{MAX_NUMBER}
use Rattle.computed_value.specs.Absolute.{product_within}
use Rattle.computed_value.proofs.computed.product.Goals as goal

pub returns : goal.returns
unfolding product_within
returns c =
    let a : SFits w64 c.args.a = c.ranges.a in
    let b : SFits w64 c.args.b = c.ranges.b in
    let whole : SFits w64 c.args.whole = c.ranges.whole in
    let part : SFits w128 c.rounded_product.result = record { sfits = c.rounded_product.type_inv } in
    let result : SFits w64 c.clamp.result = record { sfits = c.clamp.type_inv } in
    let quotient = simp to_z-of_z at c.rounded_product.ensures.value in
    let limited = simp to_z-of_z at c.clamp.ensures.value in
    to_z-of_z w64 c.clamp.result result ∙ limited ∙ ap (λ v. clamped_number v (neg_ℤ (pos MAX_NUMBER)) (pos MAX_NUMBER)) quotient
