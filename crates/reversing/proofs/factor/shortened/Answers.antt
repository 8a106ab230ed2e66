use Rattle.std.proofs.Common.{◌≡◌, ◌∙◌, ap}
use Rattle.std.specs.Prelude.{pos, ◌+ℤ◌, ◌-ℤ◌}
use Rattle.std.specs.Int.{w64, w128, cast_signed, cast_unsigned}
use Rattle.std.proofs.lemmas.Int.{to_z-of_z}
use mir.Val.{SFits}
use Rattle.fix_num.specs.Clamping.{clamped_number}
use Rattle.fix_num.specs.declared.units.TheConstants.Bill.{ONE}
use Rattle.reversing.specs.Reversal.{part_of, shortened}
use Rattle.reversing.proofs.Parts.{clipped, clipped_factor}
use Rattle.reversing.proofs.factor.shortened.Goals as goal

clamps_size : (c : goal.After-clamp) → c.clamp.result ≡ clipped c.left_of_one.result
clamps_size c =
    let left : SFits w128 c.left_of_one.result = record { sfits = c.left_of_one.type_inv } in
    let abs : SFits w128 c.abs.result = record { sfits = c.abs.type_inv } in
    let magnitude = simp to_z-of_z at c.abs.ensures.value in
    let limited = simp to_z-of_z at c.clamp.ensures.value in
    limited ∙ ap (λ v. clamped_number v (pos 0) ONE.0) magnitude

pub returns-clause-value : goal.returns-clause-value
unfolding shortened
returns-clause-value c =
    let result : SFits w64 c.clamp.result = record { sfits = c.clamp.type_inv } in
    to_z-of_z w64 c.clamp.result result ∙ clamps_size c ∙ ap clipped c.left_of_one.ensures.value

pub returns-clause-factor : goal.returns-clause-factor
unfolding shortened
returns-clause-factor c =
    let e : cast_signed w64 (cast_unsigned w64 c.clamp.result) ≡ shortened c.args.old.0 c.args.q.0 = returns-clause-value c in
    rw e (clipped_factor (part_of c.args.old.0 c.args.q.0 +ℤ (ONE.0 -ℤ c.args.old.0)))
