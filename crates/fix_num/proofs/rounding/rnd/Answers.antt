use Rattle.std.proofs.Common.{◌≡◌, ◌∙◌, rules}
use Rattle.std.specs.Prelude.{pos, ◌*ℤ◌, ◌+ℤ◌}
use Rattle.std.specs.Int.{w128, cast_signed, cast_unsigned}
use Rattle.std.proofs.lemmas.Int.{to_z-of_z}
use mir.Val.{SFits}
use Rattle.fix_num.specs.Rounding.{rounded_quotient}
use Rattle.fix_num.proofs.RoundingLemmas.{size_of_rounded}
use Rattle.fix_num.proofs.rounding.rnd.Goals as goal

value : (c : goal.After-div_euclid) → c.div_euclid.result ≡ rounded_quotient c.args.a c.args.b
unfolding rounded_quotient
value c =
    let fits_a : SFits w128 c.args.a = c.ranges.a in
    let fits_b : SFits w128 c.args.b = c.ranges.b in
    let fits_2a : SFits w128 (pos 2 *ℤ c.args.a) = search rules in
    let fits_2b : SFits w128 (pos 2 *ℤ c.args.b) = search rules in
    let fits_sum : SFits w128 ((pos 2 *ℤ c.args.a) +ℤ c.args.b) = search rules in
    simp to_z-of_z at c.div_euclid.ensures

result_is : (c : goal.After-div_euclid) → cast_signed w128 (cast_unsigned w128 c.div_euclid.result) ≡ c.div_euclid.result
result_is c = to_z-of_z w128 c.div_euclid.result (record { sfits = c.div_euclid.type_inv })

pub returns-clause-value : goal.returns-clause-value
returns-clause-value c = result_is c ∙ value c

pub returns-clause-size : goal.returns-clause-size
returns-clause-size c = rw (result_is c ∙ value c) (size_of_rounded c.args.a c.args.b c.requires.positive)
