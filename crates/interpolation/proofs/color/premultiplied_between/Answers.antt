use Rattle.std.proofs.Common.{◌^◌, ap, arith, rules}
use Rattle.std.specs.Prelude.{pos, ◌+ℤ◌, ◌-ℤ◌, ◌*ℤ◌}
use Rattle.std.specs.Int.{w64, w128}
use Rattle.std.proofs.lemmas.Int.{ints, to_z-of_z, fits_signed_from_abs}
use mir.Val.{SFits}
use Rattle.interpolation.proofs.color.premultiplied_between.Goals as goal

sum_fits : (c : goal.After-scaled) → SFits w128 ((c.args.c *ℤ pos (10 ^ 9)) +ℤ c.scaled.result)
sum_fits c = let small = c.scaled.ensures.size in fits_signed_from_abs w128 _ (omega (arith, ints, small))

pub overflow_add-result : goal.overflow_add-result
overflow_add-result c =
    let x : SFits w64 c.args.c = c.ranges.c in
    let first = simp to_z-of_z at c.from.ensures in
    let wide : SFits w128 c.args.c = search rules in
    let one_wide : SFits w128 (pos (10 ^ 9)) = search rules in
    let product : SFits w128 (c.args.c *ℤ pos (10 ^ 9)) = search rules in
    let scaled : SFits w128 c.scaled.result = record { sfits = c.scaled.type_inv } in
    simp (first, c.from-2.ensures, to_z-of_z) (sum_fits c)

pub returns-clause-value : goal.returns-clause-value
returns-clause-value c =
    let x : SFits w64 c.args.c = c.ranges.c in
    let d : SFits w64 c.args.d = c.ranges.d in
    let q : SFits w64 c.args.q.0 = search rules in
    let first = simp to_z-of_z at c.from.ensures in
    let wide : SFits w128 c.args.c = search rules in
    let one_wide : SFits w128 (pos (10 ^ 9)) = search rules in
    let product : SFits w128 (c.args.c *ℤ pos (10 ^ 9)) = search rules in
    let way : SFits w64 (c.args.d -ℤ c.args.c) = search rules in
    let scaled : SFits w128 c.scaled.result = record { sfits = c.scaled.type_inv } in
    let sum : SFits w128 ((c.args.c *ℤ pos (10 ^ 9)) +ℤ c.scaled.result) = sum_fits c in
    let taken = simp to_z-of_z at c.scaled.ensures.value in
    simp (first, c.from-2.ensures, to_z-of_z) (ap (λ z. (c.args.c *ℤ pos (10 ^ 9)) +ℤ z) taken)
