use Rattle.std.proofs.Common.{arith, rules, ◌≡◌, ◌^◌, ◌<◌, ◌≤◌, w64, ℤ, pos, unsigned_abs, to_z, of_z}
use Rattle.std.specs.Prelude.{◌*ℤ◌, ◌+ℤ◌}
use Rattle.std.specs.Int.{w128}
use Rattle.std.proofs.lemmas.Int.{fits_signed_from_abs, ints, to_z-of_z}
use mir.Val.{SFits}
use Rattle.fix_num.specs.Rounding.{rounded_quotient}
use Rattle.fix_num.proofs.RoundingLemmas.{floor_is}
use Rattle.value_text.proofs.kind.hundredth.Goals as goal

smaller : (a : ℤ) → unsigned_abs a ≤ 2 ^ 63 → unsigned_abs (rounded_quotient a (pos 100)) < 2 ^ 63
unfolding rounded_quotient
smaller a h = let floor = floor_is ((pos 2 *ℤ a) +ℤ pos 100) 200 (omega arith) in omega (arith, ints, floor.0, floor.1)

rounds : (c : goal.After-rnd) → c.rnd.result ≡ rounded_quotient c.args.n.0 (pos 100)
rounds c =
    let n : SFits w64 c.args.n.0 = search rules in
    let wide : SFits w128 c.args.n.0 = search rules in
    let first = simp to_z-of_z at c.from.ensures in
    simp (first, to_z-of_z) at c.rnd.ensures.value

result_is : (c : goal.After-rnd) → to_z w128 (of_z w128 c.rnd.result) ≡ c.rnd.result
result_is c = to_z-of_z w128 c.rnd.result (record { sfits = c.rnd.type_inv })

fits : (c : goal.After-rnd) → SFits w64 c.rnd.result
fits c =
    let n : SFits w64 c.args.n.0 = search rules in
    let size : unsigned_abs c.args.n.0 ≤ 2 ^ 63 = omega (arith, ints) in
    fits_signed_from_abs w64 c.rnd.result (rw (rounds c) (smaller c.args.n.0 size))

pub overflow_cast-result : goal.overflow_cast-result
overflow_cast-result c = rw (result_is c) (fits c)

pub returns : goal.returns
returns c = rw (result_is c, to_z-of_z w64 c.rnd.result (fits c), rounds c) (search rules)
