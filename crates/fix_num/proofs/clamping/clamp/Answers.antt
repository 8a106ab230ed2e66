use Rattle.std.proofs.Common.{◌≡◌, ◌∙◌, ap, rules}
use Rattle.std.specs.Prelude.{◌≤ℤ◌}
use Rattle.std.specs.Int.{w64, w128, cast_signed, cast_unsigned, int_max}
use Rattle.std.proofs.lemmas.Int.{to_z-of_z}
use mir.Val.{SFits}
use Rattle.fix_num.specs.Clamping.{clamped_number}
use Rattle.fix_num.proofs.ClampLemmas.{clamped_low, clamped_high, fits_between}
use Rattle.fix_num.proofs.clamping.clamp.Goals as goal

wide : (c : goal.After-max) → cast_signed w128 (cast_unsigned w128 c.max.result) ≡ c.max.result
wide c = to_z-of_z w128 c.max.result (record { sfits = c.max.type_inv })

chosen : (c : goal.After-max) → c.max.result ≡ clamped_number c.args.v c.args.low c.args.high
unfolding clamped_number
chosen c =
    let low : SFits w64 c.args.low = c.ranges.low in
    let high : SFits w64 c.args.high = c.ranges.high in
    let v : SFits w128 c.args.v = c.ranges.v in
    let low_wide : SFits w128 c.args.low = search rules in
    let high_wide : SFits w128 c.args.high = search rules in
    let first = simp to_z-of_z at c.from.ensures in
    let second = simp to_z-of_z at c.from-2.ensures in
    let min_wide : SFits w128 c.min.result = record { sfits = c.min.type_inv } in
    let least = simp (first, to_z-of_z) at c.min.ensures.value in
    let most = simp (second, to_z-of_z) at c.max.ensures.value in
    most ∙ ap (λ z. int_max z c.args.low) least

low : (c : goal.After-max) → c.args.low ≤ℤ c.max.result
low c = rw (chosen c) (clamped_low c.args.v c.args.low c.args.high c.requires)

high : (c : goal.After-max) → c.max.result ≤ℤ c.args.high
high c = rw (chosen c) (clamped_high c.args.v c.args.low c.args.high c.requires)

fits : (c : goal.After-max) → SFits w64 c.max.result
fits c = fits_between c.args.low c.args.high c.max.result c.ranges.low c.ranges.high (low c) (high c)

pub overflow_cast-result : goal.overflow_cast-result
overflow_cast-result c = rw (wide c) (fits c)

pub returns-clause-value : goal.returns-clause-value
returns-clause-value c = rw (wide c, to_z-of_z w64 c.max.result (fits c)) (chosen c)

pub returns-clause-low : goal.returns-clause-low
returns-clause-low c = rw (wide c, to_z-of_z w64 c.max.result (fits c)) (low c)

pub returns-clause-high : goal.returns-clause-high
returns-clause-high c = rw (wide c, to_z-of_z w64 c.max.result (fits c)) (high c)
