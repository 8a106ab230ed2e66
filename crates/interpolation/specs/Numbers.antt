-- Interpolation of numbers (CSS Values and Units, "computation and combination of <number>"; Web Animations Level 1,
-- "animating properties"). Numbers are millionths; outputs are billionths and may lie outside 0 to 1.
use Rattle.std.specs.Prelude.{ℤ, pos, ◌+ℤ◌, ◌-ℤ◌, ◌*ℤ◌, neg_ℤ}
use Rattle.fix_num.specs.Clamping.{clamped_number}
use Rattle.fix_num.specs.Rounding.{rounded_quotient}
use Rattle.fix_num.specs.declared.limits.TheConstants.{MAX_INTEGER}
use Rattle.fix_num.specs.declared.units.Fix.{Fix}
use Rattle.fix_num.specs.declared.units.TheConstants.Bill as bill
use Rattle.value_types.specs.Ranges.{highest_of, lowest_of}
use Rattle.value_types.specs.Table.{range_of}
use Rattle.value_types.specs.declared.property.PropertyId.{PropertyId}

-- the number at output q on the way from a to b, halves towards plus infinity
unfoldable pub on_the_way : ℤ → ℤ → ℤ → ℤ
on_the_way a b q = a +ℤ rounded_quotient ((b -ℤ a) *ℤ q) bill.ONE.0

-- a number, length, percent or angle of the property at output q: that on the way, clamped to the property's range and the limit
unfoldable pub number_between : PropertyId → Fix → Fix → ℤ → Fix
number_between p a b q = record { 0 = clamped_number (on_the_way a.0 b.0 q) (lowest_of (range_of p)) (highest_of (range_of p)) }

-- an integer at output q: that on the way, clamped to the limit (CSS Values and Units, "computation and combination of <integer>")
unfoldable pub integer_between : ℤ → ℤ → ℤ → ℤ
integer_between i j q = clamped_number (on_the_way i j q) (neg_ℤ (pos MAX_INTEGER)) (pos MAX_INTEGER)
