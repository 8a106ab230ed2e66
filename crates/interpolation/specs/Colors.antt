-- Interpolation of colours by premultiplied channels (CSS Color 4, "Interpolating with Alpha").
use Rattle.std.specs.Prelude.{ℕ, ℤ, pos, ◌+ℤ◌, ◌-ℤ◌, ◌*ℤ◌, unsigned_abs, if◌then◌else◌}
use Rattle.std.specs.Ordering.{int_eq}
use Rattle.fix_num.specs.Clamping.{clamped_number}
use Rattle.fix_num.specs.Rounding.{rounded_quotient}
use Rattle.fix_num.specs.declared.units.Fix.{Fix}
use Rattle.fix_num.specs.declared.units.TheConstants.Bill as bill
use Rattle.fix_num.specs.declared.units.TheConstants.Fix as fix
use Rattle.value_types.specs.Table.{black, fix as units}
use Rattle.value_types.specs.declared.value.Value.{Value}
use Rattle.value_types.specs.declared.value.Value.TheVariants as value
use Rattle.interpolation.specs.Numbers.{on_the_way}

-- the alpha at output q, from 0 to 1
unfoldable pub alpha_between : Fix → Fix → ℤ → Fix
alpha_between a b q = record { 0 = clamped_number (on_the_way a.0 b.0 q) (pos 0) fix.ONE.0 }

-- a channel multiplied by its alpha
abbrev pub premultiplied_channel : ℕ → Fix → ℤ
premultiplied_channel c alpha = pos c *ℤ alpha.0

-- the premultiplied channel at output q on the way from c to d, in billionths
abbrev pub premultiplied_between : ℤ → ℤ → ℤ → ℤ
premultiplied_between c d q = (c *ℤ bill.ONE.0) +ℤ ((d -ℤ c) *ℤ q)

-- the channel that is this one when it is premultiplied with the alpha, from 0 to 255
unfoldable pub straight_channel : ℤ → Fix → ℕ
straight_channel v alpha = unsigned_abs (clamped_number (rounded_quotient v (bill.ONE.0 *ℤ alpha.0)) (pos 0) (pos 255))

-- the channel at output q on the way from c with alpha a to d with alpha b, where that has this alpha
abbrev pub channel_between : ℕ → Fix → ℕ → Fix → ℤ → Fix → ℕ
channel_between c a d b q alpha = straight_channel (premultiplied_between (premultiplied_channel c a) (premultiplied_channel d b) q) alpha

-- the colour with this alpha at output q: transparent black where the alpha is 0
unfoldable pub color_with : ℕ → ℕ → ℕ → Fix → ℕ → ℕ → ℕ → Fix → ℤ → Fix → Value
color_with r g b a r' g' b' a' q alpha =
    (if int_eq alpha.0 (pos 0) then black (units 0)
    else value.Color (channel_between r a r' a' q alpha) (channel_between g a g' a' q alpha) (channel_between b a b' a' q alpha) alpha)
