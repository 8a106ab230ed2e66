-- Faster reversing of interrupted transitions, after CSS Transitions Level 1, "Faster reversing of interrupted transitions".
use Rattle.std.specs.Prelude.{ℤ, pos, ◌+ℤ◌, ◌-ℤ◌, ◌*ℤ◌, unsigned_abs, int_lt, if◌then◌else◌}
use Rattle.fix_num.specs.Clamping.{clamped_number}
use Rattle.fix_num.specs.Fractions.{IsFraction}
use Rattle.fix_num.specs.Rounding.{rounded_quotient}
use Rattle.fix_num.specs.declared.units.TheConstants.Bill.{ONE}

-- a reversing shortening factor is a fraction
abbrev pub IsFactor : ℤ → Type 0
IsFactor factor = IsFraction factor

-- the part of an output or of a time that the factor leaves
unfoldable pub part_of : ℤ → ℤ → ℤ
part_of factor v = rounded_quotient (factor *ℤ v) ONE.0

-- the factor of the reversing transition, from the factor of the one that it reverses and the output of that: the output
-- times the factor, plus what the factor leaves of 1, without its sign and from 0 to 1
unfoldable pub shortened : ℤ → ℤ → ℤ
shortened factor output = clamped_number (pos (unsigned_abs (part_of factor output +ℤ (ONE.0 -ℤ factor)))) (pos 0) ONE.0

-- a negative delay is shortened
unfoldable pub reversed_delay : ℤ → ℤ → ℤ
reversed_delay factor delay = (if int_lt delay (pos 0) then part_of factor delay else delay)

-- when the reversing transition starts, where the style changes at time t
abbrev pub reversed_start : ℤ → ℤ → ℤ → ℤ
reversed_start t delay factor = t +ℤ reversed_delay factor delay

-- when it ends: the duration is shortened
abbrev pub reversed_end : ℤ → ℤ → ℤ → ℤ → ℤ
reversed_end t delay duration factor = reversed_start t delay factor +ℤ part_of factor duration
