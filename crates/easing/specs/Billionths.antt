-- The unit of outputs.
use Rattle.std.specs.Prelude.{ℤ, ◌*ℤ◌}
use Rattle.fix_num.specs.declared.units.TheConstants.Bill.{ONE}
use Rattle.fix_num.specs.Rounding.{rounded_quotient}

-- part / whole in billionths, rounded
abbrev pub billionths : ℤ → ℤ → ℤ
billionths part whole = rounded_quotient (part *ℤ ONE.0) whole
