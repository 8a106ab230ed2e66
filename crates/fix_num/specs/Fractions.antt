-- Fractions.
use Rattle.std.specs.Prelude.{ℤ, pos, ◌≤ℤ◌}
use Rattle.fix_num.specs.declared.units.TheConstants.Bill.{ONE}

-- from 0 to 1, in billionths
pub record IsFraction (q : ℤ) : Type 0 where
  pub low : pos 0 ≤ℤ q
  pub high : q ≤ℤ ONE.0
