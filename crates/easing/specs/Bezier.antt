-- Cubic Bezier easing functions, after CSS Easing Functions Level 1, "Cubic Bézier easing functions": the curve from (0, 0) to (1, 1) whose inner
-- control points are (x1, y1) and (x2, y2), in thousandths.
use Rattle.std.specs.Prelude.{ℕ, ◌*◌, ◌-◌, ◌^◌, ℤ, pos, ◌+ℤ◌, ◌*ℤ◌, ◌≤ℤ◌, int_le}
use Rattle.std.specs.Int.{int_div_euclid}
use Rattle.fix_num.specs.declared.units.TheConstants.Bill.{ONE}
use Rattle.easing.specs.Billionths.{billionths}
use Rattle.easing.specs.Greatest.{IsGreatest, greatest}

-- a control point's coordinate from 0 to 1
pub record IsUnitCoordinate (v : ℤ) : Type 0 where
  pub low : pos 0 ≤ℤ v
  pub high : v ≤ℤ pos 1000

-- the curve's parameter is counted in parts
abbrev pub parts : ℕ
parts = 2 ^ 20

-- coordinates of points of the curve are counted in units of which this many are 1
abbrev pub whole : ℕ
whole = 1000 * parts ^ 3

-- a coordinate of the point at parameter k, from those of the inner control points; the outer ones have 0 and 1000
abbrev pub coordinate : ℤ → ℤ → ℕ → ℤ
coordinate first second k =
    let rest = parts - k in
    (pos (3 * k * rest ^ 2) *ℤ first +ℤ pos (3 * k ^ 2 * rest) *ℤ second) +ℤ pos (1000 * k ^ 3)

-- the point at parameter k isn't to the right of the input x, in billionths
abbrev pub IsReached : ℤ → ℤ → ℤ → ℕ → Type 0
IsReached x1 x2 x k = (coordinate x1 x2 k *ℤ ONE.0) ≤ℤ (x *ℤ pos whole)

-- the parameter of an input
abbrev pub IsParameter : ℤ → ℤ → ℤ → ℕ → Type 0
IsParameter x1 x2 x k = IsGreatest (IsReached x1 x2 x) parts k

-- the same as a function
unfoldable pub parameter_of : ℤ → ℤ → ℤ → ℕ
parameter_of x1 x2 x = greatest (λ k. int_le (coordinate x1 x2 k *ℤ ONE.0) (x *ℤ pos whole)) parts

-- the input num / den in billionths, rounded down
abbrev pub input_billionths : ℤ → ℤ → ℤ
input_billionths num den = int_div_euclid (num *ℤ ONE.0) den

-- the output at parameter k
abbrev pub ordinate_output : ℤ → ℤ → ℕ → ℤ
ordinate_output y1 y2 k = billionths (coordinate y1 y2 k) (pos whole)
