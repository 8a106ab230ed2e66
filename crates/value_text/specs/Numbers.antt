-- Numbers of values (CSS Values 4, "Numeric Data Types"), as large as they may be.
use Rattle.std.specs.Prelude.{ℕ, ◌≤◌, ℤ, pos, Bool, List, IsTrue}
use Rattle.fix_num.specs.Integer.{IsIntegerText}
use Rattle.fix_num.specs.Rounded.{StandsNear}
use Rattle.fix_num.specs.declared.units.Fix.{Fix}
use Rattle.value_types.specs.declared.range.ValueRange.{ValueRange}
use Rattle.value_types.specs.Ranges.{IsInRange, IsInteger, IsWithinLimit}

-- the text spells the number nearest to n millionths, which is in the range, and within the limit where numbers are held to it
pub record IsNumberText (held : Bool) (range : ValueRange) (text : List ℕ) (n : Fix) : Type 0 where
  pub near : StandsNear 6 text n.0
  pub in_range : IsInRange range n
  pub limit : IsTrue held → IsWithinLimit n

-- the text is an integer, and within the limit where numbers are held to it
pub record IsHeldInteger (held : Bool) (text : List ℕ) (i : ℤ) : Type 0 where
  pub value : IsIntegerText text i
  pub limit : IsTrue held → IsInteger i

-- an integer from 0 to 255
pub record IsChannel (text : List ℕ) (n : ℕ) : Type 0 where
  pub value : IsIntegerText text (pos n)
  pub high : n ≤ 255
