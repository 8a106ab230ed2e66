-- Integers as text (CSS Values and Units Level 3, "Integers: the <integer> type").
use Rattle.std.specs.Prelude.{ℕ, ◌==◌, ℤ, Bool, not, List, IsTrue}
use Rattle.std.specs.List.{list_all}
use Rattle.fix_num.specs.Decimal.{Stands}

-- no point stands in the text
abbrev pub has_no_point : List ℕ → Bool
has_no_point text = list_all (λ b. not (b == 46)) text

-- the text is an integer: a sign, where wanted, and digits only
pub record IsIntegerText (text : List ℕ) (i : ℤ) : Type 0 where
  pub digits : IsTrue (has_no_point text)
  pub value : Stands 0 text i
