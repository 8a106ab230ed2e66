use Rattle.std.specs.Prelude.{pos}
use Rattle.easing.proofs.Ends.{cubic_at_start, linear_exact, times_zero}
use Rattle.easing.proofs.laws.starts_at_0.Goals as goal

pub returns-clause-linear : goal.returns-clause-linear
returns-clause-linear c = λ den before some. linear_exact (pos 0) den (pos 0) before some (times_zero den)

pub returns-clause-cubic : goal.returns-clause-cubic
returns-clause-cubic c = cubic_at_start
