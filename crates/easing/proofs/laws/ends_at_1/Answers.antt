use Rattle.std.specs.Prelude.{pos, ◌^◌}
use Rattle.easing.proofs.Ends.{cubic_at_end, linear_exact, steps_at_end, turned}
use Rattle.easing.proofs.laws.ends_at_1.Goals as goal

pub returns-clause-linear : goal.returns-clause-linear
returns-clause-linear c = λ den before some. linear_exact den den (pos (10 ^ 9)) before some (turned den)

pub returns-clause-cubic : goal.returns-clause-cubic
returns-clause-cubic c = cubic_at_end

pub returns-clause-steps : goal.returns-clause-steps
returns-clause-steps c = steps_at_end
