use Rattle.reversing.proofs.Parts.{full_delay, full_part}
use Rattle.reversing.proofs.laws.full_factor_changes_nothing.Goals as goal

pub returns-clause-part : goal.returns-clause-part
returns-clause-part c = full_part

pub returns-clause-delay : goal.returns-clause-delay
returns-clause-delay c = full_delay
