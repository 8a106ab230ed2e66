use Rattle.std.specs.Prelude.{map}
use Rattle.change_styles.specs.Inheritance.{before_change_of}
use Rattle.change_styles.proofs.PathLemmas.{after-along, current-along, style-along, unrendered-along}
use Rattle.change_styles.proofs.laws.five_values_stand_for_styles.Goals as goal

pub returns-clause-before : goal.returns-clause-before
returns-clause-before c = λ t path e. style-along (map (before_change_of t) path) (before_change_of t e)

pub returns-clause-after : goal.returns-clause-after
returns-clause-after c = after-along

pub returns-clause-current : goal.returns-clause-current
returns-clause-current c = current-along

pub returns-clause-unrendered : goal.returns-clause-unrendered
returns-clause-unrendered c = unrendered-along
