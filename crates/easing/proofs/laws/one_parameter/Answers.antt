use Rattle.std.proofs.Common.{sym, subst}
use Rattle.easing.specs.Bezier.{IsParameter}
use Rattle.easing.proofs.Ends.{cubic_by_parameter}
use Rattle.easing.proofs.Halving.{parameter_is, parameter_only}
use Rattle.easing.proofs.laws.one_parameter.Goals as goal

pub returns-clause-one : goal.returns-clause-one
returns-clause-one c = λ x1 x2 x k some. (parameter_only x1 x2 x k some, λ e. subst (IsParameter x1 x2 x) (sym e) (parameter_is x1 x2 x some))

pub returns-clause-output : goal.returns-clause-output
returns-clause-output c = cubic_by_parameter
