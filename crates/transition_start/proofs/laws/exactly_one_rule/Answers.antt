use Rattle.transition_start.specs.Functions.{rule_of}
use Rattle.transition_start.proofs.Rules.{applies, only_one}
use Rattle.transition_start.proofs.laws.exactly_one_rule.Goals as goal

pub returns-clause-one : goal.returns-clause-one
returns-clause-one c = applies

pub returns-clause-only : goal.returns-clause-only
returns-clause-only c = λ x rule is. only_one x rule (rule_of x) is (applies x)
