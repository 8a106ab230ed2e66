use Rattle.cascade_sort.proofs.Candidates.{no_specificity, rule_specificity}
use Rattle.cascade_sort.proofs.laws.the_greatest_specificity_counts.Goals as goal

pub returns-clause-some : goal.returns-clause-some
returns-clause-some c = rule_specificity

pub returns-clause-none : goal.returns-clause-none
returns-clause-none c = no_specificity
