use Rattle.script_gen.proofs.ChangeLemmas.{class_of_seed, element_of_seed}
use Rattle.script_gen.proofs.laws.draws_follow_each_other.Goals as goal

pub returns-clause-element : goal.returns-clause-element
returns-clause-element c = element_of_seed

pub returns-clause-class : goal.returns-clause-class
returns-clause-class c = class_of_seed
