use Rattle.shorthand_text.proofs.TargetLemmas.{animations_of_one_length, transitions_of_one_length}
use Rattle.shorthand_text.proofs.laws.lists_are_of_one_length.Goals as goal

pub returns-clause-transition : goal.returns-clause-transition
returns-clause-transition c = λ parts ls h. transitions_of_one_length parts ls h

pub returns-clause-animation : goal.returns-clause-animation
returns-clause-animation c = λ parts ls h. animations_of_one_length parts ls h
