use Rattle.doc_tree.proofs.Trees.{one_addition}
use Rattle.doc_tree.proofs.laws.one_last_place.Goals as goal

pub returns : goal.returns
returns c = λ old first second child a b. one_addition old first second child a b
