use Rattle.doc_tree.proofs.Trees.{position-added}
use Rattle.doc_tree.proofs.laws.added_position.Goals as goal

pub returns : goal.returns
returns c = λ old new child added tree. position-added old new child added tree.order
