use Rattle.doc_tree.proofs.Trees.{tree-together}
use Rattle.doc_tree.proofs.laws.subtrees_stand_together.Goals as goal

pub returns : goal.returns
returns c = λ d before after e a tree is there out. tree-together d.elements before after e a tree.order is there out
