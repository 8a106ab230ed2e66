use Rattle.doc_tree.proofs.Trees.{tree-ancestors}
use Rattle.doc_tree.proofs.laws.ancestors_go_by_parents.Goals as goal

pub returns : goal.returns
returns c = λ d before after e tree is. tree-ancestors d.elements before after e tree.order is
