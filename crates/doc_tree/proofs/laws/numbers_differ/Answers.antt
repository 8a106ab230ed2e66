use Rattle.doc_tree.proofs.Trees.{tree-differ}
use Rattle.doc_tree.proofs.laws.numbers_differ.Goals as goal

pub returns : goal.returns
returns c = λ d before after e tree is. tree-differ d.elements before after e tree.order is
