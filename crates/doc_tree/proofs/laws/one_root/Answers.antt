use Rattle.doc_tree.proofs.Trees.{tree-root}
use Rattle.doc_tree.proofs.laws.one_root.Goals as goal

pub returns : goal.returns
returns c = λ d before after e tree is parent. tree-root d.elements before after e tree.order is parent
