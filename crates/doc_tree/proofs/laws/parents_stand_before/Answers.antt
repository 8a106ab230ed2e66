use Rattle.doc_tree.proofs.Trees.{tree-parent}
use Rattle.doc_tree.proofs.laws.parents_stand_before.Goals as goal

pub returns : goal.returns
returns c = λ d before after e p tree is parent. tree-parent d.elements before after e p tree.order is parent
