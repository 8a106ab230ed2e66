use Rattle.doc_tree.proofs.Trees.{others-inserted}
use Rattle.doc_tree.proofs.laws.others_keep_order_beside.Goals as goal

pub returns : goal.returns
returns c = λ old new n sibling tag put tree. others-inserted old new n sibling tag put tree.order
