use Rattle.doc_tree.proofs.Trees.{others-added}
use Rattle.doc_tree.proofs.laws.others_keep_order.Goals as goal

pub returns : goal.returns
returns c = λ old new child added tree. others-added old new child added tree.order
