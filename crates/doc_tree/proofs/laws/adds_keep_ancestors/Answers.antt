use Rattle.doc_tree.proofs.Keeping.{ancestors-added}
use Rattle.doc_tree.proofs.laws.adds_keep_ancestors.Goals as goal

pub returns : goal.returns
returns c = λ old new child m told tnew added there. ancestors-added old new child m told tnew added there
