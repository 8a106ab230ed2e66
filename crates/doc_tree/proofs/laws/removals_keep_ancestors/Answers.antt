use Rattle.doc_tree.proofs.Keeping.{ancestors-cut}
use Rattle.doc_tree.proofs.laws.removals_keep_ancestors.Goals as goal

pub returns : goal.returns
returns c = λ d n m tree there left. ancestors-cut d n m tree there left
