use Rattle.doc_tree.proofs.Keeping.{ancestors-inserted}
use Rattle.doc_tree.proofs.laws.inserts_keep_ancestors.Goals as goal

pub returns : goal.returns
returns c = λ old new n sibling tag m told tnew put there. ancestors-inserted old new n sibling tag m told tnew put there
