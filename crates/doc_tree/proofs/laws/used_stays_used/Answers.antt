use Rattle.doc_tree.proofs.Trees.{used-added}
use Rattle.doc_tree.proofs.laws.used_stays_used.Goals as goal

pub returns : goal.returns
returns c = λ old new child n added h. used-added old new child n added h
