use Rattle.doc_tree.proofs.Keeping.{used-cut}
use Rattle.doc_tree.proofs.laws.removed_numbers_stay_used.Goals as goal

pub returns : goal.returns
returns c = λ d n m tree there. used-cut d n m tree there
