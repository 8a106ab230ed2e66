use Rattle.doc_tree.proofs.Keeping.{cut-stretch}
use Rattle.doc_tree.proofs.laws.removed_elements_stand_together.Goals as goal

pub returns : goal.returns
returns c = λ d n tree there. cut-stretch d n tree there
