use Rattle.std.proofs.Common.{[], ◌∷◌}
use Rattle.doc_tree.proofs.Siblings.{sibling-after}
use Rattle.doc_tree.proofs.laws.next_siblings_go_over_children.Goals as goal

pub returns-clause-next : goal.returns-clause-next
returns-clause-next c = λ d n before after child sibling tree is. sibling-after d.elements n before child (sibling ∷ after) tree.order is

pub returns-clause-last : goal.returns-clause-last
returns-clause-last c = λ d n before child tree is. sibling-after d.elements n before child [] tree.order is
