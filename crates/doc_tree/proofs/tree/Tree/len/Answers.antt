use Rattle.std.proofs.Common.{sym, ◌∙◌, ap, length, subst}
use Rattle.doc_tree.specs.Element.{Document}
use Rattle.doc_tree.specs.Shape.{IsTree, IsWithinLimits}
use Rattle.doc_tree.specs.Marks.{kept_of}
use Rattle.doc_tree.proofs.Sound.{length-sound, tree-sound, limits-sound}
use Rattle.doc_tree.proofs.tree.Tree.len.Goals as goal

pub returns-clause-value : goal.returns-clause-value
returns-clause-value c = sym (ap (λ (d : Document). length d.elements) (sym c.self.view_is) ∙ length-sound (kept_of c.self.inside.nodes) c.self.invariant)

pub returns-clause-tree : goal.returns-clause-tree
returns-clause-tree c = subst IsTree c.self.view_is (tree-sound (kept_of c.self.inside.nodes) c.self.invariant)

pub returns-clause-limits : goal.returns-clause-limits
returns-clause-limits c = subst IsWithinLimits c.self.view_is (limits-sound (kept_of c.self.inside.nodes) c.self.invariant)
