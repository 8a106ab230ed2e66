use Rattle.std.proofs.Common.{sym, subst}
use Rattle.doc_tree.specs.Marks.{AreMarksOfTree}
use Rattle.doc_tree.proofs.Sound.{empty_kept-sound}
use Rattle.doc_tree.proofs.tree.Tree.new.Goals as goal

pub invariant_of-result : goal.invariant_of-result
invariant_of-result c = subst AreMarksOfTree (sym c.in_ok-empty_nodes.ensures) empty_kept-sound
