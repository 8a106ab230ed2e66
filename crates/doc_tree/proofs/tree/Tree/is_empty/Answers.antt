use Rattle.doc_tree.specs.Marks.{kept_of}
use Rattle.doc_tree.proofs.Sound.{empty-sound}
use Rattle.doc_tree.proofs.tree.Tree.is_empty.Goals as goal

pub returns : goal.returns
returns c = empty-sound (kept_of c.self.inside.nodes) c.self.invariant c.args.self.now c.self.view_is
