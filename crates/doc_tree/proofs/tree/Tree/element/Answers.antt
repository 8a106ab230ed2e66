use Rattle.std.proofs.Common.{sym}
use Rattle.doc_tree.proofs.Sound.{not-found-in}
use Rattle.doc_tree.proofs.tree.Tree.element.Goals as goal

pub returns-in-None-clause-value : goal.returns-in-None-clause-value
returns-in-None-clause-value c = sym (not-found-in c.args.n _ c.args.self.now c.self.view_is c.in-None.ensures.absent)
