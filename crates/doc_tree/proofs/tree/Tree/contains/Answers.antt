use Rattle.std.proofs.Common.{◌∙◌, ap}
use Rattle.doc_tree.specs.Element.{Document, is_in}
use Rattle.doc_tree.specs.Marks.{kept_of}
use Rattle.doc_tree.proofs.Sound.{slot-test}
use Rattle.doc_tree.proofs.tree.Tree.contains.Goals as goal

pub returns : goal.returns
returns c = c.is_some.ensures ∙ (slot-test (kept_of c.self.inside.nodes) c.self.invariant c.args.n c.slot_of.result c.slot_of.ensures.found c.slot_of.ensures.absent ∙ ap (λ (d : Document). is_in c.args.n d.elements) c.self.view_is)
