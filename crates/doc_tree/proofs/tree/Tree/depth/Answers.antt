use Rattle.std.proofs.Common.{ap, sym, Option}
use Rattle.std.specs.Option.{option_map}
use Rattle.doc_tree.specs.Element.{Element, depth_of}
use Rattle.doc_tree.proofs.Sound.{not-found-in}
use Rattle.doc_tree.proofs.tree.Tree.depth.Goals as goal

pub returns-in-None : goal.returns-in-None
returns-in-None c = sym (ap (λ (o : Option Element). option_map (λ _. depth_of c.args.self.now.elements c.args.n) o) (not-found-in c.args.n _ c.args.self.now c.self.view_is c.in-None.ensures.absent))
