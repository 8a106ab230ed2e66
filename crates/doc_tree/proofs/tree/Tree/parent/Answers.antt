use Rattle.std.proofs.Common.{ap, sym, None, Option}
use Rattle.std.specs.Option.{option_map_or}
use Rattle.doc_tree.specs.Element.{Element}
use Rattle.doc_tree.proofs.Sound.{not-found-in}
use Rattle.doc_tree.proofs.tree.Tree.parent.Goals as goal

pub returns-in-None : goal.returns-in-None
returns-in-None c = sym (ap (λ (o : Option Element). option_map_or (λ e. e.parent) o None) (not-found-in c.args.n _ c.args.self.now c.self.view_is c.in-None.ensures.absent))
