use Rattle.std.proofs.Common.{Bor, ◌∙◌, sym, List, ℕ, bytes_eq}
use Rattle.doc_tree.proofs.Lists.{list_any-map}
use Rattle.doc_tree.proofs.change.is_among.Goals as goal

pub returns : goal.returns
returns c = c.contains.ensures.value ∙ sym (list_any-map (λ (x : List ℕ). bytes_eq x c.args.name.now) (λ (t : Bor (List ℕ)). t.now) c.args.names.now)
