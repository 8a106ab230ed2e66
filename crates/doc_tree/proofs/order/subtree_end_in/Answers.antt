use Rattle.std.proofs.Common.{◌∙◌, ◌+◌, sym, ap, ℕ, Some, Option, length, arith}
use Rattle.std.specs.Option.{option_map}
use Rattle.doc_tree.specs.Element.{subtree_of}
use Rattle.doc_tree.specs.Marks.{kept_of, document_of, rank_in}
use Rattle.doc_tree.proofs.Ordering.{end-sound, end-small, not-placed}
use Rattle.doc_tree.proofs.order.subtree_end_in.Goals as goal

pub overflow_cast-result : goal.overflow_cast-result
overflow_cast-result c =
    let k = kept_of c.args.nodes.now in
    let rank = c.rank_of.ensures ∙ ap (rank_in k) c.closing.ensures in
    omega (arith, rank, end-small k c.requires c.in-Some.slot c.in-Some.ensures.found.live, c.requires.limit)

pub returns-in-None : goal.returns-in-None
returns-in-None c =
    let d = document_of (kept_of c.args.nodes.now) in
    sym (ap (λ (o : Option ℕ). option_map (λ at. at + length (subtree_of d.elements c.args.n)) o) (not-placed (kept_of c.args.nodes.now) c.args.n c.in-None.ensures.absent))

pub returns-in-Some : goal.returns-in-Some
returns-in-Some c =
    let k = kept_of c.args.nodes.now in
    ap (λ (i : ℕ). Some i) (c.rank_of.ensures ∙ ap (rank_in k) c.closing.ensures) ∙ sym (end-sound k c.requires c.args.n c.in-Some.slot c.in-Some.ensures.found)
