use Rattle.std.proofs.Common.{◌∙◌, sym, ap, ℕ, Some, arith}
use Rattle.doc_tree.specs.Marks.{kept_of, rank_in}
use Rattle.doc_tree.proofs.Sound.{length-sound}
use Rattle.doc_tree.proofs.Ordering.{position-sound, position-small, not-placed}
use Rattle.doc_tree.proofs.order.position_in.Goals as goal

pub overflow_cast-result : goal.overflow_cast-result
overflow_cast-result c =
    let k = kept_of c.args.nodes.now in
    let rank = c.rank_of.ensures ∙ ap (rank_in k) c.opening.ensures in
    omega (arith, rank, position-small k c.requires c.in-Some.slot c.in-Some.ensures.found.live, c.requires.limit)

pub returns-in-None-clause-value : goal.returns-in-None-clause-value
returns-in-None-clause-value c = sym (not-placed (kept_of c.args.nodes.now) c.args.n c.in-None.ensures.absent)

pub returns-in-Some-clause-value : goal.returns-in-Some-clause-value
returns-in-Some-clause-value c =
    let k = kept_of c.args.nodes.now in
    ap (λ (i : ℕ). Some i) (c.rank_of.ensures ∙ ap (rank_in k) c.opening.ensures) ∙ sym (position-sound k c.requires c.args.n c.in-Some.slot c.in-Some.ensures.found)

pub returns-in-Some-clause-small : goal.returns-in-Some-clause-small
returns-in-Some-clause-small c =
    let k = kept_of c.args.nodes.now in
    let rank = c.rank_of.ensures ∙ ap (rank_in k) c.opening.ensures in
    omega (arith, rank, position-small k c.requires c.in-Some.slot c.in-Some.ensures.found.live, length-sound k c.requires)
