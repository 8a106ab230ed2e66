use Rattle.std.proofs.Common.{true, ◌≡◌, ◌∙◌, ◌*◌, sym, ap, length, get_or, subst, ℕ, List, arith}
use Rattle.doc_tree.specs.Marks.{kept_of, marks_until, slots_of, with_positions, with_ranks, with_order, AreMarksOfTree}
use Rattle.doc_tree.proofs.Ordering.{counted-sound, length-slots, len-room, read-order}
use Rattle.doc_tree.proofs.order.count_positions.Goals as goal

pub put_ranks-requires-clause-room : goal.put_ranks-requires-clause-room
put_ranks-requires-clause-room c =
    let k = kept_of c.args.nodes.now in
    let first : c.index.result.now ≡ get_or k.next 0 0 = sym (read-order k.next 0 c.index.result.now (omega (arith, c.requires.sized.next)) c.index.ensures) in
    omega (arith, len-room k c.requires, length-slots k c.requires, ap (λ (xs : List ℕ). length (slots_of (marks_until xs 1 (2 * k.len) c.index.result.now))) c.deref.ensures.value, ap (λ (m : ℕ). length (slots_of (marks_until k.next 1 (2 * k.len) m))) first)

pub returns-clause-sound : goal.returns-clause-sound
returns-clause-sound c =
    let k = kept_of c.args.nodes.now in
    let first : c.index.result.now ≡ get_or k.next 0 0 = sym (read-order k.next 0 c.index.result.now (omega (arith, c.requires.sized.next)) c.index.ensures) in
    let marks : marks_until c.deref.result.now 1 (2 * k.len) c.index.result.now ≡ marks_until k.next 1 (2 * k.len) (get_or k.next 0 0) =
    ap (λ (xs : List ℕ). marks_until xs 1 (2 * k.len) c.index.result.now) c.deref.ensures.value ∙ ap (λ (m : ℕ). marks_until k.next 1 (2 * k.len) m) first in
    let ranks : c.put_ranks.new.ranks.items ≡ (with_positions k).ranks = c.put_ranks.ensures.ranks ∙ ap (λ (ms : List ℕ). with_ranks ms 0 k.ranks) marks in
    let order : c.put_ranks.new.order.items ≡ (with_positions k).order = c.put_ranks.ensures.order ∙ ap (λ (ms : List ℕ). with_order ms 0 k.order) marks in
    subst (λ (rs : List ℕ). AreMarksOfTree (record k { ranks = rs; order = c.put_ranks.new.order.items; fresh = true })) (sym ranks)
    (subst (λ (os : List ℕ). AreMarksOfTree (record k { ranks = (with_positions k).ranks; order = os; fresh = true })) (sym order) (counted-sound k c.requires))
