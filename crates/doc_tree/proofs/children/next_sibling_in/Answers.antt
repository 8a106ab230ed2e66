use Rattle.std.proofs.Common.{◌≡◌, ◌∙◌, ◌+◌, ◌*◌, ◌<◌, ℕ, sym, ap, length, get_or, arith}
use Rattle.doc_tree.specs.Marks.{kept_of}
use Rattle.doc_tree.proofs.Ordering.{read-order}
use Rattle.doc_tree.proofs.Siblings.{number_opened, next-sibling-sound, no-next-sibling}
use Rattle.doc_tree.proofs.children.next_sibling_in.Goals as goal

pub returns-in-None : goal.returns-in-None
returns-in-None c = sym (no-next-sibling (kept_of c.args.nodes.now) c.requires c.args.n c.in-None.ensures.absent)

pub returns-in-Some : goal.returns-in-Some
returns-in-Some c =
    let k = kept_of c.args.nodes.now in
    let slot = c.in-Some.slot in
    let of = c.in-Some.ensures.found in
    let within : c.closing.result < length k.next = omega (arith, c.closing.ensures, of.within, c.requires.sized.slots, c.requires.sized.next) in
    let read : c.index.result.now ≡ get_or k.next (2 * slot + 3) 0 = sym (read-order k.next c.closing.result c.index.result.now within c.index.ensures) ∙ ap (λ (m : ℕ). get_or k.next m 0) c.closing.ensures in
    c.number_opened.ensures ∙ (ap (number_opened k.keys) read ∙ next-sibling-sound k c.requires c.args.n slot of)
