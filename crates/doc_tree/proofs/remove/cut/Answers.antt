use Rattle.std.proofs.Common.{◌≡◌, ◌∙◌, true, ap, length, List, ℕ, arith}
use Rattle.std.specs.Prelude.{nat_lt}
use Rattle.std.specs.List.{list_all}
use Rattle.doc_tree.specs.Marks.{kept_of}
use Rattle.doc_tree.proofs.Removing.{below-within, below-many}
use Rattle.doc_tree.proofs.remove.cut.Goals as goal

pub clear-requires : goal.clear-requires
clear-requires c =
    let k = kept_of c.args.nodes.now in
    let all : list_all (λ s. nat_lt s (length c.args.nodes.now.slots.items)) c.args.slots.now ≡ true =
    ap (λ (n : ℕ). list_all (λ s. nat_lt s n) c.args.slots.now) c.requires.sound.sized.slots ∙ (ap (λ (ss : List ℕ). list_all (λ s. nat_lt s (length k.keys)) ss) c.requires.slots ∙ below-within k c.requires.sound c.args.slot c.requires.live) in
    all

pub overflow_sub-nodes : goal.overflow_sub-nodes
overflow_sub-nodes c = omega (arith, below-many (kept_of c.args.nodes.now) c.requires.sound c.args.slot c.requires.live, ap length c.requires.slots)
