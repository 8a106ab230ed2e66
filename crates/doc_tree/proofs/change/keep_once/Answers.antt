use Rattle.std.proofs.Common.{Bor, ◌∙◌, ◌+◌, ℕ, List, [], take, ap, arith}
use Rattle.doc_tree.proofs.Names.{texts, name-put, name-known, name-many}
use Rattle.doc_tree.proofs.change.keep_once.Goals.{then-not-is_among+else-count-kept, else-not-is_among}
use Rattle.doc_tree.proofs.change.keep_once.Goals as goal

pub loop-name-preserved : goal.loop-name-preserved
loop-name-preserved c =
    let none : Bor (List ℕ) = record { ref_ptr = (0, 0); now = [] } in
    elim c.if-not-is_among.branch [
      | then-not-is_among+else-count-kept w ↦
          (let put = name-put c.args.names.now c.loop-name.kept c.loop-name.name-index c.loop-name.count none c.loop-name-test.true w.if-count-kept.false c.loop-name.invariant.told w.if-not-is_among.ensures in
          record {
            told = ap (λ (n : ℕ). texts (take n c.if-not-is_among.kept)) w.count-is ∙ (ap (λ (ks : List (Bor (List ℕ))). texts (take (c.loop-name.count + 1) ks)) w.kept-is ∙ put);
            within = omega (arith, w.count-is, w.if-count-kept.false, c.if-not-is_among.auto.kept);
          })
      | else-not-is_among w ↦
          (let known = name-known c.args.names.now c.loop-name.kept c.loop-name.name-index c.loop-name.count none c.loop-name-test.true c.loop-name.invariant.told w.if-not-is_among.ensures in
          record {
            told = ap (λ (n : ℕ). texts (take n c.if-not-is_among.kept)) w.count-is ∙ (ap (λ (ks : List (Bor (List ℕ))). texts (take c.loop-name.count ks)) w.kept-is ∙ known);
            within = omega (arith, w.count-is, c.loop-name.invariant.within, c.if-not-is_among.auto.kept);
          })
    ]

pub returns-then-count-kept-clause-full : goal.returns-then-count-kept-clause-full
returns-then-count-kept-clause-full c =
    let none : Bor (List ℕ) = record { ref_ptr = (0, 0); now = [] } in
    let many = name-many c.args.names.now c.loop-name.kept c.loop-name.name-index c.loop-name.count none c.loop-name-test.true c.loop-name.invariant.within c.if-count-kept.true c.loop-name.invariant.told c.if-not-is_among.ensures in
    omega (arith, many, c.loop-name.auto.kept)
