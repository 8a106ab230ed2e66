use Rattle.std.proofs.Common.{◌≡◌, ◌∙◌, ap, sym, refl, arith, map, true}
use Rattle.std.proofs.lemmas.List.{take_all}
use Rattle.std.specs.Prelude.{IsTrue}
use Rattle.doc_tree.specs.Element.{numbers_of}
use Rattle.restyle.proofs.Reordering.{next_numbers}
use Rattle.restyle.proofs.entries.are_those_of.Goals as goal

pub loop-at-preserved : goal.loop-at-preserved
loop-at-preserved c =
    next_numbers c.args.list.now c.args.tree.now.elements c.loop-at.at c.index-list-at.result (omega (arith, c.loop-at-test.true, c.len-at-end.ensures.value))
    (omega (arith, c.loop-at-test.true, c.len-at-end.ensures.value, c.if-list-len.false, c.len.ensures.value)) (c.if-not-is_at.ensures refl) c.loop-at.invariant

pub returns : goal.returns
returns c =
    let numbers : IsTrue true → map (λ x. x.0) c.args.list.now ≡ numbers_of c.args.tree.now.elements = λ _.
    ap (map (λ x. x.0)) (sym (take_all c.loop-at.at c.args.list.now (omega (arith, c.loop-at-test.false, c.len-at-end.ensures.value, c.if-list-len.false, c.len.ensures.value))))
    ∙ c.loop-at.invariant ∙ ap numbers_of (take_all c.loop-at.at c.args.tree.now.elements (omega (arith, c.loop-at-test.false, c.len-at-end.ensures.value))) in
    record { yes = numbers }
