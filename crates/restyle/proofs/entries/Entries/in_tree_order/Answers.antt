use Rattle.std.proofs.Common.{◌≡◌, ◌∙◌, ap, refl, sym, map}
use Rattle.doc_tree.specs.Element.{numbers_of}
use Rattle.restyle.specs.Entries.{are_apart}
use Rattle.restyle.proofs.Numbers.{in_order_already, tree_apart}
use Rattle.restyle.proofs.Reordering.{made_numbers}
use Rattle.restyle.proofs.entries.Entries.in_tree_order.Goals as goal

pub returns-then-are_those_of : goal.returns-then-are_those_of
returns-then-are_those_of c =
    let order : map (λ x. x.0) c.args.self ≡ numbers_of c.args.tree.now.elements = ap (map (λ x. x.0)) (sym (c.as_slice.ensures.value ∙ c.self.view_is)) ∙ c.if-are_those_of.ensures.yes refl in
    sym (in_order_already c.args.tree.now c.args.self c.len.ensures.tree order)

pub numbers_in-requires : goal.numbers_in-requires
numbers_in-requires c =
    ap (λ xs. are_apart (map (λ x. x.0) xs)) (c.as_slice-2.ensures.value ∙ c.in_ok-list.ensures.value)
    ∙ ap are_apart (made_numbers c.in_ok-from_entries.field-0 c.args.tree.now.elements) ∙ tree_apart c.args.tree.now c.len.ensures.tree

pub invariant_of-result : goal.invariant_of-result
invariant_of-result c = c.in_ok-numbers.ensures ∙ ap (map (λ x. x.0)) c.as_slice-2.ensures.value
