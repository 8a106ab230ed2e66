use Rattle.std.proofs.Common.{◌∙◌, ap, sym, arith, Some, None, false, true}
use Rattle.selectors_mini.specs.declared.combinator.Combinator.TheVariants.{Child, Descendant}
use Rattle.selectors_mini.proofs.Climbs.{as_read, left_above, next_read, no_next, not_here, parent_there, to_parent, up_to}
use Rattle.selectors_mini.proofs.climb.climb_from.Goals as goal

pub returns-then-not-represents-clause-tells : goal.returns-then-not-represents-clause-tells
returns-then-not-represents-clause-tells c =
    not_here c.args.compounds.now c.args.from c.args.tree.now.elements c.args.n c.loop-element.left c.loop-element.at c.index-compounds-left.result
    c.in-Some.element.now _ c.loop-element.invariant c.in-Some.ensures.ancestors
    (as_read c.index-compounds-left.result _ c.in-Some.element.now false c.index-compounds-left.is c.if-not-represents.ensures)

pub loop-element-preserved : goal.loop-element-preserved
loop-element-preserved c =
    let e = c.in-Some.element.now in let es = c.args.tree.now.elements in let left = c.loop-element.left in let s = c.args.compounds.now in
    to_parent s c.args.from es c.args.n left c.loop-element.at c.index-compounds-left.result c.index-compounds-left-in-Some.result e c.in-Some-parent.parent c.loop-element.invariant
    (up_to es c.loop-element.at e (Some c.in-Some-parent.parent) c.in-Some.ensures.ancestors c.in-Some-parent.ensures) (omega arith)
    (parent_there es e c.in-Some-parent.parent c.in-Some.ensures.parent c.in-Some-parent.ensures)
    (as_read c.index-compounds-left.result _ e true c.index-compounds-left.is c.if-not-represents.ensures)
    (next_read c.index-compounds-left-in-Some.result _ (Some Child) c.index-compounds-left-in-Some.is (ap Some (sym c.in-Some-Child.field-0-is) ∙ c.in-Some-Child.ensures))

pub returns-in-Some-Descendant-clause-tells : goal.returns-in-Some-Descendant-clause-tells
returns-in-Some-Descendant-clause-tells c =
    let e = c.in-Some.element.now in let es = c.args.tree.now.elements in let left = c.loop-element.left in let s = c.args.compounds.now in
    left_above s c.args.from es c.args.n left c.loop-element.at c.index-compounds-left.result c.index-compounds-left-in-Some.result e c.in-Some-parent.parent c.loop-element.invariant
    (up_to es c.loop-element.at e (Some c.in-Some-parent.parent) c.in-Some.ensures.ancestors c.in-Some-parent.ensures) (omega arith)
    (as_read c.index-compounds-left.result _ e true c.index-compounds-left.is c.if-not-represents.ensures)
    (next_read c.index-compounds-left-in-Some.result _ (Some Descendant) c.index-compounds-left-in-Some.is (ap Some (sym c.in-Some-Descendant.field-0-is) ∙ c.in-Some-Descendant.ensures))

pub returns-in-None-clause-tells : goal.returns-in-None-clause-tells
returns-in-None-clause-tells c =
    no_next c.args.compounds.now c.args.from c.args.tree.now.elements c.args.n c.loop-element.left c.loop-element.at c.index-compounds-left.result
    c.index-compounds-left-in-Some.result c.in-Some.element.now c.loop-element.invariant (omega arith)
    (next_read c.index-compounds-left-in-Some.result _ None c.index-compounds-left-in-Some.is c.in-None.ensures)
