use Rattle.std.proofs.Common.{◌≡◌, ◌∙◌, ap, subst, sym, arith, map}
use Rattle.std.specs.Prelude.{IsTrue}
use Rattle.std.proofs.lemmas.List.{take_all}
use Rattle.pass_core.specs.Plans.{is_proper}
use Rattle.restyle.specs.TreePlans.{element_place, places_of}
use Rattle.restyle.proofs.ProperPlans.{whole_is_proper}
use Rattle.restyle.proofs.Walks.{one_more}
use Rattle.restyle.proofs.plan.plan_of.Goals as goal

pub loop-at-preserved : goal.loop-at-preserved
loop-at-preserved c =
    one_more (element_place c.args.tree.now) c.args.tree.now.elements c.loop-at.at c.loop-at.places.items c.push_place.new.places.items
    (omega (arith, c.loop-at-test.true, c.len-at-end.ensures.value, c.loop-at.auto.at-end)) c.loop-at.invariant c.in_ok-push_place.ensures

pub returns-clause-proper : goal.returns-clause-proper
returns-clause-proper c =
    let d = c.args.tree.now in
    let all : c.loop-at.places.items ≡ places_of d =
    c.loop-at.invariant ∙ ap (λ xs. map (element_place d) xs) (take_all c.loop-at.at d.elements (omega arith)) in
    subst (λ ps. IsTrue (is_proper ps)) (sym all)
    (whole_is_proper d c.len-at-end.ensures.tree (record {
      ancestors = c.ancestors_go_by_parents.ensures;
      differ = c.numbers_differ.ensures;
      parent = c.parents_stand_before.ensures;
      together = c.subtrees_stand_together.ensures;
    }))
