use Rattle.std.proofs.Common.{◌≡◌, true, refl, sym, subst}
use Rattle.pass_core.specs.Plans.{is_proper}
use Rattle.tests_passes.proofs.siblings.children_alike_are_taken_over.Goals as goal

pub pass_alone-requires-clause-proper : goal.pass_alone-requires-clause-proper
pass_alone-requires-clause-proper g c κs = subst (λ places. is_proper places ≡ true) (sym c.in_ok-plan.ensures) refl

pub by_levels-requires-clause-proper : goal.by_levels-requires-clause-proper
by_levels-requires-clause-proper g c κs = subst (λ places. is_proper places ≡ true) (sym c.in_ok-plan.ensures) refl
