use Rattle.std.proofs.Common.{◌≡◌, true, refl, sym, subst}
use Rattle.pass_core.specs.Plans.{is_proper}
use Rattle.tests_passes.proofs.levels.wide_tree.Goals as goal

pub agrees-requires-clause-proper : goal.agrees-requires-clause-proper
agrees-requires-clause-proper g c κs = subst (λ places. is_proper places ≡ true) (sym c.in_ok-plan.ensures) refl
