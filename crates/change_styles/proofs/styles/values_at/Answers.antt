use Rattle.std.proofs.Common.{arith}
use Rattle.std.proofs.lemmas.Grind.{common_steps}
use Rattle.std.proofs.lemmas.List.Elements.{All-push}
use Rattle.value_types.specs.Validity.{IsValid}
use Rattle.change_styles.proofs.styles.values_at.Goals as goal

pub loop-item-preserved : goal.loop-item-preserved
loop-item-preserved c = record {
  value = grind (arith, common_steps);
  valid = rw c.in_ok-push.ensures.items (All-push (λ g. IsValid g.0 g.1) c.loop-item.given.items c.given_at.result c.loop-item.invariant.valid c.given_at.ensures.valid);
}
