use Rattle.value_types.specs.declared.property.PropertyId.TheVariants.{FontSize}
use Rattle.std.proofs.Common.{sym}
use Rattle.mini_cascade.proofs.CascadeLemmas.{computed_value-apart, computed_value-through}
use Rattle.mini_cascade.proofs.laws.declarations_are_apart.Goals as goal

pub returns-clause-apart : goal.returns-clause-apart
returns-clause-apart c = computed_value-apart

pub returns-clause-through_size : goal.returns-clause-through_size
returns-clause-through_size c = λ x q important v apart same. computed_value-through x FontSize q important v apart (λ e. apart (sym e)) same
