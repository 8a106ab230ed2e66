use Rattle.value_types.specs.declared.value.Value.TheVariants.{Auto}
use Rattle.computed_style.specs.ComputedStyles.{computed_style, computed_value}
use Rattle.computed_style.proofs.EveryProperty.{at_property}
use Rattle.computed_style.proofs.laws.computed_value_by_property.Goals as goal

pub returns : goal.returns
unfolding computed_style
returns c = λ x p. at_property (computed_value x) Auto p
