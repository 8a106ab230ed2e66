use Rattle.interpolation.proofs.EqualityLemmas.{same_tells}
use Rattle.interpolation.proofs.laws.same_is_equal.Goals as goal

pub returns : goal.returns
returns c = λ a b. same_tells a b
