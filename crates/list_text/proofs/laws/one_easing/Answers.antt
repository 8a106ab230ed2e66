use Rattle.list_text.proofs.EasingLemmas.{one_easing}
use Rattle.list_text.proofs.laws.one_easing.Goals as goal

pub returns : goal.returns
returns c = one_easing
