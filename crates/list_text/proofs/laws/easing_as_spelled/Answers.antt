use Rattle.list_text.proofs.EasingLemmas.{easing_answer}
use Rattle.list_text.proofs.laws.easing_as_spelled.Goals as goal

pub returns : goal.returns
returns c = easing_answer
