use Rattle.value_text.proofs.ValueLemmas.{reading_is}
use Rattle.value_text.proofs.laws.one_value.Goals as goal

pub returns : goal.returns
returns c = λ p parts a b h k. (reading_is p parts).one a b h k
