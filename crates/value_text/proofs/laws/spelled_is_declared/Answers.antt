use Rattle.value_text.proofs.DeclaredLemmas.{spelled_declared}
use Rattle.value_text.proofs.laws.spelled_is_declared.Goals as goal

pub returns : goal.returns
returns c = λ p parts d h. spelled_declared p parts d h
