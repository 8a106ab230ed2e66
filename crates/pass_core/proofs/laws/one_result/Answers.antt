use Rattle.pass_core.proofs.Orders.{results_agree}
use Rattle.pass_core.proofs.laws.one_result.Goals as goal

pub returns : goal.returns
returns g c = λ m places opening p s t a b. results_agree a b
