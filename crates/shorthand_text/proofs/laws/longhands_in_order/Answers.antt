use Rattle.shorthand_text.proofs.TargetLemmas.{targets_are}
use Rattle.shorthand_text.proofs.laws.longhands_in_order.Goals as goal

pub returns : goal.returns
returns c = λ name parts ls h. targets_are name parts ls h
