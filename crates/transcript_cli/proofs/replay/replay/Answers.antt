use Rattle.std.proofs.Common.{refl, inr}
use Rattle.transcript_cli.proofs.Endings.{nothing_done}
use Rattle.transcript_cli.proofs.replay.replay.Goals as goal

pub returns-in_default-clause-replay : goal.returns-in_default-clause-replay
returns-in_default-clause-replay g c = nothing_done _ _ _ _ (inr refl)

pub returns-in_default-new-clause-replay : goal.returns-in_default-new-clause-replay
returns-in_default-new-clause-replay g c = nothing_done _ _ _ _ (inr refl)

pub returns-in_default-new-2-clause-replay : goal.returns-in_default-new-2-clause-replay
returns-in_default-new-2-clause-replay g c = nothing_done _ _ _ _ (inr refl)
