use Rattle.script_commands.proofs.AcceptedLemmas.{script_accepted}
use Rattle.script_commands.proofs.laws.generated_commands_are_accepted.Goals as goal

pub returns : goal.returns
returns c = script_accepted
