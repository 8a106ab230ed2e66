use Rattle.transcript_cli.proofs.Generated.{generated_never_refused}
use Rattle.transcript_cli.proofs.laws.generated_scripts_are_never_refused.Goals as goal

pub returns : goal.returns
returns c = generated_never_refused
