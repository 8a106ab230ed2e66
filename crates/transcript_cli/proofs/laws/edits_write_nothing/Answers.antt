use Rattle.transcript_cli.proofs.OneLine.{edit_writes_nothing}
use Rattle.transcript_cli.proofs.laws.edits_write_nothing.Goals as goal

pub returns : goal.returns
returns c = edit_writes_nothing
