use Rattle.transcript_cli.proofs.ManyLines.{same_refusals, same_transcript, same_world}
use Rattle.transcript_cli.proofs.OneLine.{are_alike}
use Rattle.transcript_cli.proofs.laws.numbers_show_in_refusals.Goals as goal

pub returns-clause-world : goal.returns-clause-world
returns-clause-world c = same_world

pub returns-clause-refused : goal.returns-clause-refused
returns-clause-refused c = same_refusals

pub returns-clause-piece : goal.returns-clause-piece
returns-clause-piece c = λ w n m line. (are_alike w n m line).piece

pub returns-clause-transcript : goal.returns-clause-transcript
returns-clause-transcript c = same_transcript
