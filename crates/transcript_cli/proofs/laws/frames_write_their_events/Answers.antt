use Rattle.transcript_cli.proofs.OneLine.{answer_read}
use Rattle.transcript_cli.proofs.laws.frames_write_their_events.Goals as goal

pub returns : goal.returns
returns c = λ w n line. answer_read w n line _
