use Rattle.css_token.proofs.Reading.{reads_tokens, reads_bad}
use Rattle.css_token.proofs.laws.one_reading.Goals as goal

pub returns : goal.returns
returns c = record { tokens = reads_tokens; bad = reads_bad }
