use Rattle.transcript_text.proofs.OneLine.{item_is_one_line}
use Rattle.transcript_text.proofs.laws.an_item_is_one_line.Goals as goal

pub returns : goal.returns
returns c = item_is_one_line
