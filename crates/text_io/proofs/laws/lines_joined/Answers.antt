use Rattle.text_io.proofs.LawLemmas.{lines_of-joined}
use Rattle.text_io.proofs.laws.lines_joined.Goals as goal

pub returns : goal.returns
returns c = lines_of-joined
