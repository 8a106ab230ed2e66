use Rattle.text_io.proofs.LawLemmas.{concat-cuts_of}
use Rattle.text_io.proofs.laws.cuts_joined.Goals as goal

pub returns : goal.returns
returns c = concat-cuts_of
