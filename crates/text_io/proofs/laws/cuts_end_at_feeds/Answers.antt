use Rattle.text_io.proofs.LawLemmas.{AreCuts-cuts_of}
use Rattle.text_io.proofs.laws.cuts_end_at_feeds.Goals as goal

pub returns : goal.returns
returns c = AreCuts-cuts_of
