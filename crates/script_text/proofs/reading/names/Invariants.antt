use Rattle.std.proofs.Common.{length}
use Rattle.script_text.proofs.NameLemmas.{Kept}
use Rattle.script_text.proofs.reading.names.Given as goal

abbrev pub invariant-words : goal.invariant-words
invariant-words l = Kept l.text l.rest l.names.items

abbrev pub decreases-words : goal.decreases-words
decreases-words l = length l.rest
