use Rattle.pass_core.proofs.ListsByElement.{Behind}
use Rattle.pass_core.proofs.values.index_of.Given as goal

abbrev pub invariant-loop-i : goal.invariant-loop-i
invariant-loop-i g l = Behind l.values l.element l.i
