use Rattle.script_gen.proofs.ReadBackLemmas.{script_read_back}
use Rattle.script_gen.proofs.laws.scripts_read_back.Goals as goal

pub returns : goal.returns
returns c = script_read_back
