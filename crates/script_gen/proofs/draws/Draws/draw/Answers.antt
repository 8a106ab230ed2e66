use Rattle.script_gen.proofs.DrawLemmas.{wrapped}
use Rattle.script_gen.proofs.draws.Draws.draw.Goals as goal

pub returns-clause-number : goal.returns-clause-number
returns-clause-number c = wrapped c.args.self.now.number
