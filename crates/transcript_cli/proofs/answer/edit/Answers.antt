use Rattle.transcript_cli.proofs.Questions.{still_accepted}
use Rattle.transcript_cli.proofs.answer.edit.Goals as goal

pub write_output-requires-clause-accepted : goal.write_output-requires-clause-accepted
write_output-requires-clause-accepted c = λ asks. still_accepted c.args.world.now c.apply_edit.new.self c.args.command.now c.in-Ok.ensures.0 c.in-Ok.ensures.1 asks
