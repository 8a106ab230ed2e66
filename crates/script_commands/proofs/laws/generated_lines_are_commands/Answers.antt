use Rattle.script_commands.proofs.ScriptLemmas.{script_read}
use Rattle.script_commands.proofs.laws.generated_lines_are_commands.Goals as goal

pub returns : goal.returns
returns c = script_read
