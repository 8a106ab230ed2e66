use Rattle.script_gen.proofs.LengthLemmas.{bytes_count, script_count, script_frames}
use Rattle.script_gen.proofs.laws.scripts_are_short.Goals as goal

pub returns-clause-lines : goal.returns-clause-lines
returns-clause-lines c = script_count

pub returns-clause-frames : goal.returns-clause-frames
returns-clause-frames c = script_frames

pub returns-clause-bytes : goal.returns-clause-bytes
returns-clause-bytes c = bytes_count
