use Rattle.transcript_cli.proofs.Kept.{get_told, list_told}
use Rattle.transcript_cli.proofs.laws.answers_are_of_the_last_frame.Goals as goal

pub returns-clause-get : goal.returns-clause-get
returns-clause-get c = get_told

pub returns-clause-list : goal.returns-clause-list
returns-clause-list c = list_told
