use Rattle.transcript_cli.proofs.OneLine.{get_keeps, list_keeps}
use Rattle.transcript_cli.proofs.laws.questions_change_nothing.Goals as goal

pub returns-clause-get : goal.returns-clause-get
returns-clause-get c = get_keeps

pub returns-clause-list : goal.returns-clause-list
returns-clause-list c = list_keeps
