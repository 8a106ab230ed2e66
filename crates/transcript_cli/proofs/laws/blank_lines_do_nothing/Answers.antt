use Rattle.transcript_cli.proofs.ManyLines.{without_blank}
use Rattle.transcript_cli.proofs.OneLine.{answer_read}
use Rattle.transcript_cli.proofs.laws.blank_lines_do_nothing.Goals as goal

pub returns-clause-answer : goal.returns-clause-answer
returns-clause-answer c = λ w n line. answer_read w n line _

pub returns-clause-without : goal.returns-clause-without
returns-clause-without c = without_blank
