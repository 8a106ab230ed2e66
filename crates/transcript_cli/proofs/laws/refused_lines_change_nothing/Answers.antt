use Rattle.transcript_cli.proofs.ManyLines.{without_refused}
use Rattle.transcript_cli.proofs.OneLine.{refused_piece, refused_world}
use Rattle.transcript_cli.proofs.laws.refused_lines_change_nothing.Goals as goal

pub returns-clause-world : goal.returns-clause-world
returns-clause-world c = refused_world

pub returns-clause-piece : goal.returns-clause-piece
returns-clause-piece c = refused_piece

pub returns-clause-without : goal.returns-clause-without
returns-clause-without c = without_refused
