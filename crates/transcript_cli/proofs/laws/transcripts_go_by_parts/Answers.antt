use Rattle.transcript_cli.proofs.ByParts.{left_by_parts, refused_by_parts, written_by_parts}
use Rattle.transcript_cli.proofs.ManyLines.{bytes_by_parts}
use Rattle.transcript_cli.proofs.laws.transcripts_go_by_parts.Goals as goal

pub returns-clause-lines : goal.returns-clause-lines
returns-clause-lines c = written_by_parts

pub returns-clause-world : goal.returns-clause-world
returns-clause-world c = left_by_parts

pub returns-clause-refused : goal.returns-clause-refused
returns-clause-refused c = refused_by_parts

pub returns-clause-bytes : goal.returns-clause-bytes
returns-clause-bytes c = bytes_by_parts
