use Rattle.std.proofs.Common.{subst, length, ◌≤◌}
use Rattle.std.specs.Prelude.{IfSome}
use Rattle.transcript_cli.proofs.CommandBounds.{numbers_in_bounds, text_in_bounds}
use Rattle.transcript_cli.proofs.answer.read_line.Goals as goal

pub returns-in-Some-clause-numbers : goal.returns-in-Some-clause-numbers
returns-in-Some-clause-numbers c = numbers_in_bounds _ _ c.read_command.ensures

pub returns-in-Some-clause-text : goal.returns-in-Some-clause-text
returns-in-Some-clause-text c = text_in_bounds _ _ _ (subst (λ line. IfSome line (λ text. length text.now ≤ 67108864)) c.in-Some.is c.requires) c.read_command.ensures
