use Rattle.sheet_rules.proofs.scan.take_step.Goals as goal

pub returns-in-RoundClose : goal.returns-in-RoundClose
returns-in-RoundClose c = rw c.in-RoundClose.is c.closed.ensures

pub returns-in-SquareClose : goal.returns-in-SquareClose
returns-in-SquareClose c = rw c.in-SquareClose.is c.closed-in-SquareClose.ensures
