use Rattle.sheet_rules.proofs.Joining as joining
use Rattle.sheet_rules.proofs.laws.sheets_join.Goals as goal

pub returns : goal.returns
returns c = λ text ts us first own h k few. joining.sheets_join text ts us first own h k few
