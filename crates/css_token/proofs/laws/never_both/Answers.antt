use Rattle.css_token.proofs.Lists.{not_both}
use Rattle.css_token.proofs.laws.never_both.Goals as goal

pub returns : goal.returns
returns c = not_both
