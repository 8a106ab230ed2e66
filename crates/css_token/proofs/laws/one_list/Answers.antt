use Rattle.css_token.proofs.Lists.{tokens_are_one}
use Rattle.css_token.proofs.laws.one_list.Goals as goal

pub returns : goal.returns
returns c = tokens_are_one
