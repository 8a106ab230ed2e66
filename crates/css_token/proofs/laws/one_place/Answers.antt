use Rattle.css_token.proofs.Lists.{bad_is_one}
use Rattle.css_token.proofs.laws.one_place.Goals as goal

pub returns : goal.returns
returns c = bad_is_one
