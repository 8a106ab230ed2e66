use Rattle.selectors_mini.proofs.Selectors.{selectors_one}
use Rattle.selectors_mini.proofs.laws.one_selector_list.Goals as goal

pub returns : goal.returns
returns c = selectors_one
