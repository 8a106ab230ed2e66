use Rattle.ticker.proofs.Differ.{effects_differ}
use Rattle.ticker.proofs.laws.keys_of_an_element_differ.Goals as goal

pub returns : goal.returns
returns c = effects_differ
