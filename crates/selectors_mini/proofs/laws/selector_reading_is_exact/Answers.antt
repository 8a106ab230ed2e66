use Rattle.selectors_mini.proofs.Selectors.{reading_is_answer}
use Rattle.selectors_mini.proofs.laws.selector_reading_is_exact.Goals as goal

pub returns : goal.returns
returns c = reading_is_answer
