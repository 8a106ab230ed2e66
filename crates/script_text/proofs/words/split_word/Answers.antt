use Rattle.script_text.proofs.WordLemmas.{front_dropped}
use Rattle.script_text.proofs.words.split_word.Goals as goal

pub returns-clause-solid : goal.returns-clause-solid
returns-clause-solid c = rw c.without_front.ensures.value (front_dropped c.split_at.result.1.now)
