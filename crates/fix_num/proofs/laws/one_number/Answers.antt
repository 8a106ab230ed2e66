use Rattle.fix_num.proofs.SpellingLemmas.{found, spelled}
use Rattle.fix_num.proofs.laws.one_number.Goals as goal

pub returns : goal.returns
returns c = λ text d. (found text d, spelled text d)
