use Rattle.list_text.proofs.AnswerLemmas.{list_answer_of}
use Rattle.list_text.proofs.laws.list_as_spelled.Goals as goal

pub returns : goal.returns
returns c = list_answer_of
