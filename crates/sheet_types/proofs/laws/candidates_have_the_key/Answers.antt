use Rattle.sheet_types.proofs.Keyed.{candidate_is_keyed, keyed_is_candidate}
use Rattle.sheet_types.proofs.laws.candidates_have_the_key.Goals as goal

pub returns : goal.returns
returns c = λ rules key place. (candidate_is_keyed rules key place, keyed_is_candidate rules key place)
