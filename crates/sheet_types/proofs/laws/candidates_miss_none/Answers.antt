use Rattle.sheet_types.proofs.Matched.{matched_is_candidate}
use Rattle.sheet_types.proofs.laws.candidates_miss_none.Goals as goal

pub returns : goal.returns
returns c = λ rules place s e above. matched_is_candidate rules place s e above
