use Rattle.reversing.specs.Reversal.{part_of, reversed_start}
use Rattle.reversing.proofs.Parts.{further, no_further, part_within}
use Rattle.reversing.proofs.laws.never_lasts_longer.Goals as goal

pub returns-clause-ordered : goal.returns-clause-ordered
returns-clause-ordered c = λ t delay duration factor is some. further (reversed_start t delay factor) (part_of factor duration) (part_within factor duration is some).0

pub returns-clause-shorter : goal.returns-clause-shorter
returns-clause-shorter c = λ t delay duration factor is some. no_further (reversed_start t delay factor) (part_of factor duration) duration (part_within factor duration is some).1
