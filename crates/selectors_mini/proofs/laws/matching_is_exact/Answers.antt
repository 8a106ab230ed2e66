use Rattle.std.proofs.Common.{refl}
use Rattle.selectors_mini.specs.Matching.{matches_of}
use Rattle.selectors_mini.proofs.Fitting.{matches_is}
use Rattle.selectors_mini.proofs.laws.matching_is_exact.Goals as goal

pub returns : goal.returns
returns c = λ s chain. matches_is s chain (matches_of s chain) refl
