use Rattle.cascade_sort.proofs.Siblings.{siblings_tested}
use Rattle.cascade_sort.proofs.laws.the_test_of_siblings_is_exact.Goals as goal

pub returns : goal.returns
returns c = λ n m es. siblings_tested n m es
