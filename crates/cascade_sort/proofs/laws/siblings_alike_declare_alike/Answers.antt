use Rattle.cascade_sort.proofs.Siblings.{alike_declare_alike, tested_declare_alike}
use Rattle.cascade_sort.proofs.laws.siblings_alike_declare_alike.Goals as goal

pub returns-clause-elements : goal.returns-clause-elements
returns-clause-elements c = λ sheets d n m e f tree one other alike. alike_declare_alike c.ancestors_go_by_parents.ensures sheets d n m e f tree one other alike

pub returns-clause-tested : goal.returns-clause-tested
returns-clause-tested c = λ sheets d n m tree is. tested_declare_alike c.ancestors_go_by_parents.ensures sheets d n m tree is
