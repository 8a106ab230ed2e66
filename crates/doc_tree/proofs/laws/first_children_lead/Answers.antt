use Rattle.std.proofs.Common.{ap}
use Rattle.doc_tree.specs.Children.{first_number}
use Rattle.doc_tree.proofs.laws.first_children_lead.Goals as goal

pub returns-clause-child : goal.returns-clause-child
returns-clause-child c = λ es n first others is. ap first_number is

pub returns-clause-none : goal.returns-clause-none
returns-clause-none c = λ es n is. ap first_number is
