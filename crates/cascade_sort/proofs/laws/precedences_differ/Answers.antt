use Rattle.doc_tree.specs.Element.{inclusive_ancestors}
use Rattle.cascade_sort.specs.Applying.{style_declarations, style_text}
use Rattle.cascade_sort.proofs.Told.{applied_are_apart}
use Rattle.cascade_sort.proofs.laws.precedences_differ.Goals as goal

pub returns : goal.returns
returns c = λ sheets es n. applied_are_apart (inclusive_ancestors es n) sheets (style_declarations (style_text es n))
