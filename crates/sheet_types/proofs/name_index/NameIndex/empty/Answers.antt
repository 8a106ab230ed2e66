use Rattle.sheet_types.proofs.NameLists.{held_none}
use Rattle.sheet_types.proofs.name_index.NameIndex.empty.Goals as goal

pub returns-clause-value : goal.returns-clause-value
returns-clause-value c = λ name. held_none c.new.result.keys c.new-2.result.items name c.new-2.ensures.items
