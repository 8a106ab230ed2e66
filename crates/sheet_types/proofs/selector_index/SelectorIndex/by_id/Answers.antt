use Rattle.sheet_types.specs.Index.{held}
use Rattle.sheet_types.proofs.selector_index.SelectorIndex.by_id.Goals as goal

pub returns : goal.returns
unfolding held
returns c = c.get.ensures
