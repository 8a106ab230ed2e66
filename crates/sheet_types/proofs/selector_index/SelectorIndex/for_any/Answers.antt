use Rattle.sheet_types.specs.Index.{held}
use Rattle.sheet_types.proofs.selector_index.SelectorIndex.for_any.Goals as goal

pub returns : goal.returns
unfolding held
returns c = c.as_slice.ensures.value
