use Rattle.sheet_types.proofs.Puts.{nothing_held}
use Rattle.sheet_types.proofs.selector_index.SelectorIndex.empty.Goals as goal

pub returns-clause-value : goal.returns-clause-value
returns-clause-value c = nothing_held (record { ids = c.empty.result; classes = c.empty-2.result; types = c.empty-3.result; others = c.new.result }) c.empty.ensures.value c.empty-2.ensures.value c.empty-3.ensures.value c.new.ensures.items
