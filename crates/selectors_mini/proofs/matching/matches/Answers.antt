use Rattle.doc_tree.specs.Element.{inclusive_ancestors}
use Rattle.selectors_mini.proofs.Fitting.{matches_is}
use Rattle.selectors_mini.proofs.matching.matches.Goals as goal

pub returns-clause-matches : goal.returns-clause-matches
returns-clause-matches c = matches_is c.args.s.now (inclusive_ancestors c.args.tree.now.elements c.args.n) c.fit.result (rw (← c.compounds.ensures.value) c.fit.ensures)
