use Rattle.std.proofs.Common.{length, sym, ◌∙◌}
use Rattle.selectors_mini.proofs.Climbs.{fits_whole, none_here}
use Rattle.selectors_mini.proofs.matching.fit.Goals as goal

pub returns-in-Nowhere : goal.returns-in-Nowhere
returns-in-Nowhere c =
    let s = c.args.compounds.now in
    sym (none_here s (length s) c.args.tree.now.elements c.args.n c.in-Nowhere.ensures.tells) ∙ fits_whole s c.args.tree.now.elements c.args.n
