use Rattle.std.proofs.Common.{sym, ◌∙◌, refl, None}
use Rattle.selectors_mini.proofs.Climbs.{past_root}
use Rattle.selectors_mini.proofs.matching.fits_anywhere.Goals as goal

pub returns-in-None : goal.returns-in-None
returns-in-None c =
    sym (c.loop-element.invariant.same
    ∙ past_root c.args.compounds.now c.loop-element.left c.args.tree.now.elements c.loop-element.at c.in-Some.element.now None
    c.in-Some.ensures.ancestors c.in-None.ensures refl c.in-NotHere.ensures.tells)
