use Rattle.std.proofs.Common.{◌∙◌, sym}
use Rattle.style_data.proofs.Lookups.{one_of_both}
use Rattle.transition_update.proofs.ByProperty.{by_property_has}
use Rattle.transition_update.proofs.Completion.{completed_stays}
use Rattle.transition_update.proofs.laws.completed_ones_match.Goals as goal
use Rattle.transition_update.specs.Updates.{change_of, decision_for}

pub returns : goal.returns
unfolding decision_for
returns c = λ x ts p done are is.
    completed_stays (change_of x ts p) done (one_of_both ts p are) (sym (by_property_has (λ q. (decision_for x ts q).completed) p) ∙ is)
