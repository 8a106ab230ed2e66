use Rattle.computed_style.specs.ComputedStyles.{computed_style}
use Rattle.computed_style.proofs.ListLemmas.{animation_lists_are, transition_lists_are}
use Rattle.mini_cascade.proofs.Validity.{style_valid}
use Rattle.mini_cascade.proofs.laws.computed_styles_are_valid.Goals as goal

pub returns-clause-values : goal.returns-clause-values
returns-clause-values c = style_valid

pub returns-clause-transitions : goal.returns-clause-transitions
unfolding computed_style
returns-clause-transitions c = λ x are. transition_lists_are x.declared are.declared

pub returns-clause-animations : goal.returns-clause-animations
unfolding computed_style
returns-clause-animations c = λ x are. animation_lists_are x.declared are.declared
