use Rattle.value_types.proofs.PropertyLemmas.{at_its_number}
use Rattle.value_types.specs.Properties.{all_properties, number_of}
use Rattle.transition_update.proofs.ByProperty.{by_property_has}
use Rattle.transition_update.proofs.Given.{given_of, is_given}
use Rattle.transition_update.proofs.laws.each_property_by_its_rules.Goals as goal
use Rattle.transition_update.specs.Updates.{decision_for}

pub returns-clause-running : goal.returns-clause-running
returns-clause-running c = λ x ts p. by_property_has (λ q. (decision_for x ts q).running) p

pub returns-clause-completed : goal.returns-clause-completed
returns-clause-completed c = λ x ts p. by_property_has (λ q. (decision_for x ts q).completed) p

pub returns-clause-cancelled : goal.returns-clause-cancelled
returns-clause-cancelled c = λ x ts g. (
  λ there. given_of (λ p. (decision_for x ts p).gone) all_properties g there,
  λ of_one. is_given (λ p. (decision_for x ts p).gone) all_properties (number_of of_one.0) of_one.0 g (at_its_number of_one.0) of_one.1,
)
