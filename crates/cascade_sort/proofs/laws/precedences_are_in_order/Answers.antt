use Rattle.std.proofs.Common.{◌≡◌, ◌⊎◌, inl, inr, Bool, true, false, refl}
use Rattle.cascade_sort.specs.Lexicographic.{is_at_most}
use Rattle.cascade_sort.specs.Precedences.{keys_of}
use Rattle.cascade_sort.specs.declared.precedence.Precedence.{Precedence}
use Rattle.cascade_sort.proofs.Orders.{at_most_both, at_most_itself, at_most_total, at_most_trans}
use Rattle.cascade_sort.proofs.Told.{same_precedence}
use Rattle.cascade_sort.proofs.laws.precedences_are_in_order.Goals as goal

pub returns-clause-itself : goal.returns-clause-itself
returns-clause-itself c = λ p. at_most_itself (keys_of p)

pub returns-clause-chained : goal.returns-clause-chained
returns-clause-chained c = λ p q r. at_most_trans (keys_of p) (keys_of q) (keys_of r)

either : (p q : Precedence) (b : Bool) → is_at_most (keys_of p) (keys_of q) ≡ b → (is_at_most (keys_of p) (keys_of q) ≡ true) ⊎ (is_at_most (keys_of q) (keys_of p) ≡ true)
either p q true is = inl is
either p q false is = inr (at_most_total (keys_of p) (keys_of q) is)

pub returns-clause-comparable : goal.returns-clause-comparable
returns-clause-comparable c = λ p q. either p q (is_at_most (keys_of p) (keys_of q)) refl

pub returns-clause-equal : goal.returns-clause-equal
returns-clause-equal c = λ p q below above. same_precedence p q (at_most_both (keys_of p) (keys_of q) refl below above)
