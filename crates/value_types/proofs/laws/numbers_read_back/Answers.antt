use Rattle.std.proofs.Common.{◌≡◌, ℕ, Some, slice_get, subst, ◌∙◌, zero-add}
use Rattle.value_types.specs.Properties.{all_properties}
use Rattle.value_types.proofs.PropertyLemmas.{at_its_number, counts_up, number_at}
use Rattle.value_types.proofs.laws.numbers_read_back.Goals as goal

pub returns : goal.returns
returns c = λ n p. (
  (λ is. number_at 0 all_properties n p counts_up is ∙ zero-add n),
  (λ is. subst (λ (k : ℕ). slice_get all_properties k ≡ Some p) is (at_its_number p)),
)
