use Rattle.std.proofs.Common.{refl}
use Rattle.std.specs.Prelude.{Contains, Some, ◌≡◌}
use Rattle.std.proofs.lemmas.List.Sorted.{All-permutation, length_permutation}
use Rattle.selectors_mini.proofs.laws.parts_in_any_order.Goals as goal

pub returns-clause-represent : goal.returns-clause-represent
returns-clause-represent c = λ c d e same is. record {
  of_type = rw same.tag is.of_type;
  has_ids = All-permutation (λ id. e.id ≡ Some id) c.ids d.ids same.ids is.has_ids;
  has_classes = All-permutation (Contains e.classes) c.classes d.classes same.classes is.has_classes;
}

pub returns-clause-specificity : goal.returns-clause-specificity
returns-clause-specificity c = λ c d same. rw (same.tag, length_permutation c.ids d.ids same.ids, length_permutation c.classes d.classes same.classes) refl
