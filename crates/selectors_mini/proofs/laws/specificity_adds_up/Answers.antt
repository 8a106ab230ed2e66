use Rattle.std.proofs.Common.{cond, length, refl}
use Rattle.std.specs.Prelude.{is_some}
use Rattle.std.proofs.lemmas.List.Sums.{sum_by-append}
use Rattle.selectors_mini.specs.Compounds.{CompoundSelector}
use Rattle.selectors_mini.proofs.laws.specificity_adds_up.Goals as goal

pub returns : goal.returns
returns c = λ s t.
    rw (
      sum_by-append (λ (x : CompoundSelector). length x.ids) s t,
      sum_by-append (λ (x : CompoundSelector). length x.classes) s t,
      sum_by-append (λ (x : CompoundSelector). cond (is_some x.tag) 1 0) s t,
    ) refl
