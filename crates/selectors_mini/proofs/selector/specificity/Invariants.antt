use Rattle.std.proofs.Common.{◌≡◌, ◌≤◌, ◌*◌, ℕ, length, take}
use Rattle.std.specs.Prelude.{sum_by, count_by, is_some, List}
use Rattle.selectors_mini.specs.Compounds.{CompoundSelector}
use Rattle.selectors_mini.proofs.selector.specificity.Given as goal

-- the counts of the compounds so far, each of which is small
pub record Counts (before : List CompoundSelector) (i ids classes types : ℕ) : Type 0 where
  pub ids_are : ids ≡ sum_by (λ c. length c.ids) before
  pub classes_are : classes ≡ sum_by (λ c. length c.classes) before
  pub types_are : types ≡ count_by (λ c. is_some c.tag) before
  pub few_ids : ids ≤ 67108864 * i
  pub few_classes : classes ≤ 67108864 * i
  pub few_types : types ≤ i

abbrev pub invariant-loop-compound : goal.invariant-loop-compound
invariant-loop-compound l = Counts (take l.compound-index l.compound-items) l.compound-index l.ids l.classes l.types
