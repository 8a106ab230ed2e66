use Rattle.std.proofs.Common.{◌≡◌, ◌++◌, drop}
use Rattle.sheet_types.specs.Candidates.{SelectorKey, places_in}
use Rattle.sheet_types.specs.Index.{IsSound, held}
use Rattle.sheet_types.proofs.selector_index.SelectorIndex.put_rule.Given as goal

-- what stands under a key, and then the selectors that are left, are all
abbrev pub invariant-loop-at : goal.invariant-loop-at
invariant-loop-at l = record {
  sound : IsSound l.self;
  places : (key : SelectorKey) → held l.self key ++ places_in key l.rule l.at (drop l.at l.selectors) ≡ held l.initial.self key ++ places_in key l.rule 0 l.selectors;
}
