use Rattle.std.proofs.Common.{◌≡◌, ◌++◌, drop}
use Rattle.sheet_types.specs.Candidates.{SelectorKey, candidates_from, candidates_of}
use Rattle.sheet_types.specs.Index.{IsSound, held}
use Rattle.sheet_types.proofs.selector_index.SelectorIndex.of.Given as goal

-- what stands under a key, and then the selectors of the rules that are left, are all
abbrev pub invariant-loop-at : goal.invariant-loop-at
invariant-loop-at l = record {
  sound : IsSound l.index;
  places : (key : SelectorKey) → held l.index key ++ candidates_from key l.at (drop l.at l.rules) ≡ candidates_of key l.rules;
}
