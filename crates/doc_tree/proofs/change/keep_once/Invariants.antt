use Rattle.std.proofs.Common.{Bor, ◌≡◌, ◌≤◌, ℕ, List, map, take, length}
use Rattle.doc_tree.specs.Change.{each_once}
use Rattle.doc_tree.proofs.change.keep_once.Given as goal

abbrev pub invariant-loop-name : goal.invariant-loop-name
invariant-loop-name l = record {
  told : map (λ (t : Bor (List ℕ)). t.now) (take l.count l.kept) ≡ each_once (map (λ (t : Bor (List ℕ)). t.now) (take l.name-index l.names));
  within : l.count ≤ length l.kept;
}
