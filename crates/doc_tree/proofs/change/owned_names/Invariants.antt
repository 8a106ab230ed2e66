use Rattle.std.proofs.Common.{Bor, ◌≡◌, ◌++◌, ℕ, List, map, drop}
use Rattle.std.specs.String.{string_bytes}
use Rattle.doc_tree.proofs.change.owned_names.Given as goal

abbrev pub invariant-loop-name : goal.invariant-loop-name
invariant-loop-name l = map string_bytes l.copies.items ++ map (λ (t : Bor (List ℕ)). t.now) (drop l.name-index l.names) ≡ map (λ (t : Bor (List ℕ)). t.now) l.names
