use Rattle.std.proofs.Common.{◌≡◌, ℕ, ◌<◌}
use Rattle.computed_style.specs.Winners.{AreDeclarations, list_winners_of}
use Rattle.computed_style.proofs.ByIndex.{list_at}
use Rattle.computed_style.proofs.declared_set.have_same_lists.Given as goal

-- the lists so far have the same, and once there was one both are known to be whole
abbrev pub invariant-loop-name : goal.invariant-loop-name
invariant-loop-name l = record {
  each : (i : ℕ) → i < l.name-index → list_winners_of l.a (list_at i) ≡ list_winners_of l.b (list_at i);
  all : 0 < l.name-index → AreDeclarations l.a × AreDeclarations l.b;
}
