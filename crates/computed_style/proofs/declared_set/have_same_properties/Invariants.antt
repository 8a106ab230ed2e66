use Rattle.std.proofs.Common.{◌≡◌, ℕ, ◌<◌}
use Rattle.computed_style.specs.Winners.{AreDeclarations, winners_of}
use Rattle.computed_style.proofs.ByIndex.{property_at}
use Rattle.computed_style.proofs.declared_set.have_same_properties.Given as goal

-- the properties so far have the same, and once there was one both are known to be whole
abbrev pub invariant-loop-p : goal.invariant-loop-p
invariant-loop-p l = record {
  each : (i : ℕ) → i < l.p-index → winners_of l.a (property_at i) ≡ winners_of l.b (property_at i);
  all : 0 < l.p-index → AreDeclarations l.a × AreDeclarations l.b;
}
