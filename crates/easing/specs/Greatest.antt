-- The greatest number up to a limit that has a property.
use Rattle.std.specs.Prelude.{ℕ, zero, suc, ◌≤◌, Bool, if◌then◌else◌}

-- k has the property, and none up to the limit is greater and has it
pub record IsGreatest (P : ℕ → Type 0) (limit k : ℕ) : Type 0 where
  pub within : k ≤ limit
  pub has : P k
  pub greatest : (m : ℕ) → m ≤ limit → P m → m ≤ k

-- the same as a function, for a test that 0 passes
unfoldable pub greatest : (ℕ → Bool) → ℕ → ℕ
greatest p zero = zero
greatest p (suc n) = (if p (suc n) then suc n else greatest p n)
