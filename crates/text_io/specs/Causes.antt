-- Why a call failed, by counts that never fall.
use Rattle.std.specs.Prelude.{◌≡◌, ℕ, ◌+◌, ◌-◌, ◌^◌, ◌<◌, ◌≤◌, min, List, length, Result, OnErr, IfOk}

-- the count rose
abbrev pub Rose : ℕ → ℕ → Type 0
Rose before now = before < now

-- the count rose, or stands at the end of its type
abbrev pub RoseOrFull : ℕ → ℕ → Type 0
RoseOrFull before now = min (before + 1) (2 ^ 64 - 1) ≤ now

-- a count of faults round a call: it never falls, and an error comes only where it rose
pub record HasCause {T E : Type 0} (before now : ℕ) (result : Result T E) : Type 0 where
  pub later : before ≤ now
  pub failed : OnErr result (Rose before now)

-- a count of empty writes round a write: it never falls, and no byte of some is taken only where it rose or is full
pub record HasEmptyCause {E : Type 0} (before now : ℕ) (result : Result ℕ E) (bytes : List ℕ) : Type 0 where
  pub later : before ≤ now
  pub empty : IfOk result (λ n. n ≡ 0 → 0 < length bytes → RoseOrFull before now)
