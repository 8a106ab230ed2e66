-- Bytes that a source or a sink may tell.
use Rattle.std.specs.Prelude.{ℕ, List, Option, None, Some, ⊤}

-- known bytes before and now are so related, and stay known; an unknown start claims nothing
abbrev pub Told : Option (List ℕ) → Option (List ℕ) → (List ℕ → List ℕ → Type 0) → Type 0
Told None now P = ⊤
Told (Some before) None P = ⊥
Told (Some before) (Some now) P = P before now
