-- Known bytes over several calls.
use Rattle.std.proofs.Common.{ℕ, List, Option, None, Some}
use Rattle.text_io.specs.Told.{Told}

-- two steps of known bytes make one
pub told_then : (a b c : Option (List ℕ)) (P Q R : List ℕ → List ℕ → Type 0) → ((x y z : List ℕ) → P x y → Q y z → R x z)
    → Told a b P → Told b c Q → Told a c R
told_then None b c P Q R step p q = tt
told_then (Some x) None c P Q R step p q = absurd p
told_then (Some x) (Some y) None P Q R step p q = absurd q
told_then (Some x) (Some y) (Some z) P Q R step p q = step x y z p q
