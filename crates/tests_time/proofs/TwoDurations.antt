-- A list of two durations.
use Rattle.std.proofs.Common.{◌≡◌, zero, suc, ◌<◌, arith}
use Rattle.std.specs.Prelude.{All, [], ◌∷◌}
use Rattle.fix_num.specs.declared.units.Micros.{Micros}
use Rattle.timing_types.specs.Timing.{IsDuration}
use Rattle.timing_types.specs.TimingLists.{IsListOf}

both : (a b : Micros) → IsDuration a → IsDuration b → All IsDuration (a ∷ b ∷ [])
both a b p q zero d l = p
both a b p q (suc zero) d l = q
both a b p q (suc (suc k)) d l = absurd (omega arith)

pub two_durations : (a b : Micros) → IsDuration a → IsDuration b → IsListOf IsDuration (a ∷ b ∷ [])
two_durations a b p q = record { some = omega arith; few = omega arith; each = both a b p q }
