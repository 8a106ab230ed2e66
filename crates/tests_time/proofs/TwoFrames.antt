-- A rule of two frames.
use Rattle.std.proofs.Common.{zero, suc, ◌<◌, length, arith, inl}
use Rattle.std.specs.Prelude.{All, AllPairs, [], ◌∷◌, ◌++◌, ◌<ℤ◌}
use Rattle.value_types.specs.Keyframes.{IsFrame, IsFrameBefore, IsFrames}
use Rattle.value_types.specs.declared.frame.Frame.{Frame}

both : (a b : Frame) → IsFrame a → IsFrame b → All IsFrame (a ∷ b ∷ [])
both a b p q zero d l = p
both a b p q (suc zero) d l = q
both a b p q (suc (suc k)) d l = absurd (omega arith)

ordered : (a b : Frame) → IsFrameBefore a b → AllPairs IsFrameBefore (a ∷ b ∷ [])
ordered a b h zero zero d less within = absurd (omega arith)
ordered a b h zero (suc zero) d less within = h
ordered a b h zero (suc (suc k)) d less within = absurd (omega arith)
ordered a b h (suc i) j d less within = absurd (omega arith)

pub two_frames : (a b : Frame) → IsFrame a → IsFrame b → a.offset.0 <ℤ b.offset.0 → IsFrames ([] ++ a ∷ [] ++ b ∷ [])
two_frames a b p q before = record { each = both a b p q; ascending = ordered a b (inl before) }

single : (a : Frame) → IsFrame a → All IsFrame (a ∷ [])
single a p zero d l = p
single a p (suc k) d l = absurd (omega arith)

pub one_frame : (a : Frame) → IsFrame a → IsFrames ([] ++ a ∷ [])
one_frame a p = record { each = single a p; ascending = λ i j d less within. absurd (omega arith) }
