-- A list of one animation.
use Rattle.std.proofs.Common.{arith}
use Rattle.std.specs.Prelude.{[], ◌∷◌, ◌++◌}
use Rattle.style_data.specs.Entries.{AreAscending}
use Rattle.style_data.specs.declared.animation.AnimationState.{AnimationState}

pub alone : (a : AnimationState) → AreAscending ([] ++ a ∷ [])
alone a i j d less within = absurd (omega arith)
