-- The phase of a transition.
use Rattle.std.specs.Prelude.{ℤ, int_lt, int_le, if◌then◌else◌}
use Rattle.style_data.specs.declared.transition.Phase.{Phase}
use Rattle.style_data.specs.declared.transition.Phase.TheVariants.{Before, Active, After}
use Rattle.style_data.specs.declared.transition.Transition.{Transition}

-- the phase at time t: after from its end on, before until it starts, and else active (Web Animations Level 1, "Animation effect phases and states")
abbrev pub phase_of : Transition → ℤ → Phase
phase_of r t = (if int_le r.end.0 t then After else if int_lt t r.start.0 then Before else Active)
