-- The phases of an animation (Web Animations Level 1, "Animation effect phases and states").
use Rattle.std.specs.Prelude.{ℤ, ◌≤ℤ◌, ◌<ℤ◌, int_le, int_lt, false, IfSome, IsSomeAnd, if◌then◌else◌}
use Rattle.std.specs.Option.{option_map_or}
use Rattle.style_data.specs.declared.timing.AnimationTiming.{AnimationTiming}
use Rattle.style_data.specs.declared.transition.Phase.{Phase}
use Rattle.style_data.specs.declared.transition.Phase.TheVariants.{Idle, Before, Active, After}
use Rattle.anim_timing.specs.Durations.{active_after_boundary, before_active_boundary}

-- the phase in which an animation is at a local time: before until the first boundary, after from the second on, active between
-- them; it is never idle
abbrev pub IsInPhase : AnimationTiming → ℤ → Phase → Type 0
IsInPhase t local Idle = ⊥
IsInPhase t local Before = local <ℤ before_active_boundary t
IsInPhase t local Active = (before_active_boundary t ≤ℤ local) × IfSome (active_after_boundary t) (λ boundary. local <ℤ boundary)
IsInPhase t local After = IsSomeAnd (active_after_boundary t) (λ boundary. boundary ≤ℤ local)

-- the same as a function
unfoldable pub phase_of : AnimationTiming → ℤ → Phase
phase_of t local =
    (if int_lt local (before_active_boundary t) then Before
    else if option_map_or (λ boundary. int_le boundary local) (active_after_boundary t) false then After
    else Active)
