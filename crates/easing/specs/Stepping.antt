-- Step easing functions, after CSS Easing Functions Level 1, "Step easing functions".
use Rattle.std.specs.Prelude.{ℕ, ◌+◌, ◌-◌, ℤ, pos, ◌+ℤ◌, ◌-ℤ◌, ◌*ℤ◌, Bool, ◌&&◌, if◌then◌else◌}
use Rattle.std.specs.Int.{int_div_euclid, int_rem_euclid, int_min, int_max}
use Rattle.std.specs.Ordering.{int_eq}
use Rattle.timing_types.specs.declared.easing.Jump.{Jump}
use Rattle.timing_types.specs.declared.easing.Jump.TheVariants.{Start, End, Both, Nowhere}

-- how many jumps make up the way from 0 to 1
abbrev pub jumps_of : Jump → ℕ → ℕ
jumps_of Start count = count
jumps_of End count = count
jumps_of Both count = count + 1
jumps_of Nowhere count = count - 1

-- the jumps at the start
abbrev pub jumps_at_start : Jump → ℕ
jumps_at_start Start = 1
jumps_at_start End = 0
jumps_at_start Both = 1
jumps_at_start Nowhere = 0

-- the step back at the very beginning of a step, where the before flag is set
abbrev pub step_back : ℤ → ℤ → Bool → ℤ
step_back position den before = (if before && int_eq (int_rem_euclid position den) (pos 0) then pos 1 else pos 0)

-- the current step at the input num / den, from 0 to the number of jumps
abbrev pub step_of : ℕ → Jump → ℤ → ℤ → Bool → ℤ
step_of count jump num den before =
    let position = num *ℤ pos count in
    int_max (pos 0) (int_min (pos (jumps_of jump count))
    ((int_div_euclid position den +ℤ pos (jumps_at_start jump)) -ℤ step_back position den before))
