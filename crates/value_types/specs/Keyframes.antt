-- The frames of a keyframes rule (CSS Animations 1, "Keyframes").
use Rattle.std.specs.Prelude.{◌≡◌, ◌≢◌, ◌⊎◌, ◌<◌, pos, ◌≤ℤ◌, ◌<ℤ◌, List, All, AllPairs, IfSome}
use Rattle.fix_num.specs.declared.units.TheConstants.Bill.{ONE}
use Rattle.value_types.specs.declared.frame.Frame.{Frame}
use Rattle.value_types.specs.declared.property.PropertyId.TheVariants as property
use Rattle.value_types.specs.Properties.{number_of}
use Rattle.timing_types.specs.Timing.{IsEasing}
use Rattle.value_types.specs.Validity.{IsDeclaredFor}

-- a frame: an offset from 0 to 1, a property other than display, declared as it may be, and an easing within its bounds
pub record IsFrame (f : Frame) : Type 0 where
  pub low : pos 0 ≤ℤ f.offset.0
  pub high : f.offset.0 ≤ℤ ONE.0
  pub animates : f.property ≢ property.Display
  pub declared : IsDeclaredFor f.property f.declared
  pub easing : IfSome f.easing IsEasing

-- f stands before g: at a smaller offset, or at the same one with a smaller property number
abbrev pub IsFrameBefore : Frame → Frame → Type 0
IsFrameBefore f g = (f.offset.0 <ℤ g.offset.0) ⊎ ((f.offset.0 ≡ g.offset.0) × (number_of f.property < number_of g.property))

-- the frames of a rule, in their order, one for each offset and property
pub record IsFrames (fs : List Frame) : Type 0 where
  pub each : All IsFrame fs
  pub ascending : AllPairs IsFrameBefore fs
