use Rattle.std.proofs.Common.{◌≡◌, drop}
use Rattle.std.specs.Prelude.{IfSome, None}
use Rattle.timing_types.specs.Timing.{IsEasing}
use Rattle.sheet_rules.specs.Frames.{easing_of}
use Rattle.sheet_rules.proofs.frames.easing_of.Given as goal

-- with the easing so far those that are left give that of all
abbrev pub invariant-loop-declaration : goal.invariant-loop-declaration
invariant-loop-declaration l = (easing_of l.easing (drop l.declaration-index l.declarations) ≡ easing_of None l.declarations) × IfSome l.easing IsEasing
