use Rattle.std.proofs.Common.{◌-◌}
use Rattle.sheet_rules.proofs.KeyframesLemmas.{AreReading}
use Rattle.sheet_rules.proofs.keyframes.frames_at.Given as goal

abbrev pub invariant-loop-done : goal.invariant-loop-done
invariant-loop-done l = AreReading l.text l.initial.frames.items l.tokens (65 - l.done) l.left l.frames.items l.rest
