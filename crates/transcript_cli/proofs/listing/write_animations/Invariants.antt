use Rattle.std.proofs.Common.{◌≡◌, ◌++◌, take}
use Rattle.std.specs.Prelude.{flat_map}
use Rattle.transcript_text.specs.Lines.{animation_line}
use Rattle.transcript_cli.proofs.listing.write_animations.Given as goal

-- the lines of the animations so far are appended
abbrev pub invariant-loop-animation : goal.invariant-loop-animation
invariant-loop-animation l = l.piece.items ≡ l.initial.piece.items ++ flat_map (animation_line l.n) (take l.animation-index l.animations)
