use Rattle.std.proofs.Common.{◌≡◌, drop}
use Rattle.value_types.specs.Keyframes.{IsFrames}
use Rattle.sheet_rules.specs.Frames.{put_blocks}
use Rattle.sheet_rules.proofs.frames.put_blocks.Given as goal

-- the offsets that are left make of the frames what all of them make of those before
abbrev pub invariant-loop-offset : goal.invariant-loop-offset
invariant-loop-offset l =
    (put_blocks (drop l.offset-index l.offsets) l.easing l.declarations l.frames.items ≡ put_blocks l.offsets l.easing l.declarations l.initial.frames.items)
    × IsFrames l.frames.items
