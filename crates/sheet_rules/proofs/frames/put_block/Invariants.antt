use Rattle.std.proofs.Common.{◌≡◌, drop}
use Rattle.value_types.specs.Keyframes.{IsFrames}
use Rattle.sheet_rules.specs.Frames.{put_block}
use Rattle.sheet_rules.proofs.frames.put_block.Given as goal

-- the declarations that are left make of the frames what all of them make of those before
abbrev pub invariant-loop-declaration : goal.invariant-loop-declaration
invariant-loop-declaration l =
    (put_block l.offset l.easing (drop l.declaration-index l.declarations) l.frames.items ≡ put_block l.offset l.easing l.declarations l.initial.frames.items)
    × IsFrames l.frames.items
