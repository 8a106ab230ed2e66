use Rattle.std.proofs.Common.{sym, ◌∙◌, subst, true, false, arith}
use Rattle.std.proofs.lemmas.List.Sums.{prefix_len-le-length}
use Rattle.value_types.specs.Keyframes.{IsFrames}
use Rattle.sheet_rules.specs.Frames.{stands_before}
use Rattle.sheet_rules.proofs.FrameLemmas.{put_is}
use Rattle.sheet_rules.proofs.PutFrames.{put_frames}
use Rattle.sheet_rules.proofs.frames.put_frame.Goals as goal

pub returns-then-is_taken-clause-value : goal.returns-then-is_taken-clause-value
returns-then-is_taken-clause-value c =
    put_is c.args.frame c.args.frames.now.items c.deref.result.now c.deref-2.result.now c.before_len-at.result c.is_taken.result true c.before_len-at.ensures c.deref.ensures.value c.is_taken.ensures.value c.deref-2.ensures.value c.if-is_taken.true

pub returns-then-is_taken-clause-frames : goal.returns-then-is_taken-clause-frames
returns-then-is_taken-clause-frames c =
    subst IsFrames (sym (put_is c.args.frame c.args.frames.now.items c.deref.result.now c.deref-2.result.now c.before_len-at.result c.is_taken.result true c.before_len-at.ensures c.deref.ensures.value c.is_taken.ensures.value c.deref-2.ensures.value c.if-is_taken.true))
    (put_frames c.args.frame c.args.frames.now.items c.requires.frame c.requires.frames)

pub insert-requires : goal.insert-requires
insert-requires c =
    omega (arith, c.before_len-at.ensures, prefix_len-le-length (λ g. stands_before g c.args.frame) c.deref.result.now, c.deref.ensures.len)

pub returns-clause-value : goal.returns-clause-value
returns-clause-value c =
    c.in_ok-insert.ensures.items ∙ put_is c.args.frame c.args.frames.now.items c.deref.result.now c.deref-2.result.now c.before_len-at.result c.is_taken.result false c.before_len-at.ensures c.deref.ensures.value c.is_taken.ensures.value c.deref-2.ensures.value c.if-is_taken.false

pub returns-clause-frames : goal.returns-clause-frames
returns-clause-frames c =
    subst IsFrames (sym (c.in_ok-insert.ensures.items ∙ put_is c.args.frame c.args.frames.now.items c.deref.result.now c.deref-2.result.now c.before_len-at.result c.is_taken.result false c.before_len-at.ensures c.deref.ensures.value c.is_taken.ensures.value c.deref-2.ensures.value c.if-is_taken.false))
    (put_frames c.args.frame c.args.frames.now.items c.requires.frame c.requires.frames)
