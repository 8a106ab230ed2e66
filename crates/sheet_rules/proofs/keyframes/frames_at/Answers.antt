use Rattle.std.proofs.Common.{◌≡◌, ◌-◌, ap, subst, sym, ◌∙◌, arith}
use Rattle.sheet_rules.specs.Keyframes.{frame_at, frames_at}
use Rattle.sheet_rules.proofs.FaultLemmas.{fault_passes}
use Rattle.sheet_rules.proofs.KeyframesLemmas.{frames_end, frames_fault, frames_next, frames_none}
use Rattle.sheet_rules.proofs.Within.{Lie, lie_after_close, lie_after_spaces}
use Rattle.sheet_rules.proofs.keyframes.frames_at.Goals as goal

pub returns-in-Some-clause-reading : goal.returns-in-Some-clause-reading
returns-in-Some-clause-reading c =
    sym c.loop-done.invariant.reading
    ∙ frames_end c.args.text.now c.loop-done.done c.loop-done.left c.loop-done.frames.items c.loop-done.rest.now c.after_spaces-next.result.now c.in-Some.others.now
    c.loop-done-test.true c.after_spaces-next.ensures (sym c.in-Some.ensures)

pub returns-in-Some-clause-within : goal.returns-in-Some-clause-within
returns-in-Some-clause-within c =
    lie_after_close c.args.text.now c.after_spaces-next.result.now c.in-Some.others.now (sym c.in-Some.ensures)
    (subst (Lie c.args.text.now) (sym c.after_spaces-next.ensures) (lie_after_spaces c.args.text.now c.loop-done.rest.now c.loop-done.invariant.lie))

pub frame_at-requires-clause-within : goal.frame_at-requires-clause-within
frame_at-requires-clause-within c =
    subst (Lie c.args.text.now) (sym c.after_spaces-next.ensures) (lie_after_spaces c.args.text.now c.loop-done.rest.now c.loop-done.invariant.lie)

pub returns-in-Err-clause-reading : goal.returns-in-Err-clause-reading
returns-in-Err-clause-reading c =
    fault_passes c.in-Err.fault (frame_at c.args.text.now c.loop-done.left c.loop-done.frames.items c.after_spaces-next.result.now) _
    (λ e p. sym c.loop-done.invariant.reading
    ∙ frames_fault c.args.text.now c.loop-done.done c.loop-done.left c.loop-done.frames.items c.loop-done.rest.now c.after_spaces-next.result.now e
    c.loop-done-test.true c.after_spaces-next.ensures (sym (rw c.in_default.is at c.after_close.ensures)) p)
    c.in-Err.ensures.reading

pub loop-done-preserved : goal.loop-done-preserved
loop-done-preserved c = record {
  lie = c.in-Ok.ensures.within;
  ordered = c.in-Ok.ensures.frames;
  reading =
      sym (frames_next c.args.text.now c.loop-done.done c.loop-done.left c.in-Ok.found.0 c.loop-done.frames.items c.frame_at.new.frames.items c.loop-done.rest.now
      c.after_spaces-next.result.now c.in-Ok.found.1.now c.loop-done-test.true c.after_spaces-next.ensures (sym (rw c.in_default.is at c.after_close.ensures)) c.in-Ok.ensures.reading)
      ∙ c.loop-done.invariant.reading;
}

pub returns-clause-reading : goal.returns-clause-reading
returns-clause-reading c =
    let none : 65 - c.loop-done.done ≡ 0 = omega (arith, c.loop-done-test.false) in
    sym c.loop-done.invariant.reading ∙ ap (λ n. frames_at c.args.text.now n c.loop-done.left c.loop-done.frames.items c.loop-done.rest.now) none
    ∙ frames_none c.args.text.now c.loop-done.left c.loop-done.frames.items c.loop-done.rest.now
