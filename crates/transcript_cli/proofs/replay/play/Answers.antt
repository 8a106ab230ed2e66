use Rattle.std.proofs.Common.{subst, ap, take, Err, List, ℕ}
use Rattle.std.specs.Io.KnownBytes.{Appends}
use Rattle.transcript_cli.proofs.Endings.{finishes, next, starts, stops, write_failed}
use Rattle.transcript_cli.proofs.replay.play.Goals as goal

pub script-init : goal.script-init
script-init g c = starts _ _ _ _ _ c.requires.new_lines c.requires.new_world

pub script-preserved : goal.script-preserved
script-preserved g c =
    let line = rw c.in-Some.is at c.in-Ok.ensures.line in
    let shrinks = rw c.in-Some.is at c.in-Ok.ensures.shrinks in
    let appends = subst (λ (piece : List ℕ). Appends (g.K.Sink.held c.script.sink) (g.K.Sink.held c.put_piece.new.sink) piece) c.deref.ensures.value c.in-Ok-put_piece.ensures.ok in
    next _ _ _ _ _ _ _ _ _ _ _ _ _ _ _ _ _ c.script.invariant line shrinks c.in-Ok.ensures.no_fault c.in-Ok.ensures.within c.answer_next.ensures.faults
    appends c.put_piece.ensures.faults c.put_piece.ensures.empty_writes

pub returns-in-None-clause-replay : goal.returns-in-None-clause-replay
returns-in-None-clause-replay g c =
    let end = rw c.in-None.is at c.in-Ok.ensures.end in
    finishes _ _ _ _ _ c.answer_next.new.lines _ _ _ _ _ _ _ _ c.script.invariant end c.answer_next.ensures.faults
    c.finished.ensures.refused.0 c.finished.ensures.done.0 c.finished.ensures.finished

pub returns-in-Err-clause-replay : goal.returns-in-Err-clause-replay
returns-in-Err-clause-replay g c =
    stops _ _ _ _ _ c.answer_next.new.lines _ _ _ _ _ _ _ _ c.script.invariant c.answer_next.ensures.taken c.answer_next.ensures.faults c.in-Err.ensures.cause
    (λ e. c.in-Err.ensures.no_line (ap Err e))

pub returns-in_default-clause-replay : goal.returns-in_default-clause-replay
returns-in_default-clause-replay g c =
    let line = rw c.in-Some.is at c.in-Ok.ensures.line in
    let prefix = c.in_default.ensures.prefix in
    let appends = subst (λ (piece : List ℕ). Appends (g.K.Sink.held c.script.sink) (g.K.Sink.held c.put_piece.new.sink) (take prefix.0 piece)) c.deref.ensures.value prefix.2 in
    write_failed _ _ _ _ c.answer_next.new.lines _ _ _ _ _ _ prefix.0 _ _ _ _ _ _ c.script.invariant line c.answer_next.ensures.taken c.in-Ok.ensures.within c.answer_next.ensures.faults appends
    c.put_piece.ensures.faults c.put_piece.ensures.empty_writes c.in_default.ensures.cause
