use Rattle.std.proofs.Common.{◌≡◌, ◌++◌, take}
use Rattle.std.specs.Prelude.{flat_map}
use Rattle.transcript_text.specs.Lines.{event_line}
use Rattle.transcript_cli.proofs.answer.write_events.Given as goal

-- the lines of the events so far are appended
abbrev pub invariant-loop-event : goal.invariant-loop-event
invariant-loop-event l = l.piece.items ≡ l.initial.piece.items ++ flat_map event_line (take l.event-index l.events)
