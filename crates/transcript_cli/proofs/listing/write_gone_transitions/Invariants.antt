use Rattle.std.proofs.Common.{◌≡◌, ◌++◌, take}
use Rattle.std.specs.Prelude.{flat_map}
use Rattle.transcript_text.specs.Lines.{gone_line}
use Rattle.transcript_cli.specs.Listing.{is_transition, line_if}
use Rattle.transcript_cli.proofs.listing.write_gone_transitions.Given as goal

-- the lines of those among the items so far are appended
abbrev pub invariant-loop-item : goal.invariant-loop-item
invariant-loop-item l = l.piece.items ≡ l.initial.piece.items ++ flat_map (line_if is_transition (gone_line l.n)) (take l.item-index l.gone)
