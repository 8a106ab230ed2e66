use Rattle.std.proofs.Common.{◌≡◌, ◌++◌, take}
use Rattle.std.specs.Prelude.{flat_map}
use Rattle.transcript_text.specs.Lines.{completed_line}
use Rattle.transcript_cli.proofs.listing.write_all_completed.Given as goal

-- the lines of the completed transitions so far are appended
abbrev pub invariant-loop-property : goal.invariant-loop-property
invariant-loop-property l = l.piece.items ≡ l.initial.piece.items ++ flat_map (λ c. completed_line l.n c.0 c.1) (take l.property-index l.completed)
