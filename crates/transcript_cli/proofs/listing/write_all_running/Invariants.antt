use Rattle.std.proofs.Common.{◌≡◌, ◌++◌, take}
use Rattle.std.specs.Prelude.{flat_map}
use Rattle.transcript_text.specs.Lines.{running_line}
use Rattle.transcript_cli.proofs.listing.write_all_running.Given as goal

-- the lines of the running transitions so far are appended
abbrev pub invariant-loop-property : goal.invariant-loop-property
invariant-loop-property l = l.piece.items ≡ l.initial.piece.items ++ flat_map (λ r. running_line l.n r.0 r.1) (take l.property-index l.running)
