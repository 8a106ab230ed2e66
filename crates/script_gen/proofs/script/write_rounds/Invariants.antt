use Rattle.std.proofs.Common.{◌≡◌, ◌-◌, ◌*◌, ◌++◌}
use Rattle.std.specs.Prelude.{flat_map}
use Rattle.std.specs.List.{range_with_len}
use Rattle.std.specs.String.{string_bytes}
use Rattle.script_gen.specs.Draws.{sequence_number}
use Rattle.script_gen.specs.Lines.{round_lines, bytes_of_lines}
use Rattle.script_gen.proofs.script.write_rounds.Given as goal

-- the lines of the rounds before this one, each with its hundred draws
abbrev pub invariant-loop-round : goal.invariant-loop-round
invariant-loop-round l = record {
  lines : string_bytes l.script ≡ string_bytes l.initial.script ++ bytes_of_lines (flat_map (round_lines l.initial.draws.number) (range_with_len 1 (l.round - 1)));
  number : l.draws.number ≡ sequence_number l.initial.draws.number (2 * (50 * (l.round - 1)));
}
