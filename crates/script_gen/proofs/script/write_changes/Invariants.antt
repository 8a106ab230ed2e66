use Rattle.std.proofs.Common.{◌≡◌, ◌*◌, ◌++◌, map}
use Rattle.std.specs.List.{range_with_len}
use Rattle.std.specs.String.{string_bytes}
use Rattle.script_gen.specs.Draws.{sequence_number}
use Rattle.script_gen.specs.Lines.{change_line, bytes_of_lines}
use Rattle.script_gen.proofs.script.write_changes.Given as goal

-- the lines of the changes before this one, each with its two draws
abbrev pub invariant-loop-change : goal.invariant-loop-change
invariant-loop-change l = record {
  lines : string_bytes l.script ≡ string_bytes l.initial.script ++ bytes_of_lines (map (change_line l.initial.draws.number) (range_with_len 0 l._change));
  number : l.draws.number ≡ sequence_number l.initial.draws.number (2 * l._change);
}
