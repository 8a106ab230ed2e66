use Rattle.std.proofs.Common.{◌≡◌, ◌-◌, ◌++◌, map}
use Rattle.std.specs.List.{range_with_len}
use Rattle.std.specs.String.{string_bytes}
use Rattle.script_gen.specs.Draws.{sequence_number}
use Rattle.script_gen.specs.Lines.{add_line, bytes_of_lines}
use Rattle.script_gen.proofs.script.write_adds.Given as goal

-- the lines of the elements before this one, each with its draw
abbrev pub invariant-loop-node : goal.invariant-loop-node
invariant-loop-node l = record {
  lines : string_bytes l.script ≡ string_bytes l.initial.script ++ bytes_of_lines (map (add_line l.initial.draws.number) (range_with_len 2 (l.node-counter - 2)));
  number : l.draws.number ≡ sequence_number l.initial.draws.number (l.node-counter - 2);
}
