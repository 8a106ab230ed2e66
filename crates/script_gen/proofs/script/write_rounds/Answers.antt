use Rattle.std.proofs.Common.{◌-◌, ◌++◌, ◌∙◌, ap, sym, arith}
use Rattle.std.specs.String.{string_bytes}
use Rattle.script_gen.specs.Draws.{sequence_number}
use Rattle.script_gen.specs.Lines.{bytes_of_lines}
use Rattle.script_gen.proofs.DrawLemmas.{sequence_number-none, sequence_number-twice}
use Rattle.script_gen.proofs.RoundLemmas.{all_rounds, one_more_round}
use Rattle.script_gen.proofs.TextLemmas.{none_written}
use Rattle.script_gen.proofs.script.write_rounds.Goals as goal

pub loop-round-init : goal.loop-round-init
loop-round-init c = record { lines = none_written _; number = sym (sequence_number-none _) }

pub loop-round-preserved : goal.loop-round-preserved
loop-round-preserved c =
    let x = c.args.draws.now.number in
    let r = c.loop-round.round in
    let before = string_bytes c.loop-round.script in
    record {
      lines = one_more_round x r c.loop-round.draws.number (string_bytes c.args.script.now) before
          (string_bytes c.write_changes.new.script) (string_bytes c.writeln.new.self) _ c.loop-round.auto.round c.loop-round.invariant.number
          c.loop-round.invariant.lines c.in_ok-write_changes.ensures.lines c.in_ok-writeln.ensures.bytes c.in_ok-writeln-2.ensures.bytes;
      number = c.in_ok-write_changes.ensures.number ∙ ap (λ y. sequence_number y 100) c.loop-round.invariant.number
          ∙ sequence_number-twice x _ 100 ∙ ap (sequence_number x) (omega arith);
    }

pub returns : goal.returns
returns c =
    c.loop-round.invariant.lines
    ∙ ap (λ lines. string_bytes c.args.script.now ++ bytes_of_lines lines) (all_rounds c.args.draws.now.number (c.loop-round.round - 1) (omega arith))
