use Rattle.std.proofs.Common.{◌≡◌, ◌≤◌, ◌+◌, ◌-◌, ◌++◌, ◌∙◌, ap, sym, arith}
use Rattle.std.specs.String.{string_bytes}
use Rattle.script_gen.specs.Draws.{choice, sequence_number}
use Rattle.script_gen.specs.Lines.{add_line, drawn_parent, bytes_of_lines}
use Rattle.script_gen.proofs.AddLemmas.{all_adds, add_line-written, add_number, drawn_parent-drawn}
use Rattle.script_gen.proofs.DrawLemmas.{sequence_number-none}
use Rattle.script_gen.proofs.TextLemmas.{none_written, one_more_written}
use Rattle.script_gen.proofs.script.write_adds.Goals as goal

pub loop-node-init : goal.loop-node-init
loop-node-init c = record { lines = none_written _; number = sym (sequence_number-none _) }

pub loop-node-preserved : goal.loop-node-preserved
loop-node-preserved c =
    let x = c.args.draws.now.number in
    let n = c.loop-node.node-counter in
    let before = string_bytes c.loop-node.script in
    let from : 2 ≤ n = c.loop-node.auto.node-counter in
    let number : c.draw.new.self.number ≡ sequence_number x (n - 1) =
    c.draw.ensures.number ∙ add_number x n c.loop-node.draws.number from c.loop-node.invariant.number in
    let parent : 1 + c.draw.result ≡ drawn_parent x n =
    ap (λ k. 1 + k) (c.draw.ensures.choice ∙ ap (choice c.draw.new.self.number) c.min.ensures) ∙ sym (drawn_parent-drawn x n _ number) in
    record {
      lines = one_more_written (add_line x) 2 (n - 2) n (n + 1 - 2) _ before _ (omega arith) (omega arith) c.loop-node.invariant.lines
          (c.in_ok-writeln.ensures.bytes ∙ ap (λ t. before ++ t) (add_line-written x n (1 + c.draw.result) parent));
      number = number ∙ ap (sequence_number x) (omega arith);
    }

pub returns-clause-lines : goal.returns-clause-lines
returns-clause-lines c =
    c.loop-node.invariant.lines
    ∙ ap (λ lines. string_bytes c.args.script.now ++ bytes_of_lines lines) (all_adds c.args.draws.now.number (c.loop-node.node-counter - 2) (omega arith))
