use Rattle.std.proofs.Common.{◌≡◌, ◌+◌, ◌*◌, ◌++◌, ◌∙◌, ap, sym, arith}
use Rattle.std.specs.String.{string_bytes}
use Rattle.script_gen.specs.Draws.{sequence_number}
use Rattle.script_gen.specs.Lines.{change_line, changed_class, changed_element, class_word}
use Rattle.script_gen.proofs.ChangeLemmas.{change_line-written, changed_class-drawn, changed_element-drawn, next_place}
use Rattle.script_gen.proofs.DrawLemmas.{sequence_number-none}
use Rattle.script_gen.proofs.TextLemmas.{none_written, one_more_written}
use Rattle.script_gen.proofs.script.write_changes.Goals as goal

pub loop-change-init : goal.loop-change-init
loop-change-init c = record { lines = none_written _; number = sym (sequence_number-none _) }

pub loop-change-preserved : goal.loop-change-preserved
loop-change-preserved c =
    let x = c.args.draws.now.number in
    let i = c.loop-change._change in
    let before = string_bytes c.loop-change.script in
    let first : c.draw.new.self.number ≡ sequence_number x (2 * i + 1) =
    c.draw.ensures.number ∙ next_place x (2 * i) (2 * i + 1) _ (omega arith) c.loop-change.invariant.number in
    let second : c.draw-in-loop-change.new.self.number ≡ sequence_number x (2 * i + 2) =
    c.draw-in-loop-change.ensures.number ∙ next_place x (2 * i + 1) (2 * i + 2) _ (omega arith) first in
    let element : 2 + c.draw.result ≡ changed_element x i =
    ap (λ k. 2 + k) c.draw.ensures.choice ∙ sym (changed_element-drawn x i _ first) in
    let word : c.class_word-word.result.now ≡ changed_class x i =
    c.class_word-word.ensures ∙ ap class_word c.draw-in-loop-change.ensures.choice ∙ sym (changed_class-drawn x i _ second) in
    record {
      lines = one_more_written (change_line x) 0 i i (i + 1) _ before _ (omega arith) (omega arith) c.loop-change.invariant.lines
          (c.in_ok-writeln.ensures.bytes ∙ ap (λ t. before ++ t) (change_line-written x i (2 + c.draw.result) c.class_word-word.result.now element word));
      number = second ∙ ap (sequence_number x) (omega arith);
    }
