use Rattle.std.proofs.Common.{◌≡◌, ◌+◌, [], true, false, drop, length, reverse, sym, ap, ◌∙◌, Ok, arith}
use Rattle.std.specs.Prelude.{◌==◌}
use Rattle.std.proofs.lemmas.List.{length-reverse}
use Rattle.sheet_rules.specs.Scanning.{value_len}
use Rattle.sheet_rules.proofs.ScanLemmas.{at_end, at_token, counted_more}
use Rattle.sheet_rules.proofs.scan.value_len.Goals as goal

pub returns-in-Stop : goal.returns-in-Stop
returns-in-Stop c =
    let e = at_token c.args.end c.loop-i.i (reverse c.loop-i.stack.items) (reverse c.take_step.new.stack.items) c.in-Ok.step _ c.args.tokens.now _ c.loop-i-test.true c.loop-i.invariant c.in-Ok.ensures in
    let stopped = rw c.in-Stop.is at e in
    sym stopped ∙ ap Ok (omega arith)

pub returns-in-Bad : goal.returns-in-Bad
returns-in-Bad c =
    let e = at_token c.args.end c.loop-i.i (reverse c.loop-i.stack.items) (reverse c.take_step.new.stack.items) c.in-Ok.step _ c.args.tokens.now _ c.loop-i-test.true c.loop-i.invariant c.in-Ok.ensures in
    let found = rw c.in-Bad.is at e in
    sym found

pub loop-i-preserved : goal.loop-i-preserved
loop-i-preserved c =
    let e = at_token c.args.end c.loop-i.i (reverse c.loop-i.stack.items) (reverse c.take_step.new.stack.items) c.in-Ok.step _ c.args.tokens.now _ c.loop-i-test.true c.loop-i.invariant c.in-Ok.ensures in
    let goes = rw c.in-Go.is at e in
    sym (counted_more c.loop-i.i 0 (value_len c.args.end (reverse c.take_step.new.stack.items) (drop (c.loop-i.i + 1) c.args.tokens.now))) ∙ goes

pub returns-then-is_empty : goal.returns-then-is_empty
returns-then-is_empty c =
    let e = at_end c.args.end c.loop-i.i (reverse c.loop-i.stack.items) (value_len c.args.end [] c.args.tokens.now) c.args.tokens.now c.loop-i-test.false c.loop-i.invariant in
    let none : (length (reverse c.loop-i.stack.items) == 0) ≡ true = ap (λ n. n == 0) (length-reverse c.loop-i.stack.items ∙ ap length (sym c.as_slice.ensures.value)) ∙ sym c.is_empty.ensures ∙ c.if-is_empty.true in
    let found = rw none at e in
    sym found ∙ ap Ok (omega arith)

pub returns : goal.returns
returns c =
    let e = at_end c.args.end c.loop-i.i (reverse c.loop-i.stack.items) (value_len c.args.end [] c.args.tokens.now) c.args.tokens.now c.loop-i-test.false c.loop-i.invariant in
    let some : (length (reverse c.loop-i.stack.items) == 0) ≡ false = ap (λ n. n == 0) (length-reverse c.loop-i.stack.items ∙ ap length (sym c.as_slice.ensures.value)) ∙ sym c.is_empty.ensures ∙ c.if-is_empty.false in
    let found = rw some at e in
    sym found
