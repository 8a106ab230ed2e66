use Rattle.std.proofs.Common.{◌+◌, sym, ap, subst, is_ok, ◌∙◌, arith}
use Rattle.std.proofs.ResultArms.{chosen}
use Rattle.css_token.specs.TokenLists.{Reads, start}
use Rattle.css_token.proofs.Lists.{took_comment, took_token, stopped_at, all_read, reads_well}
use Rattle.css_token.proofs.Reading.{reads_tokens, reads_bad}
use Rattle.css_token.proofs.tokenizer.tokens.Goals as goal

pub loop-at-init : goal.loop-at-init
loop-at-init c = subst (λ l. Reads c.args.text.now l 0) (sym c.new-tokens.ensures.items) start

pub overflow_add-at : goal.overflow_add-at
overflow_add-at c =
    let took = took_comment _ _ _ _ _ _ c.as_bytes-bytes.ensures.value c.after.ensures.value c.loop-at.invariant c.in-Comment.ensures in
    omega (arith, took.2)

pub loop-at-smaller-in-Comment : goal.loop-at-smaller-in-Comment
loop-at-smaller-in-Comment c =
    let took = took_comment _ _ _ _ _ _ c.as_bytes-bytes.ensures.value c.after.ensures.value c.loop-at.invariant c.in-Comment.ensures in
    omega (arith, took.1)

pub loop-at-preserved-in-Comment : goal.loop-at-preserved-in-Comment
loop-at-preserved-in-Comment c = (took_comment _ _ _ _ _ _ c.as_bytes-bytes.ensures.value c.after.ensures.value c.loop-at.invariant c.in-Comment.ensures).0

pub overflow_add-at-in-Token : goal.overflow_add-at-in-Token
overflow_add-at-in-Token c =
    let took = took_token _ _ _ _ _ _ _ c.as_bytes-bytes.ensures.value c.after.ensures.value c.loop-at.invariant c.in-Token.ensures in
    omega (arith, took.2)

pub overflow_cast-to : goal.overflow_cast-to
overflow_cast-to c =
    let took = took_token _ _ _ _ _ _ _ c.as_bytes-bytes.ensures.value c.after.ensures.value c.loop-at.invariant c.in-Token.ensures in
    omega (arith, took.2)

pub loop-at-smaller : goal.loop-at-smaller
loop-at-smaller c =
    let took = took_token _ _ _ _ _ _ _ c.as_bytes-bytes.ensures.value c.after.ensures.value c.loop-at.invariant c.in-Token.ensures in
    omega (arith, took.1)

pub loop-at-preserved : goal.loop-at-preserved
loop-at-preserved c =
    let took = took_token _ _ _ _ _ _ _ c.as_bytes-bytes.ensures.value c.after.ensures.value c.loop-at.invariant c.in-Token.ensures in
    let pushed = chosen _ _ _ _ c.push.ensures.items (sym c.map_err.ensures.variant ∙ ap is_ok c.in_ok-map_err-in-Token.was) in
    subst (λ l. Reads c.args.text.now l (c.loop-at.at + c.in-Token.len)) (sym pushed) took.0

pub returns-in-Bad-clause-answer : goal.returns-in-Bad-clause-answer
returns-in-Bad-clause-answer c = stopped_at _ _ _ _ _ c.as_bytes-bytes.ensures.value c.after.ensures.value c.loop-at.invariant c.loop-at-test.true c.in-Bad.ensures

pub returns-clause-answer : goal.returns-clause-answer
returns-clause-answer c = all_read _ _ _ _ c.as_bytes-bytes.ensures.value c.loop-at.invariant c.loop-at-test.false

pub returns-clause-each : goal.returns-clause-each
returns-clause-each c = (reads_well _ _ _ c.loop-at.invariant).each

pub returns-clause-ordered : goal.returns-clause-ordered
returns-clause-ordered c = (reads_well _ _ _ c.loop-at.invariant).ordered

pub returns-in-Bad-clause-reading : goal.returns-in-Bad-clause-reading
returns-in-Bad-clause-reading c =
    (reads_bad _ _).1 (stopped_at _ _ _ _ _ c.as_bytes-bytes.ensures.value c.after.ensures.value c.loop-at.invariant c.loop-at-test.true c.in-Bad.ensures)

pub returns-clause-reading : goal.returns-clause-reading
returns-clause-reading c = (reads_tokens _ _).1 (all_read _ _ _ _ c.as_bytes-bytes.ensures.value c.loop-at.invariant c.loop-at-test.false)
