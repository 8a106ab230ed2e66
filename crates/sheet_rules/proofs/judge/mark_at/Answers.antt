use Rattle.std.proofs.Common.{sym, ◌∙◌}
use Rattle.css_token.specs.declared.token.Kind.TheVariants as kind
use Rattle.sheet_rules.proofs.MarkLemmas.{marked, no_mark, other_end, word_alone}
use Rattle.sheet_rules.proofs.judge.mark_at.Goals as goal

pub returns-then-not-is_important : goal.returns-then-not-is_important
returns-then-not-is_important c =
    other_end c.args.text.now c.args.tokens.now c.in-Some.last _ c.in-Some.ensures (sym c.is_important.ensures ∙ c.if-not-is_important.true)

pub returns-in_default-last_solid : goal.returns-in_default-last_solid
returns-in_default-last_solid c =
    let none = rw c.in_default-last_solid.is at c.last_solid-2.ensures in
    word_alone c.args.text.now c.args.tokens.now c.front-before.result.now c.in-Some.last (record { kind = kind.Space; from = 0; to = 0 }) c.front-before.ensures c.in-Some.ensures none

pub returns-then-is_mark : goal.returns-then-is_mark
returns-then-is_mark c =
    marked c.args.text.now c.args.tokens.now c.front-before.result.now c.in-Some.last c.in-Some-last_solid.mark _ _ c.front-before.ensures
    c.in-Some.ensures c.in-Some-last_solid.ensures (sym c.is_important.ensures ∙ c.if-not-is_important.false) (sym c.is_mark.ensures ∙ c.if-is_mark.true)

pub returns-else-is_mark : goal.returns-else-is_mark
returns-else-is_mark c =
    no_mark c.args.text.now c.args.tokens.now c.front-before.result.now c.in-Some.last c.in-Some-last_solid.mark (record { kind = kind.Space; from = 0; to = 0 }) _ c.front-before.ensures
    c.in-Some.ensures c.in-Some-last_solid.ensures (sym c.is_mark.ensures ∙ c.if-is_mark.false)
