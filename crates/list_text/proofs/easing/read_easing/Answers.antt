use Rattle.std.proofs.Common.{◌≡◌, None, Some, sym, ◌∙◌}
use Rattle.token_parts.specs.Parts.{token_parts_of}
use Rattle.list_text.specs.Numbers.{clamped_nearest}
use Rattle.list_text.specs.Reading.{easing_of}
use Rattle.list_text.proofs.EasingLemmas.{easing_far, easing_none, easing_ok}
use Rattle.list_text.proofs.easing.read_easing.Goals as goal

pub returns-in_default-easing_of-clause-answer : goal.returns-in_default-easing_of-clause-answer
returns-in_default-easing_of-clause-answer c =
    let h : easing_of clamped_nearest (token_parts_of c.args.text.now c.args.tokens.now) ≡ None = cc (c.in-Ok.ensures) in
    easing_none _ h

pub returns-then-is_within-clause-answer : goal.returns-then-is_within-clause-answer
returns-then-is_within-clause-answer c =
    let h : easing_of clamped_nearest (token_parts_of c.args.text.now c.args.tokens.now) ≡ Some c.in-Some.easing = cc (c.in-Ok.ensures, c.in-Some.ensures) in
    easing_ok _ _ h (sym c.is_within.ensures ∙ c.if-is_within.true)

pub returns-clause-answer : goal.returns-clause-answer
returns-clause-answer c =
    let h : easing_of clamped_nearest (token_parts_of c.args.text.now c.args.tokens.now) ≡ Some c.in-Some.easing = cc (c.in-Ok.ensures, c.in-Some.ensures) in
    easing_far _ _ h (sym c.is_within.ensures ∙ c.if-is_within.false)
