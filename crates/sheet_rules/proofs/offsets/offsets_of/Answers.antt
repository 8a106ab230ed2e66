use Rattle.std.proofs.Common.{◌+◌, ◌<◌, [], ◌∷◌, Some, map, drop, length, ap, subst, sym, ◌∙◌, arith}
use Rattle.std.specs.Prelude.{All}
use Rattle.std.proofs.lemmas.List.Elements.{All-append, All-cons, All-nil}
use Rattle.token_parts.specs.Parts.{token_part}
use Rattle.sheet_rules.specs.Frames.{IsOffset, offsets_of}
use Rattle.sheet_rules.proofs.OffsetLemmas.{at_the_end, joined, last_offset_at, next_offset_at, no_comma_at, no_offset_at}
use Rattle.sheet_rules.proofs.offsets.offsets_of.Goals as goal

pub returns-in_default-clause-value : goal.returns-in_default-clause-value
returns-in_default-clause-value c =
    sym (no_offset_at c.loop-at.found.items c.args.parts.now c.loop-at.at _ _ c.loop-at-test.true c.offset_of.ensures.value c.in_default.is) ∙ c.loop-at.invariant.0

pub returns-then-at-parts-clause-value : goal.returns-then-at-parts-clause-value
returns-then-at-parts-clause-value c =
    ap Some c.in_ok-push.ensures.items
    ∙ sym (last_offset_at c.loop-at.found.items c.args.parts.now c.loop-at.at _ _ c.in-Some.offset c.loop-at-test.true c.if-at-parts.true c.offset_of.ensures.value c.in-Some.is)
    ∙ c.loop-at.invariant.0

pub returns-then-not-is_comma-clause-value : goal.returns-then-not-is_comma-clause-value
returns-then-not-is_comma-clause-value c =
    let more : c.loop-at.at + 1 < length c.args.parts.now = omega (arith, c.loop-at-test.true, c.if-at-parts.false) in
    sym (no_comma_at c.loop-at.found.items c.args.parts.now c.loop-at.at _ _ _ _ c.loop-at-test.true more c.offset_of.ensures.value c.is_comma.ensures c.if-not-is_comma.true) ∙ c.loop-at.invariant.0

pub loop-at-preserved : goal.loop-at-preserved
loop-at-preserved c =
    let more : c.loop-at.at + 1 < length c.args.parts.now = omega (arith, c.loop-at-test.true, c.if-at-parts.false) in
    let step = next_offset_at c.loop-at.found.items c.args.parts.now c.loop-at.at _ _ _ c.in-Some.offset _ c.loop-at-test.true more c.offset_of.ensures.value c.in-Some.is c.is_comma.ensures c.if-not-is_comma.false in
    let rest = offsets_of (map token_part (drop (c.loop-at.at + 2) c.args.parts.now)) in (
      ap (λ v. joined v rest) c.in_ok-push.ensures.items ∙ step ∙ c.loop-at.invariant.0,
      subst (All IsOffset) (sym c.in_ok-push.ensures.items) (All-append IsOffset c.loop-at.found.items (c.in-Some.offset ∷ []) c.loop-at.invariant.1 (All-cons IsOffset c.in-Some.offset [] c.in-Some.ensures.range (All-nil IsOffset))),
    )

pub returns-clause-value : goal.returns-clause-value
returns-clause-value c = sym (at_the_end c.loop-at.found.items c.args.parts.now c.loop-at.at c.loop-at-test.false) ∙ c.loop-at.invariant.0
