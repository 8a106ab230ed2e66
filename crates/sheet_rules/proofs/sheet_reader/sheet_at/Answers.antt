use Rattle.std.proofs.Common.{◌-◌, subst, sym, ◌∙◌}
use Rattle.sheet_types.specs.Sheets.{sheet_rules}
use Rattle.sheet_rules.specs.Rules.{item_at}
use Rattle.sheet_rules.proofs.FaultLemmas.{fault_passes}
use Rattle.sheet_rules.proofs.SheetLemmas.{first_lies, goes_on, one_too_many, rule_fault, sheet_ends}
use Rattle.sheet_rules.proofs.Within.{Lie, lie_after_spaces}
use Rattle.sheet_rules.proofs.sheet_reader.sheet_at.Goals as goal

pub returns-in_default : goal.returns-in_default
returns-in_default c =
    sym c.rules.invariant.reading
    ∙ sheet_ends c.args.text.now (4096 - c.rules.left) c.rules.left (sheet_rules c.rules.rules.items c.rules.keyframes.items) c.rules.rest.now c.after_spaces-next.result.now
    c.after_spaces-next.ensures (sym c.first_of.ensures ∙ c.in_default.is)

pub returns-then-left-eq0 : goal.returns-then-left-eq0
returns-then-left-eq0 c =
    sym c.rules.invariant.reading
    ∙ one_too_many c.args.text.now (4096 - c.rules.left) c.rules.left (sheet_rules c.rules.rules.items c.rules.keyframes.items) c.rules.rest.now c.after_spaces-next.result.now
    c.in-Some.first c.if-left-eq0.true c.after_spaces-next.ensures (sym c.first_of.ensures ∙ c.in-Some.is)

pub item_at-requires-clause-first : goal.item_at-requires-clause-first
item_at-requires-clause-first c =
    first_lies c.args.text.now c.after_spaces-next.result.now c.in-Some.first (sym c.first_of.ensures ∙ c.in-Some.is)
    (subst (Lie c.args.text.now) (sym c.after_spaces-next.ensures) (lie_after_spaces c.args.text.now c.rules.rest.now c.rules.invariant.lie))

pub item_at-requires-clause-within : goal.item_at-requires-clause-within
item_at-requires-clause-within c =
    subst (Lie c.args.text.now) (sym c.after_spaces-next.ensures) (lie_after_spaces c.args.text.now c.rules.rest.now c.rules.invariant.lie)

pub returns-in-Err : goal.returns-in-Err
returns-in-Err c =
    let sheet = sheet_rules c.rules.rules.items c.rules.keyframes.items in
    fault_passes c.in-Err.fault (item_at c.args.text.now (4096 - c.rules.left) sheet c.in-Some.first c.after_spaces-next.result.now) _
    (λ e p. sym c.rules.invariant.reading
    ∙ rule_fault c.args.text.now (4096 - c.rules.left) c.rules.left sheet c.rules.rest.now c.after_spaces-next.result.now c.in-Some.first e
    c.if-left-eq0.false c.after_spaces-next.ensures (sym c.first_of.ensures ∙ c.in-Some.is) p)
    c.in-Err.ensures.reading

pub rules-preserved : goal.rules-preserved
rules-preserved c =
    goes_on c.args.text.now (sheet_rules c.args.rules.now.items c.args.keyframes.now.items) c.args.tokens.now c.rules.left
    (sheet_rules c.rules.rules.items c.rules.keyframes.items) (sheet_rules c.item_at.new.rules.items c.item_at.new.keyframes.items)
    c.rules.rest.now c.after_spaces-next.result.now c.in-Ok.others.now c.in-Some.first c.rules.invariant c.if-left-eq0.false c.after_spaces-next.ensures
    (sym c.first_of.ensures ∙ c.in-Some.is) c.in-Ok.ensures.reading c.in-Ok.ensures.within
