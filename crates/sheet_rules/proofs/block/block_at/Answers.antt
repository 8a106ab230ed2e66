use Rattle.std.proofs.Common.{◌-◌, append-nil, length, ap, subst, sym, ◌∙◌}
use Rattle.std.specs.Prelude.{Ok}
use Rattle.sheet_rules.specs.Blocks.{declaration_at, part_at, with_front}
use Rattle.sheet_rules.proofs.BlockLemmas.{block_ends, declaration_fault, goes_on, part_fault, too_many}
use Rattle.sheet_rules.proofs.FaultLemmas.{fault_passes}
use Rattle.sheet_rules.proofs.Within.{Lie, lie_after_part, lie_after_separators}
use Rattle.sheet_rules.proofs.block.block_at.Goals as goal

pub returns-in-Err-clause-reading : goal.returns-in-Err-clause-reading
returns-in-Err-clause-reading c =
    fault_passes c.in-Err.fault (part_at c.args.block (length c.args.text.now) c.after_separators.result.now) _
    (λ e p. sym c.declarations.invariant.reading
    ∙ ap (with_front c.declarations.found.items) (part_fault c.args.block c.args.text.now (64 - c.declarations.left) c.declarations.left c.declarations.rest.now e
    (ap (part_at c.args.block (length c.args.text.now)) (sym c.after_separators.ensures) ∙ p)))
    c.in-Err.ensures

pub returns-in_default-clause-reading : goal.returns-in_default-clause-reading
returns-in_default-clause-reading c =
    let part = ap (part_at c.args.block (length c.args.text.now)) (sym c.after_separators.ensures) ∙ c.in-Ok.ensures in
    let none = rw c.in_default.is at part in
    sym c.declarations.invariant.reading
    ∙ ap (with_front c.declarations.found.items) (block_ends c.args.block c.args.text.now (64 - c.declarations.left) c.declarations.left c.declarations.rest.now _ none)
    ∙ ap (λ ds. Ok (ds, c.in-Ok.part.1.now)) (append-nil c.declarations.found.items)

pub returns-in_default-clause-within : goal.returns-in_default-clause-within
returns-in_default-clause-within c =
    (lie_after_part c.args.text.now c.args.block _ c.after_separators.result.now _ c.in-Ok.ensures
    (subst (Lie c.args.text.now) (sym c.after_separators.ensures) (lie_after_separators c.args.text.now c.declarations.rest.now c.declarations.invariant.lie))).0

pub returns-then-left-eq0-clause-reading : goal.returns-then-left-eq0-clause-reading
returns-then-left-eq0-clause-reading c =
    let part = ap (part_at c.args.block (length c.args.text.now)) (sym c.after_separators.ensures) ∙ c.in-Ok.ensures in
    let some = rw c.in-Some.is at part in
    sym c.declarations.invariant.reading
    ∙ ap (with_front c.declarations.found.items) (too_many c.args.block c.args.text.now (64 - c.declarations.left) c.declarations.left c.declarations.rest.now _ c.in-Some.name c.if-left-eq0.true some)

pub declaration_at-requires-clause-name : goal.declaration_at-requires-clause-name
declaration_at-requires-clause-name c =
    let lie = (lie_after_part c.args.text.now c.args.block _ c.after_separators.result.now _ c.in-Ok.ensures
    (subst (Lie c.args.text.now) (sym c.after_separators.ensures) (lie_after_separators c.args.text.now c.declarations.rest.now c.declarations.invariant.lie))).1 in
    rw c.in-Some.is at lie

pub declaration_at-requires-clause-within : goal.declaration_at-requires-clause-within
declaration_at-requires-clause-within c =
    (lie_after_part c.args.text.now c.args.block _ c.after_separators.result.now _ c.in-Ok.ensures
    (subst (Lie c.args.text.now) (sym c.after_separators.ensures) (lie_after_separators c.args.text.now c.declarations.rest.now c.declarations.invariant.lie))).0

pub declarations-preserved : goal.declarations-preserved
declarations-preserved c =
    let part = ap (part_at c.args.block (length c.args.text.now)) (sym c.after_separators.ensures) ∙ c.in-Ok.ensures in
    let some = rw c.in-Some.is at part in
    goes_on c.args.block c.args.text.now c.args.found.now.items c.args.tokens.now c.declarations.left c.declarations.found.items c.declaration_at.new.found.items
    c.declarations.rest.now c.in-Ok.part.1.now c.in-Ok-declaration_at.others.now c.in-Some.name c.declarations.invariant c.if-left-eq0.false some
    c.in-Ok-declaration_at.ensures.reading c.in-Ok-declaration_at.ensures.within

pub returns-in-Err-declaration_at-clause-reading : goal.returns-in-Err-declaration_at-clause-reading
returns-in-Err-declaration_at-clause-reading c =
    let part = ap (part_at c.args.block (length c.args.text.now)) (sym c.after_separators.ensures) ∙ c.in-Ok.ensures in
    let some = rw c.in-Some.is at part in
    fault_passes c.in-Err-declaration_at.fault (with_front c.declarations.found.items (declaration_at c.args.block c.args.text.now (64 - c.declarations.left) c.in-Some.name c.in-Ok.part.1.now)) _
    (λ e d. sym c.declarations.invariant.reading
    ∙ declaration_fault c.args.block c.args.text.now (64 - c.declarations.left) c.declarations.left c.declarations.found.items c.declarations.rest.now c.in-Ok.part.1.now c.in-Some.name e
    c.if-left-eq0.false some d)
    c.in-Err-declaration_at.ensures.reading
