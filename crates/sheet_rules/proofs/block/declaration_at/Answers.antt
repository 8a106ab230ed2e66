use Rattle.std.proofs.Common.{subst, sym}
use Rattle.std.proofs.lemmas.List.Elements.{All-drop, All-take}
use Rattle.css_token.specs.TokenLists.{IsTokenOf}
use Rattle.sheet_rules.proofs.Within.{Lie, lie_after_colon, lie_after_spaces, within}
use Rattle.sheet_rules.proofs.block.declaration_at.Goals as goal

pub judge-requires : goal.judge-requires
judge-requires c =
    let spaced = subst (Lie c.args.text.now) (sym c.after_spaces.ensures) (lie_after_spaces c.args.text.now c.args.tokens.now c.requires.within) in
    let value = lie_after_colon c.args.text.now _ c.after_spaces.result.now c.in_ok-value.value.now c.in_ok-value.ensures spaced in
    within c.args.text.now c.front.result.now (subst (Lie c.args.text.now) (sym c.front.ensures) (All-take (IsTokenOf c.args.text.now) c.in_ok-count.count c.in_ok-value.value.now value))

pub returns-clause-within : goal.returns-clause-within
returns-clause-within c =
    let spaced = subst (Lie c.args.text.now) (sym c.after_spaces.ensures) (lie_after_spaces c.args.text.now c.args.tokens.now c.requires.within) in
    let value = lie_after_colon c.args.text.now _ c.after_spaces.result.now c.in_ok-value.value.now c.in_ok-value.ensures spaced in
    subst (Lie c.args.text.now) (sym c.after.ensures) (All-drop (IsTokenOf c.args.text.now) c.in_ok-count.count c.in_ok-value.value.now value)
