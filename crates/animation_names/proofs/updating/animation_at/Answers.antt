use Rattle.std.proofs.Common.{◌∙◌, ap, None, Some}
use Rattle.animation_names.specs.NameLists.{names_update}
use Rattle.animation_names.specs.Updates.{kept_at}
use Rattle.animation_names.proofs.Keeping.{item-animation}
use Rattle.animation_names.proofs.updating.animation_at.Goals as goal

pub returns-in_ok-continued_animation-in-Some-kept_at : goal.returns-in_ok-continued_animation-in-Some-kept_at
returns-in_ok-continued_animation-in-Some-kept_at c =
    let u = names_update c.args.old.now c.args.lists.now c.args.sheets.now c.args.t c.args.generation c.args.position in
    item-animation u c.args.i c.args.item.now c.in-Some.name.now (Some c.in-Some-kept_at.a.now) c.in_ok-continued_animation-in-Some-kept_at.field-0 c.in-Some.ensures
    (c.in-Some-kept_at.ensures ∙ ap (λ ns. kept_at c.args.old.now ns c.args.i c.as_bytes.result.now) c.names.ensures.value
    ∙ ap (kept_at c.args.old.now c.args.lists.now.names c.args.i) c.as_bytes.ensures.value)
    c.in_ok-continued_animation-in-Some-kept_at.ensures

pub returns-in_ok-animation-in-None : goal.returns-in_ok-animation-in-None
returns-in_ok-animation-in-None c =
    let u = names_update c.args.old.now c.args.lists.now c.args.sheets.now c.args.t c.args.generation c.args.position in
    item-animation u c.args.i c.args.item.now c.in-Some.name.now None c.in_ok-animation-in-None.animation c.in-Some.ensures
    (c.in-None.ensures ∙ ap (λ ns. kept_at c.args.old.now ns c.args.i c.as_bytes.result.now) c.names.ensures.value
    ∙ ap (kept_at c.args.old.now c.args.lists.now.names c.args.i) c.as_bytes.ensures.value)
    c.in_ok-animation-in-None.ensures
