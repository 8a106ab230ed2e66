use Rattle.std.proofs.Common.{◌∙◌, ap, subst, sym}
use Rattle.style_data.specs.Entries.{AreAscending}
use Rattle.animation_names.specs.NameLists.{names_update}
use Rattle.animation_names.specs.Updates.{gone_after, gone_among}
use Rattle.animation_names.proofs.Keeping.{animations-ascend, updated-lists}
use Rattle.animation_names.proofs.updating.match_names.Goals as goal

pub returns-clause-gone : goal.returns-clause-gone
unfolding gone_after
returns-clause-gone c = c.in_ok-gone.ensures ∙ ap (gone_among c.args.t c.args.old.now) (c.as_slice.ensures.value ∙ c.in_ok-animations.ensures)

pub returns-clause-pairing : goal.returns-clause-pairing
unfolding gone_after
returns-clause-pairing c =
    let u = names_update c.args.old.now c.args.lists.now c.args.sheets.now c.args.t c.args.generation c.args.position in
    (updated-lists u c.in_ok-animations.animations.items c.in_ok-gone.gone.items).1
    (c.in_ok-animations.ensures, c.in_ok-gone.ensures ∙ ap (gone_among c.args.t c.args.old.now) (c.as_slice.ensures.value ∙ c.in_ok-animations.ensures))

pub returns-clause-ascending : goal.returns-clause-ascending
returns-clause-ascending c =
    let u = names_update c.args.old.now c.args.lists.now c.args.sheets.now c.args.t c.args.generation c.args.position in
    subst AreAscending (sym c.in_ok-animations.ensures) (animations-ascend u)
