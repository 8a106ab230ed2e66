use Rattle.std.proofs.Common.{sym, ◌∙◌, ap}
use Rattle.computed_style.specs.ByProperty.{kept_for}
use Rattle.computed_style.proofs.StyleLemmas.{initial_unless_given}
use Rattle.computed_style.proofs.style.Style.is_initial_at.Goals as goal

pub returns-in-None : goal.returns-in-None
returns-in-None c =
    rw (← c.self.view_is)
    (initial_unless_given c.self.inside.base c.self.inside.given.items c.args.p (sym c.if-is_some.ensures)
    (ap (kept_for c.args.p) (sym c.as_slice.ensures) ∙ sym c.given_for.ensures ∙ c.in-None.is))
