use Rattle.std.proofs.Common.{◌∙◌, ap, sym}
use Rattle.std.specs.Prelude.{Some}
use Rattle.element_step.proofs.Unchanged.{on_true, same_inherited}
use Rattle.element_step.proofs.downs.inherit_alike.Goals as goal

pub returns-in-Some-Some : goal.returns-in-Some-Some
returns-in-Some-Some c =
    on_true c.is_same_inherited.result
    (λ is. rw (c.in-Some-Some.is-0, c.in-Some-Some.is-1)
    (ap Some (same_inherited c.in-Some-Some.a.now c.in-Some-Some.b.now (sym c.is_same_inherited.ensures ∙ is))))
