use Rattle.std.specs.Prelude.{◌≡◌, []}
use Rattle.computed_style.proofs.DeclarationLemmas.{OnTrue-then, none_declared}
use Rattle.computed_style.proofs.declared_set.Winning.is_empty.Goals as goal

pub returns : goal.returns
returns c =
    OnTrue-then c.has_none-4.result
    (λ (none : c.self.inside.normal_lists.items ≡ []). rw (← c.self.view_is, c.if-not-has_none.ensures, c.if-not-has_none-2.ensures, c.if-not-has_none-3.ensures, none) none_declared)
    c.has_none-4.ensures
