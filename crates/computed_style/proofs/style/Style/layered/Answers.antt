use Rattle.std.specs.Prelude.{unwrap_or}
use Rattle.computed_style.specs.Styles.{initial_values}
use Rattle.computed_style.proofs.StyleLemmas.{values_with-append}
use Rattle.computed_style.proofs.style.Style.layered.Goals as goal

pub returns : goal.returns
returns c =
    rw (c.in_ok-copy_shared.ensures, c.in_ok-lists.ensures, c.in_ok-given.ensures, c.as_slice.ensures, ← c.base.view_is)
    (rw (values_with-append (unwrap_or c.base.inside.base initial_values) c.args.given.now c.base.inside.given.items))
