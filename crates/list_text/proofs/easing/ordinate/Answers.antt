use Rattle.std.proofs.Common.{ap, Some, ◌∙◌}
use Rattle.list_text.proofs.NumberLemmas.{small_casts}
use Rattle.list_text.proofs.ViewLemmas.{clamped_size}
use Rattle.list_text.proofs.easing.ordinate.Goals as goal

pub overflow_cast-result : goal.overflow_cast-result
overflow_cast-result c = (small_casts c.in_ok-clamped.field-0 (clamped_size 3 10000 c.args.number.now _ c.in_ok-clamped.ensures)).0

pub returns : goal.returns
returns c = ap Some (small_casts c.in_ok-clamped.field-0 (clamped_size 3 10000 c.args.number.now _ c.in_ok-clamped.ensures)).1 ∙ c.in_ok-clamped.ensures
