use Rattle.std.proofs.Common.{◌∙◌, sym}
use Rattle.std.specs.Cmp.Derive.Mapped.{pointwise-map}
use Rattle.std.specs.Cmp.Lexicographic.{pointwise}
use Rattle.std.specs.Str.{bytes_eq}
use Rattle.std.specs.String.{string_bytes}
use Rattle.cascade_sort.proofs.alike.have_same_classes.Goals as goal

pub returns : goal.returns
returns c =
    c.eq.ensures
    ∙ sym (pointwise-map string_bytes bytes_eq c.classes.result.now c.classes-2.result.now)
    ∙ (λ i. pointwise bytes_eq (c.classes.ensures i) (c.classes-2.ensures i))
