use Rattle.std.proofs.Common.{arith, sym, ◌∙◌, ◌≡◌, ◌+◌, min, ◌^◌, drop}
use Rattle.fix_num.specs.Decimal.{units_of}
use Rattle.fix_num.specs.Parts.{decimal_parts}
use Rattle.fix_num.specs.Rounded.{passes_half}
use Rattle.fix_num.proofs.RestLemmas.{capped_reading, counted}
use Rattle.fix_num.proofs.rounded.rounded_number.Goals as goal
use Rattle.fix_num.proofs.rounded.rounded_number.Goals.{then-rest_counts, else-rest_counts}

pub returns : goal.returns
returns c =
    let p = c.args.parts.now in
    let size : c.if-rest_counts.size ≡ min (units_of c.args.places (decimal_parts p)) (2 ^ 63) + counted (passes_half p.negative (drop c.args.places p.fraction.now)) = elim c.if-rest_counts.branch [
      | then-rest_counts w ↦ rw (sym c.rest_counts.ensures ∙ w.if-rest_counts.true) (omega arith)
      | else-rest_counts w ↦ rw (sym c.rest_counts.ensures ∙ w.if-rest_counts.false) (omega arith)
    ] in
    c.number_within.ensures ∙ capped_reading c.args.places c.args.limit c.if-rest_counts.size (2 ^ 63) (decimal_parts p) p.fraction_digits c.requires.limit size
