use Rattle.std.proofs.Common.{◌≡◌, map, drop}
use Rattle.token_parts.specs.Parts.{token_part}
use Rattle.shorthand_text.specs.Outcomes.{all_given}
use Rattle.shorthand_text.specs.Sides.{side_in}
use Rattle.shorthand_text.proofs.OutcomeLemmas.{ahead}
use Rattle.shorthand_text.proofs.sides.values_in.Given as goal

abbrev pub invariant-loop-part : goal.invariant-loop-part
invariant-loop-part l =
    ahead l.values.items l.fault (all_given (map (side_in l.p) (map token_part (drop l.part-index l.parts))))
    ≡ all_given (map (side_in l.p) (map token_part l.parts))
