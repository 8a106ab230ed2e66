use Rattle.std.proofs.Common.{◌≡◌, map, drop}
use Rattle.shorthand_text.specs.Outcomes.{all_given}
use Rattle.shorthand_text.specs.Sides.{property_by}
use Rattle.shorthand_text.proofs.OutcomeLemmas.{in_front}
use Rattle.shorthand_text.proofs.shorthand.properties_by.Given as goal

abbrev pub invariant-loop-p : goal.invariant-loop-p
invariant-loop-p l =
    in_front l.list.items (all_given (map (property_by l.keyword) (drop l.p-index l.properties))) ≡ all_given (map (property_by l.keyword) l.properties)
