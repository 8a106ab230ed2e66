use Rattle.std.proofs.Common.{◌∙◌, arith, map}
use Rattle.std.proofs.lemmas.List.{length-map, take_all}
use Rattle.restyle.proofs.Reordering.{next_key}
use Rattle.restyle.proofs.entries.numbers_in.Goals as goal

pub loop-entry-preserved : goal.loop-entry-preserved
loop-entry-preserved c =
    c.in-Ok.ensures.keys ∙ next_key c.args.list.now c.loop-entry.numbers.keys c.loop-entry.entry-index c.entry-item.result c.loop-entry.invariant c.loop-entry-test.true c.entry-item.is c.requires

pub returns : goal.returns
returns c = c.loop-entry.invariant ∙ take_all c.loop-entry.entry-index (map (λ x. x.0) c.args.list.now) (omega (arith, c.loop-entry-test.false, length-map c.args.list.now (λ x. x.0)))
