use Rattle.std.proofs.Common.{◌∙◌, ap, arith}
use Rattle.std.proofs.lemmas.List.{drop_all}
use Rattle.pass_core.proofs.ListsByElement.{not_at}
use Rattle.pass_core.specs.Passes.{value_for}
use Rattle.pass_core.proofs.entries.index_from.Goals as goal

pub loop-i-preserved : goal.loop-i-preserved
loop-i-preserved g c =
    c.loop-i.invariant ∙ not_at c.args.entries.now c.loop-i.i c.args.element c.index-entries-i.result (omega arith) c.if-entries-i.false

pub returns-clause-none : goal.returns-clause-none
returns-clause-none g c = λ _. c.loop-i.invariant ∙ ap (λ l. value_for l c.args.element) (drop_all c.loop-i.i c.args.entries.now (omega arith))
