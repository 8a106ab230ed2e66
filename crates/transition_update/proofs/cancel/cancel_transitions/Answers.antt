use Rattle.std.proofs.Common.{ap, arith, get_or, length, subst, sym}
use Rattle.std.specs.Prelude.{List}
use Rattle.style_data.specs.Kept.{IsKeptFor}
use Rattle.style_data.specs.declared.transition.Transition.{Transition}
use Rattle.value_types.specs.declared.property.PropertyId.{PropertyId}
use Rattle.transition_update.proofs.cancel.cancel_transitions.Goals as goal

pub cancelled-requires-clause-kept : goal.cancelled-requires-clause-kept
cancelled-requires-clause-kept c =
    let i = c.loop-running.running-index in
    let r = c.running-item.result in
    let items = c.running-running-items.ensures in
    let there = items.kept.running i r (omega (arith, ap length items.value, c.loop-running-test.true)) in
    subst (λ (x : PropertyId × Transition). IsKeptFor x.0 x.1) (sym c.running-item.is)
    (subst (λ (l : List (PropertyId × Transition)). IsKeptFor (get_or l i r).0 (get_or l i r).1) (sym items.value) there)
