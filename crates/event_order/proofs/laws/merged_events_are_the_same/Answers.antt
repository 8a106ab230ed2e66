use Rattle.std.proofs.lemmas.List.Sorted.{Contains-permutation, IsPermutation-sym}
use Rattle.event_order.proofs.laws.merged_events_are_the_same.Goals as goal

pub returns : goal.returns
returns c = λ events sorted e p.
    (λ has. Contains-permutation sorted events e (IsPermutation-sym events sorted p.same) has, λ has. Contains-permutation events sorted e p.same has)
