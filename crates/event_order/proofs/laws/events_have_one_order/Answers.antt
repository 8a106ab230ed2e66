use Rattle.std.proofs.lemmas.List.Sorted.{Contains-permutation, IsPermutation-sym}
use Rattle.event_order.proofs.Ascending.{one_order}
use Rattle.event_order.proofs.laws.events_have_one_order.Goals as goal

pub returns : goal.returns
returns c = λ events xs ys p q.
    one_order xs ys p.ascending q.ascending
    (λ e has. Contains-permutation events ys e q.same (Contains-permutation xs events e (IsPermutation-sym events xs p.same) has))
    (λ e has. Contains-permutation events xs e p.same (Contains-permutation ys events e (IsPermutation-sym events ys q.same) has))
