use Rattle.std.proofs.lemmas.List.Sorted.{Contains-permutation, IsPermutation-sym}
use Rattle.cascade_sort.proofs.WinnerLaws.{winner_in_any_order, winners_in_any_order}
use Rattle.cascade_sort.proofs.laws.declarations_in_any_order.Goals as goal

pub returns-clause-winner : goal.returns-clause-winner
returns-clause-winner c = winner_in_any_order

pub returns-clause-permuted : goal.returns-clause-permuted
returns-clause-permuted c = λ xs ys apart permuted.
    winners_in_any_order xs ys apart (λ a. (Contains-permutation xs ys a permuted, Contains-permutation ys xs a (IsPermutation-sym xs ys permuted)))
