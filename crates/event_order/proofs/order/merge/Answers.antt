use Rattle.std.specs.Prelude.{◌≢◌, AllPairs, List, false}
use Rattle.std.specs.List.{IsDistinct}
use Rattle.std.proofs.Common.{◌≡◌, ◌∙◌, ap, get_or, refl, rules}
use Rattle.std.specs.Ordering.{eq_by_cmp, is_eq, is_lt, ordering_reverse}
use Rattle.std.specs.declared.cmp.Ordering.{Ordering}
use Rattle.std.specs.declared.cmp.Ordering.TheVariants.{Less, Equal, Greater}
use Rattle.std.proofs.lemmas.List.Sorted.{answers_always, ranks_by}
use Rattle.std.proofs.lemmas.Map.Keys.{IsDistinct-IsPermutation, IsDistinct-from_apart}
use Rattle.style_data.specs.Events.{key_order}
use Rattle.style_data.specs.declared.event.Event.{Event}
use Rattle.event_order.proofs.Ascending.{ascends}
use Rattle.event_order.proofs.KeyLemmas.{keys_exact, keys_total}
use Rattle.event_order.proofs.order.merge.Goals as goal

reversed_ties : (o : Ordering) → is_eq (ordering_reverse o) ≡ is_eq o
reversed_ties Less = refl
reversed_ties Equal = refl
reversed_ties Greater = refl

ties_flip : (a b : Event) → eq_by_cmp key_order a.key b.key ≡ eq_by_cmp key_order b.key a.key
ties_flip a b = ap is_eq (keys_total.antisymm a.key b.key) ∙ reversed_ties (key_order b.key a.key)

-- other keys don't tie
apart_from : (a b : Event) → a.key ≢ b.key → eq_by_cmp key_order a.key b.key ≡ false
apart_from a b differ = go (key_order a.key b.key) refl where
  go : (o : Ordering) → key_order a.key b.key ≡ o → is_eq o ≡ false
  go Less is = refl
  go Equal is = absurd (differ (keys_exact a.key b.key is))
  go Greater is = refl

-- other keys are distinct
distinct_from : (xs : List Event) → AllPairs (λ a b. a.key ≢ b.key) xs → IsDistinct (λ a b. eq_by_cmp key_order a.key b.key) xs
distinct_from xs apart =
    IsDistinct-from_apart (λ a b. eq_by_cmp key_order a.key b.key) xs (λ i j d less short. apart_from (get_or xs i d) (get_or xs j d) (apart i j d less short))

pub returns : goal.returns
returns c =
    let moved = rw c.in_ok-events.ensures at c.sort_by.ensures.permutation in
    record {
      same = moved;
      ascending =
          ascends c.sort_by.new.self.items
          (c.in_ok-sort_by.ensures.sorted (λ a b. is_lt (key_order a.key b.key)) (ranks_by keys_total (λ e. e.key)) (answers_always _ _ _ (λ f a r q k. search rules)))
          (IsDistinct-IsPermutation (λ a b. eq_by_cmp key_order a.key b.key) ties_flip _ _ moved
          (distinct_from _ c.requires));
    }
