-- The order in which the events of a frame are sent (Web Animations 1, "update animations and send events").
use Rattle.std.specs.Prelude.{◌≡◌, List, AllPairs}
use Rattle.std.specs.List.Sorted.{IsPermutation}
use Rattle.std.specs.declared.cmp.Ordering.TheVariants.{Less}
use Rattle.style_data.specs.Events.{key_order}
use Rattle.style_data.specs.declared.event.Event.{Event}

-- the same events, by strictly ascending keys
pub record IsInOrderOf (sorted events : List Event) : Type 0 where
  pub same : IsPermutation events sorted
  pub ascending : AllPairs (λ a b. key_order a.key b.key ≡ Less) sorted
