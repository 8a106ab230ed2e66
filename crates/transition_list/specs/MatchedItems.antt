-- Matching items (CSS Transitions 1, sections 2 and 3).
use Rattle.timing_types.specs.Timing.{IsDelay, IsDuration, IsEasing}
use Rattle.transition_list.specs.declared.matched.MatchedItem.{MatchedItem}

-- a matching item as the lists hold it
pub record IsMatchedItem (m : MatchedItem) : Type 0 where
  pub duration : IsDuration m.duration
  pub delay : IsDelay m.delay
  pub easing : IsEasing m.easing
