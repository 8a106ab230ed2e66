use Rattle.std.proofs.Common.{◌≡◌, ap, inl, inr, map}
use Rattle.std.specs.Prelude.{◌⊎◌, ℕ, Bool, List, [], ◌∷◌, length, if◌then◌else◌}
use Rattle.style_data.specs.declared.event.Event.{Event}
use Rattle.style_data.specs.declared.event.EventKind.TheVariants.{Cancel}
use Rattle.style_data.specs.declared.gone.Gone.{Gone}
use Rattle.style_data.specs.declared.transition.Phase.{Phase}
use Rattle.style_data.specs.declared.transition.Phase.TheVariants.{Before, Active}
use Rattle.ticker.proofs.laws.seen_cancels_are_told.Goals as goal
use Rattle.ticker.specs.Events.{cancelled_standing, is_cancel_told, occurrence, told_event}

told_if : ℕ → Gone → Bool → List Event
told_if element g b = map (told_event element g.subject (cancelled_standing g.subject g)) (if b then occurrence Cancel g.elapsed.0 g.cancelled.0 ∷ [] else [])

pub returns-clause-unseen : goal.returns-clause-unseen
unfolding told_if
returns-clause-unseen c = λ element g is. ap (λ (x : Phase). told_if element g (is_cancel_told x)) is

pub returns-clause-ended : goal.returns-clause-ended
unfolding told_if
returns-clause-ended c = λ element g is. ap (λ (x : Phase). told_if element g (is_cancel_told x)) is

once : (element : ℕ) (g : Gone) → (g.seen ≡ Before) ⊎ (g.seen ≡ Active) → length (told_if element g (is_cancel_told g.seen)) ≡ 1
unfolding told_if
once element g (inl is) = ap (λ (x : Phase). length (told_if element g (is_cancel_told x))) is
once element g (inr is) = ap (λ (x : Phase). length (told_if element g (is_cancel_told x))) is

pub returns-clause-once : goal.returns-clause-once
unfolding told_if
returns-clause-once c = once
