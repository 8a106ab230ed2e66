-- Transitions over many ticks.
use Rattle.std.specs.Prelude.{ℤ, ◌≤ℤ◌, AllPairs, List, [], ◌∷◌, ◌++◌}
use Rattle.style_data.specs.declared.transition.Phase.{Phase}
use Rattle.style_data.specs.declared.transition.Transition.{Transition}
use Rattle.transition_start.specs.Phase.{phase_of}
use Rattle.ticker.specs.declared.event.Occurrence.{Occurrence}
use Rattle.ticker.specs.TransitionEvents.{transition_occurrences, transitionend, transitionrun, transitionstart}

-- times of which none is before an earlier one
abbrev pub NeverFall : List ℤ → Type 0
NeverFall ts = AllPairs (λ t u. t ≤ℤ u) ts

-- what ticks at these times tell, one after another, of a transition that was last seen in this phase
abbrev pub told_over : Transition → Phase → List ℤ → List Occurrence
told_over r seen [] = []
told_over r seen (t ∷ ts) = transition_occurrences r seen (phase_of r t) ++ told_over r (phase_of r t) ts

-- all that is ever told of one that isn't cancelled
abbrev pub whole_course : Transition → List Occurrence
whole_course r = transitionrun r ∷ transitionstart r ∷ transitionend r ∷ []
