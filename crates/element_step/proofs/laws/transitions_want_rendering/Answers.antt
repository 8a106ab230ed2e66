use Rattle.std.proofs.Common.{◌≡◌, ◌∙◌, ap, refl, true, false}
use Rattle.std.specs.Prelude.{Bool}
use Rattle.style_data.specs.TransitionSets.{no_transitions}
use Rattle.element_step.proofs.Rendered.{transitions_rendered, transitions_unrendered}
use Rattle.element_step.proofs.laws.transitions_want_rendering.Goals as goal
use Rattle.element_step.specs.Updates.{ElementUpdate, change_in, rendered_after, transitions_from, transitions_of}

either_way : (x : ElementUpdate) (b : Bool) → rendered_after x ≡ b → x.entry.rendered ≡ false → transitions_of x ≡ no_transitions
either_way x true is was = transitions_rendered x is ∙ ap (λ b. transitions_from b (change_in x) x.entry.effects.transitions) was
either_way x false is was = transitions_unrendered x is

pub returns-clause-now : goal.returns-clause-now
returns-clause-now c = transitions_unrendered

pub returns-clause-before : goal.returns-clause-before
returns-clause-before c = λ x was. either_way x (rendered_after x) refl was
