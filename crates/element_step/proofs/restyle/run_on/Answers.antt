use Rattle.std.proofs.Common.{refl, subst}
use Rattle.style_data.specs.Entries.{EffectLists}
use Rattle.transition_update.proofs.BuiltAgain.{none_stay}
use Rattle.element_step.proofs.restyle.run_on.Goals as goal
use Rattle.element_step.specs.Restyling.{RunOn}

pub returns-in-None : goal.returns-in-None
returns-in-None c =
    subst (λ (e : EffectLists). RunOn c.args.after.now e.transitions) c.in-None.ensures
    (record { inherited = refl; stay = none_stay c.args.after.now })
