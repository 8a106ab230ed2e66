use Rattle.std.proofs.Common.{arith, subst}
use Rattle.style_data.specs.Entries.{AreAscending}
use Rattle.style_data.specs.TransitionSets.{AreTransitions}
use Rattle.restyle.proofs.WorldFrames.{next_holds}
use Rattle.restyle.proofs.world_frame.know_lists.Goals as goal

pub loop-entry-init : goal.loop-entry-init
loop-entry-init c = record { transitions = λ i d less. absurd (omega (arith, less)); animations = λ i d less. absurd (omega (arith, less)) }

pub loop-entry-preserved : goal.loop-entry-preserved
loop-entry-preserved c = record {
  transitions = next_holds (λ e. AreTransitions e.1.effects.transitions) c.args.list.now c.loop-entry.entry-index c.entry-item.result c.loop-entry-test.true c.entry-item.is c.running.ensures.kept c.loop-entry.invariant.transitions;
  animations = next_holds (λ e. AreAscending e.1.effects.animations) c.args.list.now c.loop-entry.entry-index c.entry-item.result c.loop-entry-test.true c.entry-item.is
      (subst AreAscending c.animations.ensures.value c.animations.ensures.ascending) c.loop-entry.invariant.animations;
}

pub returns-clause-transitions : goal.returns-clause-transitions
returns-clause-transitions c = λ i d within. c.loop-entry.invariant.transitions i d (omega (arith, within, c.loop-entry-test.false))

pub returns-clause-animations : goal.returns-clause-animations
returns-clause-animations c = λ i d within. c.loop-entry.invariant.animations i d (omega (arith, within, c.loop-entry-test.false))
