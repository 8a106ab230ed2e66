use Rattle.restyle.proofs.ProperPlans.{TreeLaws}
use Rattle.restyle.proofs.QuietFrames.{next_rests, next_stays}
use Rattle.restyle.proofs.QuietUpdates.{StillLaws}
use Rattle.restyle.proofs.laws.nothing_changes.Goals as goal

pub returns : goal.returns
returns c =
    let trees : TreeLaws = record {
      ancestors = c.ancestors_go_by_parents.ensures;
      differ = c.numbers_differ.ensures;
      parent = c.parents_stand_before.ensures;
      together = c.subtrees_stand_together.ensures;
    } in
    let laws : StillLaws = record {
      starts = c.nothing_changes.ensures.transitions;
      cancels = c.nothing_changes.ensures.gone;
      same = c.unchanged_lists_change_nothing.ensures.same;
      after = c.unchanged_lists_change_nothing.ensures.after;
      paused = c.paused_samples_stay.ensures;
    } in
    record {
      styles = λ f t n tree order rest. (next_stays trees laws f t tree order n rest).styles;
      effects = λ f t n tree order rest. (next_stays trees laws f t tree order n rest).effects;
      rest = λ f t n tree order. next_rests trees laws f t tree order n;
    }
