use Rattle.restyle.proofs.ProperPlans.{TreeLaws}
use Rattle.restyle.proofs.QuietUpdates.{StillLaws}
use Rattle.restyle.proofs.QuietWorlds.{nothing_told, same_styles, world_rests, world_stays}
use Rattle.restyle.proofs.world_laws.worlds_stay_at_rest.Goals as goal

pub returns : goal.returns
returns c =
    let trees : TreeLaws = record {
      ancestors = c.ancestors_go_by_parents.ensures;
      differ = c.numbers_differ.ensures;
      parent = c.parents_stand_before.ensures;
      together = c.subtrees_stand_together.ensures;
    } in
    let laws : StillLaws = record {
      starts = c.nothing_changes.ensures.transitions;
      cancels = c.nothing_changes.ensures.gone;
      same = c.unchanged_lists_change_nothing.ensures.same;
      after = c.unchanged_lists_change_nothing.ensures.after;
      paused = c.paused_samples_stay.ensures;
    } in
    record {
      styles = λ w t n world rest. same_styles t.0 _ _ (world_stays trees laws w t world n rest);
      effects = λ w t n world rest. (world_stays trees laws w t world n rest).effects;
      events = nothing_told;
      rest = λ w t n world rest. world_rests trees laws w t world n rest;
    }
