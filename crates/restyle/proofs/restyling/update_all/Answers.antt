use Rattle.std.proofs.Common.{◌≡◌, ◌∙◌, ap, sym, subst, true}
use Rattle.std.specs.Prelude.{IfOk, Result, Ok, Err}
use Rattle.doc_tree.specs.Shape.{IsTree}
use Rattle.element_step.specs.Quiet.{quiet_meaning}
use Rattle.pass_core.specs.Passes.{IsPassOutcome, have_entries}
use Rattle.restyle.specs.TreePlans.{places_of}
use Rattle.restyle.proofs.ElementsAtRest.{quiet_leaves}
use Rattle.restyle.proofs.Outcomes.{entries_distinct, entries_had}
use Rattle.restyle.proofs.ProperPlans.{TreeLaws}
use Rattle.restyle.proofs.QuietPasses.{whole_quiet}
use Rattle.restyle.proofs.QuietUpdates.{StillLaws}
use Rattle.restyle.proofs.restyling.update_all.Goals as goal

if_ok : {T E : Type 0} {P Q : T → Type 0} (r : Result T E) → ((t : T) → P t → Q t) → IfOk r P → IfOk r Q
if_ok (Ok t) step is = step t is
if_ok (Err e) step is = is

pub closing_entries-requires-clause-distinct : goal.closing_entries-requires-clause-distinct
closing_entries-requires-clause-distinct g c =
    let laws : TreeLaws = record {
      ancestors = c.ancestors_go_by_parents.ensures;
      differ = c.numbers_differ.ensures;
      parent = c.parents_stand_before.ensures;
      together = c.subtrees_stand_together.ensures;
    } in
    entries_distinct c.args.work.now.work (subst (λ d. IsTree d) c.tree.ensures c.in_ok-plan.ensures.tree) laws c.args.entries.items c.requires.numbers

pub closing_entries-requires-clause-entries : goal.closing_entries-requires-clause-entries
closing_entries-requires-clause-entries g c =
    let laws : TreeLaws = record {
      ancestors = c.ancestors_go_by_parents.ensures;
      differ = c.numbers_differ.ensures;
      parent = c.parents_stand_before.ensures;
      together = c.subtrees_stand_together.ensures;
    } in
    subst (λ ps. have_entries ps c.args.entries.items ≡ true) (sym (c.in_ok-plan.ensures.value ∙ ap places_of c.tree.ensures))
    (entries_had c.args.work.now.work (subst (λ d. IsTree d) c.tree.ensures c.in_ok-plan.ensures.tree) laws c.args.entries.items c.requires.numbers)

pub returns-clause-value : goal.returns-clause-value
returns-clause-value g c =
    let w = c.args.work.now.work in
    let entries = c.args.entries.items in
    let tree = subst (λ d. IsTree d) c.tree.ensures c.in_ok-plan.ensures.tree in
    let trees : TreeLaws = record {
      ancestors = c.ancestors_go_by_parents.ensures;
      differ = c.numbers_differ.ensures;
      parent = c.parents_stand_before.ensures;
      together = c.subtrees_stand_together.ensures;
    } in
    let laws : StillLaws = record {
      starts = c.nothing_changes.ensures.transitions;
      cancels = c.nothing_changes.ensures.gone;
      same = c.unchanged_lists_change_nothing.ensures.same;
      after = c.unchanged_lists_change_nothing.ensures.after;
      paused = c.paused_samples_stay.ensures;
    } in
    let touched = c.args.work.now.touched.keys in
    if_ok c.closing_entries.result (λ closing outcome.
    whole_quiet w tree trees entries c.args.work.now.quiet touched (λ quiet. quiet_leaves trees laws touched w tree entries (c.requires.quiet quiet)) closing.items c.requires.numbers
    (entries_distinct w tree trees entries c.requires.numbers)
    (subst (λ ps. IsPassOutcome (quiet_meaning c.args.work.now.quiet touched w) ps entries closing.items) (c.in_ok-plan.ensures.value ∙ ap places_of c.tree.ensures) outcome))
    c.closing_entries.ensures
