use Rattle.computed_style.proofs.ListLemmas.{transition_lists_are}
use Rattle.computed_style.proofs.lists.transition_lists.Goals as goal

pub new-lists-requires-clause-items : goal.new-lists-requires-clause-items
new-lists-requires-clause-items c =
    rw (c.in_ok-items.ensures, c.list_winner.ensures.value) (transition_lists_are c.args.d.now c.list_winner.ensures.all).items

pub new-lists-requires-clause-durations : goal.new-lists-requires-clause-durations
new-lists-requires-clause-durations c =
    rw (c.in_ok-durations.ensures, c.list_winner-2.ensures.value) (transition_lists_are c.args.d.now c.list_winner.ensures.all).durations

pub new-lists-requires-clause-delays : goal.new-lists-requires-clause-delays
new-lists-requires-clause-delays c =
    rw (c.in_ok-delays.ensures, c.list_winner-3.ensures.value) (transition_lists_are c.args.d.now c.list_winner.ensures.all).delays

pub new-lists-requires-clause-easings : goal.new-lists-requires-clause-easings
new-lists-requires-clause-easings c =
    rw (c.in_ok-easings.ensures, c.list_winner-4.ensures.value) (transition_lists_are c.args.d.now c.list_winner.ensures.all).easings
