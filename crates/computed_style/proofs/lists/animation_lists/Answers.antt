use Rattle.computed_style.proofs.ListLemmas.{animation_lists_are}
use Rattle.computed_style.proofs.lists.animation_lists.Goals as goal

pub new-lists-requires-clause-names : goal.new-lists-requires-clause-names
new-lists-requires-clause-names c =
    rw (c.in_ok-names.ensures, c.list_winner.ensures.value) (animation_lists_are c.args.d.now c.list_winner.ensures.all).names

pub new-lists-requires-clause-durations : goal.new-lists-requires-clause-durations
new-lists-requires-clause-durations c = rw c.in_ok-timing.ensures.durations (animation_lists_are c.args.d.now c.list_winner.ensures.all).durations

pub new-lists-requires-clause-delays : goal.new-lists-requires-clause-delays
new-lists-requires-clause-delays c = rw c.in_ok-timing.ensures.delays (animation_lists_are c.args.d.now c.list_winner.ensures.all).delays

pub new-lists-requires-clause-easings : goal.new-lists-requires-clause-easings
new-lists-requires-clause-easings c = rw c.in_ok-timing.ensures.easings (animation_lists_are c.args.d.now c.list_winner.ensures.all).easings

pub new-lists-requires-clause-counts : goal.new-lists-requires-clause-counts
new-lists-requires-clause-counts c = rw c.in_ok-timing.ensures.counts (animation_lists_are c.args.d.now c.list_winner.ensures.all).counts

pub new-lists-requires-clause-directions : goal.new-lists-requires-clause-directions
new-lists-requires-clause-directions c = rw c.in_ok-playing.ensures.directions (animation_lists_are c.args.d.now c.list_winner.ensures.all).directions

pub new-lists-requires-clause-fills : goal.new-lists-requires-clause-fills
new-lists-requires-clause-fills c = rw c.in_ok-playing.ensures.fills (animation_lists_are c.args.d.now c.list_winner.ensures.all).fills

pub new-lists-requires-clause-states : goal.new-lists-requires-clause-states
new-lists-requires-clause-states c = rw c.in_ok-playing.ensures.states (animation_lists_are c.args.d.now c.list_winner.ensures.all).states
