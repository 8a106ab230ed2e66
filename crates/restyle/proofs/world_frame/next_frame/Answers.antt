use Rattle.std.proofs.Common.{◌∙◌, ℕ, List, ap, length, sym, subst}
use Rattle.doc_tree.specs.Element.{Document}
use Rattle.doc_tree.specs.Shape.{IsTree}
use Rattle.fix_num.specs.declared.units.Micros.{Micros}
use Rattle.style_data.specs.Transitions.{IsMoment}
use Rattle.restyle.specs.States.{world_of}
use Rattle.restyle.specs.Quiet.{IsQuietFrame}
use Rattle.restyle.specs.Worlds.{frame_of, ticked_world}
use Rattle.restyle.proofs.WorldFrames.{frame_is, state_kept, ticked_quiet}
use Rattle.restyle.proofs.world_frame.next_frame.Goals as goal

pub restyled-requires-clause-tree : goal.restyled-requires-clause-tree
restyled-requires-clause-tree g c = subst IsTree (sym c.in_ok-events.ensures.rest.tree) c.requires.kept.world.tree

pub restyled-requires-clause-time : goal.restyled-requires-clause-time
restyled-requires-clause-time g c = subst (λ (t : Micros). IsMoment t.0) (sym c.in_ok-events.ensures.rest.time) c.requires.kept.time

pub restyled-requires-clause-quiet : goal.restyled-requires-clause-quiet
restyled-requires-clause-quiet g c = λ quiet.
    subst (λ w. IsQuietFrame c.events_of.new.state.touched.keys (frame_of w)) (sym c.in_ok-events.ensures.world)
    (subst (λ (ks : List ℕ). IsQuietFrame ks (frame_of (ticked_world (world_of c.args.state)))) (sym (ap (λ s. s.keys) c.in_ok-events.ensures.rest.touched))
    (ticked_quiet c.args.state.touched.keys (world_of c.args.state) (c.requires.kept.quiet (sym c.in_ok-events.ensures.rest.quiet ∙ quiet))))

pub returns-clause-world : goal.returns-clause-world
returns-clause-world g c = frame_is (world_of c.args.state) (world_of c.events_of.new.state) (world_of c.in_ok-state.state) c.in_ok-events.ensures.world c.in_ok-state.ensures.world

pub returns-clause-kept : goal.returns-clause-kept
returns-clause-kept g c =
    state_kept c.worlds_stay_distinct.ensures.frame c.args.state c.in_ok-state.state c.requires.kept
    (frame_is (world_of c.args.state) (world_of c.events_of.new.state) (world_of c.in_ok-state.state) c.in_ok-events.ensures.world c.in_ok-state.ensures.world) c.in_ok-state.ensures.order
    c.in_ok-state.ensures.removed c.in_ok-state.ensures.touched

pub returns-clause-updated : goal.returns-clause-updated
returns-clause-updated g c = c.in_ok-state.ensures.updated ∙ ap (λ (d : Document). length d.elements) c.in_ok-events.ensures.rest.tree
