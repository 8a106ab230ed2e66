use Rattle.std.proofs.Common.{◌∙◌, ◌+◌, ap, subst, sym, map}
use Rattle.doc_tree.specs.Element.{Document, numbers_of}
use Rattle.restyle.specs.Quiet.{IsQuietFrame}
use Rattle.restyle.specs.StyleChanges.{FrameParts, frame_after, frame_parts}
use Rattle.restyle.proofs.Numbers.{in_order_already}
use Rattle.restyle.proofs.WorldFrames.{IsLeftBy, closed, order_left, world_left}
use Rattle.restyle.proofs.world_frame.restyled.Goals as goal

pub new-frame-requires-clause-entries : goal.new-frame-requires-clause-entries
new-frame-requires-clause-entries g c = ap (map (λ x. x.0)) (sym c.into_parts-numbers.ensures.list) ∙ c.requires.order

pub restyle_by-requires-clause-quiet : goal.restyle_by-requires-clause-quiet
restyle_by-requires-clause-quiet g c = λ quiet.
    subst (IsQuietFrame c.args.state.touched.keys)
    (sym (c.new-frame.ensures
    ∙ ap (λ es. frame_parts c.args.state.tree c.args.state.last_sheets c.args.state.sheets es c.args.state.time (c.args.state.frames + 1))
    (sym c.into_parts-numbers.ensures.list ∙ sym (in_order_already c.args.state.tree c.args.state.entries c.requires.tree c.requires.order))))
    (c.requires.quiet quiet)

pub state_of-requires : goal.state_of-requires
state_of-requires g c =
    let tree = ap (λ (f : FrameParts). f.document) c.in_ok-frame.ensures.frame ∙ (closed c.new-frame.result).document ∙ ap (λ (f : FrameParts). f.document) c.new-frame.ensures in
    record { numbers = c.into_parts-numbers.ensures.numbers ∙ ap (map (λ x. x.0)) (sym c.into_parts-numbers.ensures.list) ∙ c.requires.order ∙ ap (λ (d : Document). numbers_of d.elements) (sym tree) }

pub returns-clause-world : goal.returns-clause-world
returns-clause-world g c =
    let left : IsLeftBy c.args.state c.state_of.result c.in_ok-frame.field-0.frame = record {
      after = c.in_ok-frame.ensures.frame ∙ ap frame_after (c.new-frame.ensures ∙ ap (λ es. frame_parts c.args.state.tree c.args.state.last_sheets c.args.state.sheets es c.args.state.time (c.args.state.frames + 1)) (sym c.into_parts-numbers.ensures.list));
      parts = c.state_of.ensures.frame;
    } in
    world_left c.args.state c.state_of.result c.in_ok-frame.field-0.frame left c.requires.tree c.requires.order c.requires.removed (ap (λ v. v.items) c.state_of.ensures.removed ∙ c.requires.removed)

pub returns-clause-order : goal.returns-clause-order
returns-clause-order g c =
    let left : IsLeftBy c.args.state c.state_of.result c.in_ok-frame.field-0.frame = record {
      after = c.in_ok-frame.ensures.frame ∙ ap frame_after (c.new-frame.ensures ∙ ap (λ es. frame_parts c.args.state.tree c.args.state.last_sheets c.args.state.sheets es c.args.state.time (c.args.state.frames + 1)) (sym c.into_parts-numbers.ensures.list));
      parts = c.state_of.ensures.frame;
    } in
    order_left c.args.state c.state_of.result c.in_ok-frame.field-0.frame left c.requires.order
