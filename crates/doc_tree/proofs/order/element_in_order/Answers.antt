use Rattle.std.proofs.Common.{◌∙◌, sym, ap, ℕ, Option}
use Rattle.std.specs.Option.{option_map}
use Rattle.std.proofs.lemmas.Option.{slice_get-map}
use Rattle.doc_tree.specs.Marks.{kept_of, slots_in, element_at}
use Rattle.doc_tree.proofs.Ordering.{slot-live, slot-within, live-element}
use Rattle.doc_tree.proofs.order.element_in_order.Goals as goal

pub element_in-requires : goal.element_in-requires
element_in-requires c = slot-within (kept_of c.args.nodes.now) c.requires c.in-Some.slot (slot-live (kept_of c.args.nodes.now) c.requires c.args.place c.in-Some.slot (sym c.in-Some.ensures))

pub returns-in-None : goal.returns-in-None
returns-in-None c =
    let k = kept_of c.args.nodes.now in
    sym (slice_get-map (element_at k.slots) (slots_in k) c.args.place ∙ ap (λ (o : Option ℕ). option_map (element_at k.slots) o) (sym c.in-None.ensures))

pub returns-in-Some : goal.returns-in-Some
returns-in-Some c =
    let k = kept_of c.args.nodes.now in
    let live = slot-live k c.requires c.args.place c.in-Some.slot (sym c.in-Some.ensures) in
    c.element_in.ensures ∙ (live-element k c.in-Some.slot live ∙ sym (slice_get-map (element_at k.slots) (slots_in k) c.args.place ∙ ap (λ (o : Option ℕ). option_map (element_at k.slots) o) (sym c.in-Some.ensures)))
