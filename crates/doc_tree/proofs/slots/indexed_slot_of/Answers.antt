use Rattle.std.proofs.Common.{◌<◌, length, sym, ◌∙◌, ap, is_some, arith}
use Rattle.doc_tree.specs.Marks.{kept_of}
use Rattle.doc_tree.proofs.Sound.{absent-unused, absent-cleared, found-slot, read_slot}
use Rattle.doc_tree.proofs.slots.indexed_slot_of.Goals as goal

pub returns-in_default-clause-absent : goal.returns-in_default-clause-absent
returns-in_default-clause-absent c = absent-unused (kept_of c.args.nodes.now) c.requires c.args.n (sym c.in_default.ensures.found)

pub returns-in-None-clause-absent : goal.returns-in-None-clause-absent
returns-in-None-clause-absent c =
    let within : c.in-Some.slot < length c.args.nodes.now.slots.items = omega (arith, c.requires.sized.slots, c.in-Some.ensures.within) in
    absent-cleared (kept_of c.args.nodes.now) c.requires c.args.n c.in-Some.slot (sym c.in-Some.ensures.index) (ap (λ o. is_some o) (read_slot c.args.nodes.now.slots.items c.in-Some.slot c.index.result.now within c.index.ensures ∙ c.in-None.is))

pub returns-in-Some-index-clause-found : goal.returns-in-Some-index-clause-found
returns-in-Some-index-clause-found c =
    let within : c.in-Some.slot < length c.args.nodes.now.slots.items = omega (arith, c.requires.sized.slots, c.in-Some.ensures.within) in
    found-slot (kept_of c.args.nodes.now) c.requires c.args.n c.in-Some.slot (sym c.in-Some.ensures.index) (ap (λ o. is_some o) (read_slot c.args.nodes.now.slots.items c.in-Some.slot c.index.result.now within c.index.ensures ∙ c.in-Some-index.is))
