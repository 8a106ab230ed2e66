use Rattle.std.proofs.Common.{◌∙◌, sym, ap, subst, List, ℕ, Option, Ok, Err, refl, option_map}
use Rattle.std.specs.String.{string_bytes}
use Rattle.doc_tree.specs.declared.fault.TreeFault.TheVariants.{NoMemory}
use Rattle.doc_tree.specs.Change.{with_id}
use Rattle.doc_tree.specs.Element.{Element}
use Rattle.doc_tree.specs.Marks.{kept_of, document_of, AreMarksOfTree}
use Rattle.doc_tree.proofs.Faults.{change-answer}
use Rattle.doc_tree.proofs.Changing.{changed-sound, document-changed}
use Rattle.doc_tree.proofs.change.set_id_of.Goals as goal

pub returns-in_default-owned-clause-fault : goal.returns-in_default-owned-clause-fault
returns-in_default-owned-clause-fault c = change-answer (kept_of c.args.nodes.now) c.requires c.args.n c.in-Some.slot (Err NoMemory) c.in-Some.ensures.found refl

pub returns-clause-sound : goal.returns-clause-sound
returns-clause-sound c =
    let k = kept_of c.args.nodes.now in
    let change = (λ (e : Element). record e { id = option_map string_bytes c.in-Ok.id }) in
    subst AreMarksOfTree (sym c.put_id.ensures) (changed-sound k c.requires c.args.n c.in-Some.slot c.in-Some.ensures.found change (λ e. record { number = refl; parent = refl }) ((c.requires.fit c.in-Some.slot c.in-Some.ensures.found.live).bounded))

pub returns-clause-fault : goal.returns-clause-fault
returns-clause-fault c = change-answer (kept_of c.args.nodes.now) c.requires c.args.n c.in-Some.slot (Ok tt) c.in-Some.ensures.found tt

pub returns-clause-ok : goal.returns-clause-ok
returns-clause-ok c =
    let k = kept_of c.args.nodes.now in
    let change = (λ (e : Element). record e { id = option_map string_bytes c.in-Ok.id }) in
    ap document_of c.put_id.ensures ∙ (document-changed k c.requires c.args.n c.in-Some.slot c.in-Some.ensures.found change (λ e. record { number = refl; parent = refl }) ((c.requires.fit c.in-Some.slot c.in-Some.ensures.found.live).bounded) ∙ ap (λ (o : Option (List ℕ)). with_id (document_of k) c.args.n o) c.in-Ok.ensures)
