use Rattle.std.proofs.Common.{◌≤◌, ◌∙◌, sym, ap, subst, length, List, ℕ, Ok, Err, refl}
use Rattle.std.specs.String.{string_bytes}
use Rattle.std.proofs.lemmas.Bool.{le-leb, and_from, and_parts}
use Rattle.doc_tree.specs.declared.fault.TreeFault.TheVariants.{NoMemory}
use Rattle.doc_tree.specs.declared.limits.TheConstants.{MAX_STYLE_BYTES}
use Rattle.doc_tree.specs.Change.{with_style}
use Rattle.doc_tree.specs.Element.{Element}
use Rattle.doc_tree.specs.Marks.{kept_of, document_of, AreMarksOfTree}
use Rattle.doc_tree.proofs.Faults.{change-answer}
use Rattle.doc_tree.proofs.Changing.{changed-sound, document-changed}
use Rattle.doc_tree.proofs.change.set_style_of.Goals as goal

pub returns-in_default-from_str-clause-fault : goal.returns-in_default-from_str-clause-fault
returns-in_default-from_str-clause-fault c = change-answer (kept_of c.args.nodes.now) c.requires.sound c.args.n c.in-Some.slot (Err NoMemory) c.in-Some.ensures.found refl

pub returns-clause-sound : goal.returns-clause-sound
returns-clause-sound c =
    let k = kept_of c.args.nodes.now in
    let change = (λ (e : Element). record e { style = string_bytes c.in-Ok.style }) in
    subst AreMarksOfTree (sym c.put_style.ensures) (changed-sound k c.requires.sound c.args.n c.in-Some.slot c.in-Some.ensures.found change (λ e. record { number = refl; parent = refl }) (and_from _ _ (le-leb _ _ (subst (λ (bs : List ℕ). length bs ≤ MAX_STYLE_BYTES) (sym c.in-Ok.ensures.ok) c.requires.short)) (and_parts _ _ (c.requires.sound.fit c.in-Some.slot c.in-Some.ensures.found.live).bounded).1))

pub returns-clause-fault : goal.returns-clause-fault
returns-clause-fault c = change-answer (kept_of c.args.nodes.now) c.requires.sound c.args.n c.in-Some.slot (Ok tt) c.in-Some.ensures.found tt

pub returns-clause-ok : goal.returns-clause-ok
returns-clause-ok c =
    let k = kept_of c.args.nodes.now in
    let change = (λ (e : Element). record e { style = string_bytes c.in-Ok.style }) in
    ap document_of c.put_style.ensures ∙ (document-changed k c.requires.sound c.args.n c.in-Some.slot c.in-Some.ensures.found change (λ e. record { number = refl; parent = refl }) (and_from _ _ (le-leb _ _ (subst (λ (bs : List ℕ). length bs ≤ MAX_STYLE_BYTES) (sym c.in-Ok.ensures.ok) c.requires.short)) (and_parts _ _ (c.requires.sound.fit c.in-Some.slot c.in-Some.ensures.found.live).bounded).1) ∙ ap (λ (bs : List ℕ). with_style (document_of k) c.args.n bs) c.in-Ok.ensures.ok)
