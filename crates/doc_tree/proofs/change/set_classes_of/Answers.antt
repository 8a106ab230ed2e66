use Rattle.std.proofs.Common.{◌≡◌, ◌≤◌, ◌∙◌, sym, ap, subst, length, map, List, ℕ, Ok, Err, refl}
use Rattle.std.specs.String.{string_bytes}
use Rattle.std.proofs.lemmas.Bool.{le-leb, and_from, and_parts}
use Rattle.doc_tree.specs.declared.fault.TreeFault.TheVariants.{NoMemory}
use Rattle.doc_tree.specs.declared.limits.TheConstants.{MAX_CLASSES}
use Rattle.doc_tree.specs.Change.{each_once, with_change}
use Rattle.doc_tree.specs.Element.{Element}
use Rattle.doc_tree.specs.Marks.{kept_of, document_of, AreMarksOfTree}
use Rattle.doc_tree.proofs.Faults.{classes-answer, classes-many}
use Rattle.doc_tree.proofs.Names.{texts, names-few}
use Rattle.doc_tree.proofs.Changing.{changed-sound, document-changed}
use Rattle.doc_tree.proofs.change.set_classes_of.Goals as goal

pub returns-in_default-keep_once-clause-fault : goal.returns-in_default-keep_once-clause-fault
returns-in_default-keep_once-clause-fault c = classes-many (kept_of c.args.nodes.now) c.requires c.args.n c.in-Some.slot (texts c.args.names.now) c.in-Some.ensures.found c.in_default-keep_once.ensures.full

pub returns-in_default-owned_names-clause-fault : goal.returns-in_default-owned_names-clause-fault
returns-in_default-owned_names-clause-fault c =
    let few = names-few _ c.in-Some-keep_once.count MAX_CLASSES (each_once (texts c.args.names.now)) c.keep_once.auto.kept c.in-Some-keep_once.ensures.kept in
    classes-answer (kept_of c.args.nodes.now) c.requires c.args.n c.in-Some.slot (texts c.args.names.now) (Err NoMemory) c.in-Some.ensures.found few refl

pub returns-clause-fault : goal.returns-clause-fault
returns-clause-fault c =
    let few = names-few _ c.in-Some-keep_once.count MAX_CLASSES (each_once (texts c.args.names.now)) c.keep_once.auto.kept c.in-Some-keep_once.ensures.kept in
    classes-answer (kept_of c.args.nodes.now) c.requires c.args.n c.in-Some.slot (texts c.args.names.now) (Ok tt) c.in-Some.ensures.found few tt

pub returns-clause-sound : goal.returns-clause-sound
returns-clause-sound c =
    let k = kept_of c.args.nodes.now in
    let once = each_once (texts c.args.names.now) in
    let few = names-few _ c.in-Some-keep_once.count MAX_CLASSES once c.keep_once.auto.kept c.in-Some-keep_once.ensures.kept in
    let classes : map string_bytes c.in-Ok.classes.items ≡ once = c.in-Ok.ensures ∙ c.in-Some-keep_once.ensures.kept in
    let change = (λ (e : Element). record e { classes = map string_bytes c.in-Ok.classes.items }) in
    let old = and_parts _ _ (c.requires.fit c.in-Some.slot c.in-Some.ensures.found.live).bounded in
    let short = le-leb _ _ (subst (λ (cs : List (List ℕ)). length cs ≤ MAX_CLASSES) (sym classes) few) in
    subst AreMarksOfTree (sym c.put_classes.ensures) (changed-sound k c.requires c.args.n c.in-Some.slot c.in-Some.ensures.found change (λ e. record { number = refl; parent = refl }) (and_from _ _ old.0 short))

pub returns-clause-ok : goal.returns-clause-ok
returns-clause-ok c =
    let k = kept_of c.args.nodes.now in
    let once = each_once (texts c.args.names.now) in
    let few = names-few _ c.in-Some-keep_once.count MAX_CLASSES once c.keep_once.auto.kept c.in-Some-keep_once.ensures.kept in
    let classes : map string_bytes c.in-Ok.classes.items ≡ once = c.in-Ok.ensures ∙ c.in-Some-keep_once.ensures.kept in
    let change = (λ (e : Element). record e { classes = map string_bytes c.in-Ok.classes.items }) in
    let old = and_parts _ _ (c.requires.fit c.in-Some.slot c.in-Some.ensures.found.live).bounded in
    let short = le-leb _ _ (subst (λ (cs : List (List ℕ)). length cs ≤ MAX_CLASSES) (sym classes) few) in
    ap document_of c.put_classes.ensures ∙ (document-changed k c.requires c.args.n c.in-Some.slot c.in-Some.ensures.found change (λ e. record { number = refl; parent = refl }) (and_from _ _ old.0 short)
    ∙ ap (λ (cs : List (List ℕ)). with_change (document_of k) c.args.n (λ e. record e { classes = cs })) classes)
