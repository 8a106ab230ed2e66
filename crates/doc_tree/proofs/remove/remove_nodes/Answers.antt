use Rattle.std.proofs.Common.{◌≡◌, ◌∙◌, true, sym, ap, subst, length, map, get_or, List, ℕ, Ok, Err, Vec, Global, refl}
use Rattle.std.specs.Prelude.{nat_lt}
use Rattle.std.specs.List.{list_all}
use Rattle.doc_tree.specs.declared.fault.TreeFault.TheVariants.{NoMemory}
use Rattle.doc_tree.specs.Change.{without}
use Rattle.doc_tree.specs.Element.{numbers_of, subtree_of}
use Rattle.doc_tree.specs.Marks.{kept_of, document_of, AreMarksOfTree}
use Rattle.doc_tree.proofs.Faults.{change-answer}
use Rattle.doc_tree.proofs.Removing.{below-within, cut-sound, document-cut, numbers-gone}
use Rattle.doc_tree.proofs.remove.remove_nodes.Goals as goal

pub returns-in_default-slots_from-clause-fault : goal.returns-in_default-slots_from-clause-fault
returns-in_default-slots_from-clause-fault c = change-answer {T = Vec ℕ Global} (kept_of c.args.nodes.now) c.requires c.args.n c.in-Some.slot (Err NoMemory) c.in-Some.ensures.found refl

pub numbers_at-requires : goal.numbers_at-requires
numbers_at-requires c =
    let k = kept_of c.args.nodes.now in
    let all : list_all (λ s. nat_lt s (length c.as_slice.result.now)) c.deref.result.now ≡ true =
    ap (λ (ks : List ℕ). list_all (λ s. nat_lt s (length ks)) c.deref.result.now) c.as_slice.ensures.keys ∙ (ap (λ (ss : List ℕ). list_all (λ s. nat_lt s (length k.keys)) ss) (c.deref.ensures.value ∙ c.in-Ok.ensures) ∙ below-within k c.requires c.in-Some.slot c.in-Some.ensures.found.live) in
    all

pub returns-in_default-numbers_at-clause-fault : goal.returns-in_default-numbers_at-clause-fault
returns-in_default-numbers_at-clause-fault c = change-answer {T = Vec ℕ Global} (kept_of c.args.nodes.now) c.requires c.args.n c.in-Some.slot (Err NoMemory) c.in-Some.ensures.found refl

pub returns-clause-sound : goal.returns-clause-sound
returns-clause-sound c = subst AreMarksOfTree (sym c.cut.ensures) (cut-sound (kept_of c.args.nodes.now) c.requires c.in-Some.slot c.in-Some.ensures.found.live)

pub returns-clause-fault : goal.returns-clause-fault
returns-clause-fault c = change-answer (kept_of c.args.nodes.now) c.requires c.args.n c.in-Some.slot (Ok c.in-Ok-numbers_at.numbers) c.in-Some.ensures.found tt

pub returns-clause-numbers : goal.returns-clause-numbers
returns-clause-numbers c =
    let k = kept_of c.args.nodes.now in
    c.in-Ok-numbers_at.ensures ∙ (ap (λ (ks : List ℕ). map (λ s. get_or ks s 0) c.deref.result.now) c.as_slice.ensures.keys ∙ (ap (map (λ (s : ℕ). get_or k.keys s 0)) (c.deref.ensures.value ∙ c.in-Ok.ensures)
    ∙ (sym (numbers-gone k c.requires c.in-Some.slot c.in-Some.ensures.found.live) ∙ ap (λ (m : ℕ). numbers_of (subtree_of (document_of k).elements m)) c.in-Some.ensures.found.number)))

pub returns-clause-ok : goal.returns-clause-ok
returns-clause-ok c =
    let k = kept_of c.args.nodes.now in
    ap document_of c.cut.ensures ∙ (document-cut k c.requires c.in-Some.slot c.in-Some.ensures.found.live ∙ ap (without (document_of k)) c.in-Some.ensures.found.number)
