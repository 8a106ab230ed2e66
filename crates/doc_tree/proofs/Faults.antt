-- Where a change of an element has no fault.
use Rattle.std.proofs.Common.{◌≡◌, ℕ, ◌<◌, ◌≤◌, Bool, not, cond, Option, Some, None, Result, Err, List, length, refl, sym, ap, ◌∙◌, subst}
use Rattle.std.specs.Prelude.{IsOkUnless, nat_lt}
use Rattle.std.proofs.lemmas.Bool.{lt-ltb, le-ltb}
use Rattle.doc_tree.specs.declared.fault.TreeFault.{TreeFault}
use Rattle.doc_tree.specs.declared.fault.TreeFault.TheVariants.{UnknownNode, BoundClasses, NoMemory}
use Rattle.doc_tree.specs.declared.limits.TheConstants.{MAX_CLASSES}
use Rattle.doc_tree.specs.Change.{each_once}
use Rattle.doc_tree.specs.Fault.{Answers, fault_of_change, fault_of_classes}
use Rattle.doc_tree.specs.Marks.{Kept, document_of, AreMarksOfTree, IsSlotOf}
use Rattle.doc_tree.proofs.Sound.{slot-there}

pub change-answer : {T : Type 0} (k : Kept) (sound : AreMarksOfTree k) (n s : ℕ) (result : Result T TreeFault) → IsSlotOf k n s → IsOkUnless result NoMemory → Answers (fault_of_change (document_of k).elements n) result
change-answer {T} k sound n s result of fine =
    let none : fault_of_change (document_of k).elements n ≡ None = ap (λ (b : Bool). cond b None (Some UnknownNode)) (slot-there k sound n s of) in
    subst (λ (f : Option TreeFault). Answers {T = T} f result) (sym none) fine

pub classes-answer : {T : Type 0} (k : Kept) (sound : AreMarksOfTree k) (n s : ℕ) (names : List (List ℕ)) (result : Result T TreeFault) → IsSlotOf k n s → length (each_once names) ≤ MAX_CLASSES → IsOkUnless result NoMemory
    → Answers (fault_of_classes (document_of k).elements n names) result
classes-answer {T} k sound n s names result of few fine =
    let none : fault_of_classes (document_of k).elements n names ≡ None =
    ap (λ (b : Bool). cond (not b) (Some UnknownNode) (cond (nat_lt MAX_CLASSES (length (each_once names))) (Some BoundClasses) None)) (slot-there k sound n s of) ∙ ap (λ (b : Bool). cond b (Some BoundClasses) None) (le-ltb MAX_CLASSES (length (each_once names)) few) in
    subst (λ (f : Option TreeFault). Answers {T = T} f result) (sym none) fine

pub classes-many : (k : Kept) (sound : AreMarksOfTree k) (n s : ℕ) (names : List (List ℕ)) → IsSlotOf k n s → MAX_CLASSES < length (each_once names) → Answers {T = Unit {0}} (fault_of_classes (document_of k).elements n names) (Err BoundClasses)
classes-many k sound n s names of many =
    let is : fault_of_classes (document_of k).elements n names ≡ Some BoundClasses =
    ap (λ (b : Bool). cond (not b) (Some UnknownNode) (cond (nat_lt MAX_CLASSES (length (each_once names))) (Some BoundClasses) None)) (slot-there k sound n s of) ∙ ap (λ (b : Bool). cond b (Some BoundClasses) None) (lt-ltb MAX_CLASSES (length (each_once names)) many) in
    let result : Result (Unit {0}) TreeFault = Err BoundClasses in
    subst (λ (f : Option TreeFault). Answers {T = Unit {0}} f result) (sym is) refl
