-- Which fault an edit has: the first of the list.
use Rattle.std.specs.Prelude.{ℕ, ◌+◌, nat_lt, Bool, true, not, ◌&&◌, List, length, is_none, if◌then◌else◌, MatchOption, IsOkUnless, ◌≡◌, Option, Some, None, Result, Err}
use Rattle.std.specs.Option.{option_map_or}
use Rattle.doc_tree.specs.declared.limits.TheConstants.{MAX_ELEMENTS, MAX_DEPTH, MAX_CLASSES}
use Rattle.doc_tree.specs.declared.fault.TreeFault.{TreeFault}
use Rattle.doc_tree.specs.declared.fault.TreeFault.TheVariants.{UnknownNode, NodeTaken, BoundNodes, BoundDepth, BoundRoot, BoundClasses, NoMemory}
use Rattle.doc_tree.specs.Element.{Element, Document, is_in, is_used, depth_of, parent_of}
use Rattle.doc_tree.specs.Change.{each_once}

-- the parent is in the tree, or none is named
abbrev pub has_parent : Option ℕ → Document → Bool
has_parent parent d = option_map_or (λ p. is_in p d.elements) parent true

-- how deep a child of the parent lies; with no parent it is the root
abbrev pub child_depth : Option ℕ → List Element → ℕ
child_depth parent es = option_map_or (λ p. depth_of es p + 1) parent 1

-- the first fault of a new element n at this depth, of those that its place doesn't name
abbrev pub fault_at_depth : Document → ℕ → ℕ → Bool → Option TreeFault
fault_at_depth d n depth is_root =
    if is_used n d then Some NodeTaken else
    (if nat_lt MAX_ELEMENTS (length d.elements + 1) then Some BoundNodes else
    (if nat_lt MAX_DEPTH depth then Some BoundDepth else
    (if is_root && nat_lt 0 (length d.elements) then Some BoundRoot else None)))

-- the first fault of making element n a child of the parent, where the named element is known or isn't
abbrev pub fault_of_new : Document → ℕ → Bool → Option ℕ → Option TreeFault
fault_of_new d n known parent = if known then fault_at_depth d n (child_depth parent d.elements) (is_none parent) else Some UnknownNode

-- the first fault of adding element n below the parent
abbrev pub fault_of_add : Document → ℕ → Option ℕ → Option TreeFault
fault_of_add d n parent = fault_of_new d n (has_parent parent d) parent

-- the first fault of inserting element n before the sibling
abbrev pub fault_of_insert : Document → ℕ → ℕ → Option TreeFault
fault_of_insert d n sibling = fault_of_new d n (is_in sibling d.elements) (parent_of sibling d.elements)

-- the fault of a change, or the removal, of element n
abbrev pub fault_of_change : List Element → ℕ → Option TreeFault
fault_of_change es n = if is_in n es then None else Some UnknownNode

-- the first fault of giving element n these classes
abbrev pub fault_of_classes : List Element → ℕ → List (List ℕ) → Option TreeFault
fault_of_classes es n names =
    if not (is_in n es) then Some UnknownNode else
    (if nat_lt MAX_CLASSES (length (each_once names)) then Some BoundClasses else None)

-- an edit answers its fault; with none it answers Ok, or that memory is wanting
abbrev pub Answers : {T : Type 0} → Option TreeFault → Result T TreeFault → Type 0
Answers fault result = MatchOption fault (IsOkUnless result NoMemory) (λ e. result ≡ Err e)
