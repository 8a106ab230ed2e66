-- Documents with one element more, as functions.
use Rattle.std.specs.Prelude.{ℕ, ◌-◌, not, List, [], ◌∷◌, ◌++◌, drop, length, take, unwrap_or, Option, None, Some}
use Rattle.std.specs.List.{suffix_len}
use Rattle.doc_tree.specs.Change.{new_element}
use Rattle.doc_tree.specs.Element.{Document, Element, is_inclusive_descendant, parent_of, position_of}

-- the document with one element more, before which so many stand in tree order, and with its number used
abbrev pub with_element : Document → ℕ → Element → Document
with_element d place e = record { elements = take place d.elements ++ e ∷ drop place d.elements; used = d.used ++ e.number ∷ [] }

-- how many elements follow the last inclusive descendant of p
abbrev pub elements_after : Document → ℕ → ℕ
elements_after d p = suffix_len (λ e. not (is_inclusive_descendant d.elements p e.number)) d.elements

-- the place of a new last child of the parent: right after its subtree; a root stands alone
abbrev pub last_place : Document → Option ℕ → ℕ
last_place d None = 0
last_place d (Some p) = length d.elements - elements_after d p

-- the document with element n as the last child of the parent, or as the root (DOM, "append")
abbrev pub with_last_child : Document → ℕ → Option ℕ → List ℕ → Document
with_last_child d n parent tag = with_element d (last_place d parent) (new_element n parent tag)

-- the document with element n directly before its sibling (DOM, "insert")
abbrev pub with_previous_sibling : Document → ℕ → ℕ → List ℕ → Document
with_previous_sibling d n sibling tag =
    with_element d (unwrap_or (position_of sibling d) 0) (new_element n (parent_of sibling d.elements) tag)
