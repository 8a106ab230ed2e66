-- The children of an element.
use Rattle.std.specs.Prelude.{ℕ, ◌==◌, Bool, false, List, [], ◌∷◌, filter, if◌then◌else◌, Option, Some, None}
use Rattle.std.specs.Option.{option_map_or}
use Rattle.doc_tree.specs.Element.{Element, parent_of}

-- element n is the parent of e (DOM, "child")
abbrev pub is_child_of : ℕ → Element → Bool
is_child_of n e = option_map_or (λ p. p == n) e.parent false

-- the children of element n, in tree order
abbrev pub children_of : List Element → ℕ → List Element
children_of es n = filter (is_child_of n) es

-- the number of the first element of the list
abbrev pub first_number : List Element → Option ℕ
first_number [] = None
first_number (e ∷ es) = Some e.number

-- the number of the element right after element n in the list
abbrev pub number_after : ℕ → List Element → Option ℕ
number_after n [] = None
number_after n (e ∷ es) = if e.number == n then first_number es else number_after n es

-- the number of the first child of element n (DOM, "first child")
abbrev pub first_child_of : ℕ → List Element → Option ℕ
first_child_of n es = first_number (children_of es n)

-- the number of the child right after element n among those of its parent (DOM, "next sibling"); the root has none
abbrev pub next_sibling_of : ℕ → List Element → Option ℕ
next_sibling_of n es = option_map_or (λ p. number_after n (children_of es p)) (parent_of n es) None
