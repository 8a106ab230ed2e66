-- The elements of a document, in tree order.
use Rattle.std.specs.Prelude.{ℕ, ◌+◌, ◌==◌, nat_eq, Bool, List, [], ◌∷◌, map, filter, length, if◌then◌else◌, Option, None}
use Rattle.std.specs.Option.{option_map, option_map_or}
use Rattle.std.specs.List.{list_any, find, position}

-- an element: its number, its parent's, and what was given to it, each text as bytes (DOM, "Interface Element")
pub record Element : Type 0 where
  pub number : ℕ
  pub parent : Option ℕ
  pub tag : List ℕ
  pub id : Option (List ℕ)
  pub classes : List (List ℕ)
  pub style : List ℕ

-- a document: its elements in tree order (DOM, "Trees"), and the numbers used so far in the order of their use
pub record Document : Type 0 where
  pub elements : List Element
  pub used : List ℕ

-- an element of this number is in the list
abbrev pub is_in : ℕ → List Element → Bool
is_in n es = list_any (λ e. e.number == n) es

-- this number was used for an element, which is in the tree or was removed
abbrev pub is_used : ℕ → Document → Bool
is_used n d = list_any (nat_eq n) d.used

-- element n
abbrev pub element_of : ℕ → List Element → Option Element
element_of n es = find (λ e. e.number == n) es

-- the place of element n in tree order, from 0
abbrev pub position_of : ℕ → Document → Option ℕ
position_of n d = position (λ e. e.number == n) d.elements

-- the style text of element n
abbrev pub style_of : ℕ → Document → Option (List ℕ)
style_of n d = option_map (λ e. e.style) (element_of n d.elements)

-- the number of the parent of element n
abbrev pub parent_of : ℕ → List Element → Option ℕ
parent_of n es = option_map_or (λ e. e.parent) (element_of n es) None

-- the elements from n up to the root, by the parents, where `earlier` has the elements, the last first: a parent stands before its child
unfoldable pub chain : List Element → ℕ → List Element
chain [] n = []
chain (e ∷ earlier) n = if e.number == n then e ∷ option_map_or (chain earlier) e.parent [] else chain earlier n

-- es, the last first, and then `earlier`
abbrev pub reversed_onto : List Element → List Element → List Element
reversed_onto [] earlier = earlier
reversed_onto (e ∷ es) earlier = reversed_onto es (e ∷ earlier)

-- the inclusive ancestors of element n, from itself up to the root (DOM, "inclusive ancestor"); none where it isn't in the list
abbrev pub inclusive_ancestors : List Element → ℕ → List Element
inclusive_ancestors es n = chain (reversed_onto es []) n

-- how deep element n lies: 1 for the root, 0 where there is no such element
abbrev pub depth_of : List Element → ℕ → ℕ
depth_of es n = length (inclusive_ancestors es n)

-- element n is an inclusive descendant of element a (DOM, "inclusive descendant")
abbrev pub is_inclusive_descendant : List Element → ℕ → ℕ → Bool
is_inclusive_descendant es a n = is_in a (inclusive_ancestors es n)

-- the inclusive descendants of element a, in tree order
abbrev pub subtree_of : List Element → ℕ → List Element
subtree_of es a = filter (λ e. is_inclusive_descendant es a e.number) es

-- the place after the subtree of element n
abbrev pub subtree_end_of : ℕ → Document → Option ℕ
subtree_end_of n d = option_map (λ at. at + length (subtree_of d.elements n)) (position_of n d)

-- the numbers of the elements
abbrev pub numbers_of : List Element → List ℕ
numbers_of es = map (λ e. e.number) es
