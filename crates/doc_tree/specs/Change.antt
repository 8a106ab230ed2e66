-- What an edit makes of a document.
use Rattle.std.specs.Prelude.{◌≡◌, ℕ, ◌==◌, not, false, List, [], ◌∷◌, ◌++◌, map, filter, bytes_eq, IsTrue, if◌then◌else◌, Option, Some, None}
use Rattle.std.specs.List.{list_any}
use Rattle.doc_tree.specs.Element.{Element, Document, is_inclusive_descendant}

-- the document with no element and no number used
abbrev pub empty_document : Document
empty_document = record { elements = []; used = [] }

-- an element as it is added: no id, no class, an empty style text
abbrev pub new_element : ℕ → Option ℕ → List ℕ → Element
new_element n parent tag = record { number = n; parent = parent; tag = tag; id = None; classes = []; style = [] }

-- p's subtree ends the elements `before`, and none of it is in `after`
pub record EndsSubtree (p : ℕ) (before after : List Element) : Type 0 where
  pub front : List Element
  pub last : Element
  pub is_last : before ≡ front ++ last ∷ []
  pub within : IsTrue (is_inclusive_descendant (before ++ after) p last.number)
  pub none_after : list_any (λ e. is_inclusive_descendant (before ++ after) p e.number) after ≡ false

-- between `before` and `after` is the place of a new last child of the parent: right after its subtree; a root stands alone
abbrev pub IsLastPlace : Option ℕ → List Element → List Element → Type 0
IsLastPlace None before after = (before ≡ []) × (after ≡ [])
IsLastPlace (Some p) before after = EndsSubtree p before after

-- the new document is the old one with the child as the last child of its parent (DOM, "append"), and with its number used
pub record IsAdded (old new : Document) (child : Element) : Type 0 where
  pub before : List Element
  pub after : List Element
  pub was : old.elements ≡ before ++ after
  pub is : new.elements ≡ before ++ child ∷ after
  pub place : IsLastPlace child.parent before after
  pub used : new.used ≡ old.used ++ child.number ∷ []

-- the new document is the old one with element n directly before the sibling, below the same parent (DOM, "insert"), and with its number used
pub record IsInserted (old new : Document) (n sibling : ℕ) (tag : List ℕ) : Type 0 where
  pub before : List Element
  pub next : Element
  pub after : List Element
  pub number : next.number ≡ sibling
  pub was : old.elements ≡ before ++ next ∷ after
  pub is : new.elements ≡ before ++ new_element n next.parent tag ∷ next ∷ after
  pub used : new.used ≡ old.used ++ n ∷ []

-- the document without the inclusive descendants of element n (DOM, "remove"); their numbers stay used
abbrev pub without : Document → ℕ → Document
without d n = record d { elements = filter (λ e. not (is_inclusive_descendant d.elements n e.number)) d.elements }

-- the document in which element n is as this function makes it
abbrev pub with_change : Document → ℕ → (Element → Element) → Document
with_change d n change = record d { elements = map (λ e. if e.number == n then change e else e) d.elements }

-- the document in which element n has this style text
abbrev pub with_style : Document → ℕ → List ℕ → Document
with_style d n text = with_change d n (λ e. record e { style = text })

-- the document in which element n has this id, or none
abbrev pub with_id : Document → ℕ → Option (List ℕ) → Document
with_id d n id = with_change d n (λ e. record e { id = id })

-- each of the texts once, in the order of first appearance
abbrev pub each_once : List (List ℕ) → List (List ℕ)
each_once [] = []
each_once (x ∷ xs) = x ∷ filter (λ y. not (bytes_eq x y)) (each_once xs)

-- the document in which element n has these classes, each once
abbrev pub with_classes : Document → ℕ → List (List ℕ) → Document
with_classes d n names = with_change d n (λ e. record e { classes = each_once names })

-- the new document is the old one without this unbroken stretch of its elements
pub record IsCut (old new : Document) (stretch : List Element) : Type 0 where
  pub before : List Element
  pub after : List Element
  pub was : old.elements ≡ before ++ stretch ++ after
  pub is : new.elements ≡ before ++ after
