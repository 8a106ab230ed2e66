-- What makes a list of elements a tree in tree order.
use Rattle.std.specs.Prelude.{◌≡◌, ℕ, ◌≤◌, ◌&&◌, nat_le, Bool, false, List, [], ◌∷◌, length, IsTrue, IsSomeAnd, ⊤, Option, None}
use Rattle.std.specs.List.{list_all}
use Rattle.doc_tree.specs.declared.limits.TheConstants.{MAX_CLASSES, MAX_DEPTH, MAX_ELEMENTS, MAX_STYLE_BYTES}
use Rattle.doc_tree.specs.Element.{Element, Document, is_in, is_used, chain, depth_of}

-- after `earlier`, the last first, may stand a child of the last of them or of one of its ancestors; the first element is the root
abbrev pub Follows : List Element → Option ℕ → Type 0
Follows [] parent = parent ≡ None
Follows (last ∷ earlier) parent = IsSomeAnd parent (λ p. IsTrue (is_in p (chain (last ∷ earlier) last.number)))

-- e may be the next element: its number is new, and its parent is one that it may follow
pub record MayComeNext (earlier : List Element) (e : Element) : Type 0 where
  pub differs : is_in e.number earlier ≡ false
  pub follows : Follows earlier e.parent

-- the elements es may follow `earlier`, one after another
abbrev pub IsGrown : List Element → List Element → Type 0
IsGrown earlier [] = ⊤
IsGrown earlier (e ∷ es) = MayComeNext earlier e × IsGrown (e ∷ earlier) es

-- the elements are those of one tree in tree order, and the number of each is a used one
pub record IsTree (d : Document) : Type 0 where
  pub order : IsGrown [] d.elements
  pub numbers : IsTrue (list_all (λ e. is_used e.number d) d.elements)

-- the element's style text and its classes are within their limits
abbrev pub is_bounded : Element → Bool
is_bounded e = nat_le (length e.style) MAX_STYLE_BYTES && nat_le (length e.classes) MAX_CLASSES

-- no document has more elements, and no element lies deeper, or has a longer style text or more classes
pub record IsWithinLimits (d : Document) : Type 0 where
  pub elements : length d.elements ≤ MAX_ELEMENTS
  pub depths : IsTrue (list_all (λ e. nat_le (depth_of d.elements e.number) MAX_DEPTH) d.elements)
  pub texts : IsTrue (list_all is_bounded d.elements)
