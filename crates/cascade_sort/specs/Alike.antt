-- Siblings that nothing tells apart but their numbers and their places.
use Rattle.std.specs.Prelude.{◌≡◌, ℕ, nat_eq, Bool, false, ◌&&◌, List, IsSomeAnd}
use Rattle.std.specs.Cmp.Lexicographic.{pointwise}
use Rattle.std.specs.Option.{option_eq, option_map_or}
use Rattle.std.specs.Str.{bytes_eq}
use Rattle.doc_tree.specs.Element.{Element, element_of}

-- nothing tells the elements apart but their numbers and their places: they have one parent, type, id, class list and style text
pub record AreAlike (e f : Element) : Type 0 where
  pub parent : e.parent ≡ f.parent
  pub tag : e.tag ≡ f.tag
  pub id : e.id ≡ f.id
  pub classes : e.classes ≡ f.classes
  pub style : e.style ≡ f.style

-- elements n and m are in the list, and are siblings alike
abbrev pub AreSiblingsAlike : ℕ → ℕ → List Element → Type 0
AreSiblingsAlike n m es = IsSomeAnd (element_of n es) (λ e. IsSomeAnd (element_of m es) (AreAlike e))

-- ---- as functions

-- whether the elements have one parent, class list, type, style text and id
abbrev pub are_alike : Element → Element → Bool
are_alike e f =
    option_eq nat_eq e.parent f.parent
    && (pointwise bytes_eq e.classes f.classes && (bytes_eq e.tag f.tag && (bytes_eq e.style f.style && option_eq bytes_eq e.id f.id)))

-- whether elements n and m are in the list, and are siblings alike
abbrev pub are_siblings_alike : ℕ → ℕ → List Element → Bool
are_siblings_alike n m es = option_map_or (λ e. option_map_or (are_alike e) (element_of m es) false) (element_of n es) false
