-- Which elements a selector matches (Selectors 4, sections 3.1, 3.2 and 15).
use Rattle.std.specs.Prelude.{◌≡◌, ℕ, Bool, true, false, ◌&&◌, ◌||◌, List, [], ◌∷◌, ◌++◌, reverse, All, Contains, IfSome, Option, None, Some}
use Rattle.std.specs.Option.{option_map_or}
use Rattle.std.specs.List.{list_all, list_any}
use Rattle.std.specs.Str.{bytes_eq}
use Rattle.doc_tree.specs.Element.{Element}
use Rattle.selectors_mini.specs.Compounds.{CompoundSelector}
use Rattle.selectors_mini.specs.declared.combinator.Combinator.{Combinator}
use Rattle.selectors_mini.specs.declared.combinator.Combinator.TheVariants.{Child, Descendant}

-- the compound represents the element: all that it names is the element's, byte for byte
pub record Represents (c : CompoundSelector) (e : Element) : Type 0 where
  pub of_type : IfSome c.tag (λ tag. e.tag ≡ tag)
  pub has_ids : All (λ id. e.id ≡ Some id) c.ids
  pub has_classes : All (Contains e.classes) c.classes

-- the compounds, the last first, fit elements of the chain, which goes up from the first element that they fit: the next of them fits its parent, or any of its ancestors, as its combinator says
pub data Fits : List CompoundSelector → List Element → Type 0 where
  first : (c : CompoundSelector) (e : Element) (above : List Element) → Represents c e → Fits (c ∷ []) (e ∷ above)
  child : (c before : CompoundSelector) (cs : List CompoundSelector) (e : Element) (above : List Element) → Represents c e → before.next ≡ Some Child
      → Fits (before ∷ cs) above → Fits (c ∷ before ∷ cs) (e ∷ above)
  descendant : (c before : CompoundSelector) (cs : List CompoundSelector) (e : Element) (between above : List Element) → Represents c e
      → before.next ≡ Some Descendant → Fits (before ∷ cs) above → Fits (c ∷ before ∷ cs) (e ∷ between ++ above)

-- the selector matches the first element of this chain of inclusive ancestors
abbrev pub Matches : List CompoundSelector → List Element → Type 0
Matches s chain = Fits (reverse s) chain

-- the other element has the type and the id of this one, and its classes at least
pub record HasAtLeast (e other : Element) : Type 0 where
  pub tag : other.tag ≡ e.tag
  pub id : other.id ≡ e.id
  pub classes : All (Contains other.classes) e.classes

-- ---- as functions

-- the element has this id
abbrev pub has_id : Element → List ℕ → Bool
has_id e id = option_map_or (λ own. bytes_eq own id) e.id false

-- the element has this class
abbrev pub has_class : Element → List ℕ → Bool
has_class e class = list_any (λ own. bytes_eq own class) e.classes

abbrev pub represents : CompoundSelector → Element → Bool
represents c e = option_map_or (λ tag. bytes_eq e.tag tag) c.tag true && (list_all (has_id e) c.ids && list_all (has_class e) c.classes)

-- the test holds of the list or of what is left of it after some of its first elements
abbrev pub any_rest : (List Element → Bool) → List Element → Bool
any_rest test [] = test []
any_rest test (e ∷ es) = test (e ∷ es) || any_rest test es

-- the test holds above, as the combinator says
abbrev pub stands : Option Combinator → (List Element → Bool) → List Element → Bool
stands None test above = false
stands (Some Child) test above = test above
stands (Some Descendant) test above = any_rest test above

abbrev pub fits : List CompoundSelector → List Element → Bool
fits [] chain = false
fits (c ∷ cs) [] = false
fits (c ∷ []) (e ∷ above) = represents c e
fits (c ∷ before ∷ cs) (e ∷ above) = represents c e && stands before.next (fits (before ∷ cs)) above

-- whether the selector matches the first element of the chain
abbrev pub matches_of : List CompoundSelector → List Element → Bool
matches_of s chain = fits (reverse s) chain
