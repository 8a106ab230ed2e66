-- The spelling of a selector list (Selectors 4, section 18), in the profile without pseudo-classes, attributes and siblings.
use Rattle.std.specs.Prelude.{ℕ, ◌<◌, ◌≤◌, List, [], ◌∷◌, ◌++◌, length, All, Any, Result, Ok, Err, ⊤}
use Rattle.std.specs.Global.{Vec}
use Rattle.selectors_mini.specs.Compounds.{CompoundSelector, any_element, of_type, compound_with_id, compound_with_class, followed_by}
use Rattle.selectors_mini.specs.Parts.{SelectorPart, Word, Hash, Dot, Star, Greater, Comma, Space}
use Rattle.selectors_mini.specs.declared.combinator.Combinator.{Combinator}
use Rattle.selectors_mini.specs.declared.combinator.Combinator.TheVariants.{Child, Descendant}
use Rattle.selectors_mini.specs.declared.reading.SelectorFault.{SelectorFault}
use Rattle.selectors_mini.specs.declared.reading.SelectorFault.TheVariants.{Unsupported, BoundSelectors, BoundCompounds, NoMemory}
use Rattle.selectors_mini.specs.declared.selector.Selector.{Selector}

-- the compound c, and then these classes and ids, are the compound d
pub data Continues : CompoundSelector → List SelectorPart → CompoundSelector → Type 0 where
  end : (c : CompoundSelector) → Continues c [] c
  class : (c d : CompoundSelector) (name : List ℕ) (rest : List SelectorPart) → Continues (compound_with_class c name) rest d
      → Continues c (Dot ∷ Word name ∷ rest) d
  id : (c d : CompoundSelector) (name : List ℕ) (rest : List SelectorPart) → Continues (compound_with_id c name) rest d
      → Continues c (Hash name ∷ rest) d

-- a compound: a type, `*`, a class or an id, and then classes and ids
pub data IsCompound : List SelectorPart → CompoundSelector → Type 0 where
  type : (d : CompoundSelector) (name : List ℕ) (rest : List SelectorPart) → Continues (of_type name) rest d → IsCompound (Word name ∷ rest) d
  universal : (d : CompoundSelector) (rest : List SelectorPart) → Continues any_element rest d → IsCompound (Star ∷ rest) d
  class : (d : CompoundSelector) (name : List ℕ) (rest : List SelectorPart) → Continues (compound_with_class any_element name) rest d
      → IsCompound (Dot ∷ Word name ∷ rest) d
  id : (d : CompoundSelector) (name : List ℕ) (rest : List SelectorPart) → Continues (compound_with_id any_element name) rest d
      → IsCompound (Hash name ∷ rest) d

-- spaces, or nothing
pub data AreSpaces : List SelectorPart → Type 0 where
  none : AreSpaces []
  some : (rest : List SelectorPart) → AreSpaces rest → AreSpaces (Space ∷ rest)

-- a combinator: spaces, or `>` with spaces around it or none
pub data IsCombinator : List SelectorPart → Combinator → Type 0 where
  descendant : (rest : List SelectorPart) → AreSpaces rest → IsCombinator (Space ∷ rest) Descendant
  child : (before after : List SelectorPart) → AreSpaces before → AreSpaces after → IsCombinator (before ++ Greater ∷ after) Child

-- compounds, with a combinator between each and the next
pub data AreCompounds : List SelectorPart → List CompoundSelector → Type 0 where
  last : (parts : List SelectorPart) (c : CompoundSelector) → IsCompound parts c → AreCompounds parts (c ∷ [])
  more : (parts between rest : List SelectorPart) (c : CompoundSelector) (k : Combinator) (cs : List CompoundSelector)
      → IsCompound parts c → IsCombinator between k → AreCompounds rest cs
      → AreCompounds (parts ++ between ++ rest) (followed_by c k ∷ cs)

-- a selector: compounds, with spaces around them or none
pub data IsSelector : List SelectorPart → List CompoundSelector → Type 0 where
  spaced : (before inside after : List SelectorPart) (cs : List CompoundSelector) → AreSpaces before → AreCompounds inside cs
      → AreSpaces after → IsSelector (before ++ inside ++ after) cs

-- selectors, with a comma between each and the next
pub data AreSelectors : List SelectorPart → List (List CompoundSelector) → Type 0 where
  last : (parts : List SelectorPart) (s : List CompoundSelector) → IsSelector parts s → AreSelectors parts (s ∷ [])
  more : (parts rest : List SelectorPart) (s : List CompoundSelector) (ss : List (List CompoundSelector)) → IsSelector parts s
      → AreSelectors rest ss → AreSelectors (parts ++ Comma ∷ rest) (s ∷ ss)

-- the selectors of a result
abbrev pub selectors_in : Result (Vec Selector) SelectorFault → Result (List (List CompoundSelector)) SelectorFault
selectors_in (Ok v) = Ok v.items
selectors_in (Err fault) = Err fault

-- the answer of the reader of these parts, unless memory runs out
abbrev pub IsSelectorAnswer : List SelectorPart → Result (List (List CompoundSelector)) SelectorFault → Type 0
IsSelectorAnswer parts (Ok ss) = AreSelectors parts ss × (length ss ≤ 32) × All (λ s. length s ≤ 16) ss
IsSelectorAnswer parts (Err Unsupported) = (ss : List (List CompoundSelector)) → AreSelectors parts ss → ⊥
IsSelectorAnswer parts (Err BoundSelectors) = (ss : List (List CompoundSelector)) × AreSelectors parts ss × (32 < length ss)
IsSelectorAnswer parts (Err BoundCompounds) =
    (ss : List (List CompoundSelector)) × AreSelectors parts ss × (length ss ≤ 32) × Any (λ s. 16 < length s) ss
IsSelectorAnswer parts (Err NoMemory) = ⊤
