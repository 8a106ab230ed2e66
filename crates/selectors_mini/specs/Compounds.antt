-- Compound selectors, and what a selector of them counts (Selectors 4, sections 3.1 and 17).
use Rattle.std.specs.Prelude.{◌≡◌, ℕ, ◌-◌, ◌≤◌, List, [], ◌∷◌, ◌++◌, length, sum_by, count_by, is_some, slice_get, IsPermutation, Option, None, Some}
use Rattle.selectors_mini.specs.declared.combinator.Combinator.{Combinator}

-- a compound selector: the type that it names, where it names one, its ids and its classes, and how the next compound's element stands to this one's, where there is a next
pub record CompoundSelector : Type 0 where
  pub tag : Option (List ℕ)
  pub ids : List (List ℕ)
  pub classes : List (List ℕ)
  pub next : Option Combinator

-- no text has as many parts
pub record IsBounded (ids classes : List (List ℕ)) : Type 0 where
  pub few_ids : length ids ≤ 67108864
  pub few_classes : length classes ≤ 67108864

-- a selector has 1 to 16 compounds
pub record IsShort (compounds : List CompoundSelector) : Type 0 where
  pub some : 1 ≤ length compounds
  pub few : length compounds ≤ 16

-- the last compound, which stands for the element itself
abbrev pub subject_of : List CompoundSelector → Option CompoundSelector
subject_of s = slice_get s (length s - 1)

-- the same compound with its ids and its classes in another order
pub record IsReordered (c d : CompoundSelector) : Type 0 where
  pub tag : d.tag ≡ c.tag
  pub ids : IsPermutation c.ids d.ids
  pub classes : IsPermutation c.classes d.classes

-- ---- what a compound is made of

-- `*`, which names nothing
abbrev pub any_element : CompoundSelector
any_element = record { tag = None; ids = []; classes = []; next = None }

-- a type alone
abbrev pub of_type : List ℕ → CompoundSelector
of_type name = record { tag = Some name; ids = []; classes = []; next = None }

-- the compound with one more id after its others
abbrev pub compound_with_id : CompoundSelector → List ℕ → CompoundSelector
compound_with_id c name = record c { ids = c.ids ++ name ∷ [] }

-- the compound with one more class after its others
abbrev pub compound_with_class : CompoundSelector → List ℕ → CompoundSelector
compound_with_class c name = record c { classes = c.classes ++ name ∷ [] }

-- the compound before one that stands to it so
abbrev pub followed_by : CompoundSelector → Combinator → CompoundSelector
followed_by c k = record c { next = Some k }

-- ---- specificity

-- how many ids, how many classes and how many types the compounds name
abbrev pub specificity_of : List CompoundSelector → ℕ × ℕ × ℕ
specificity_of s = (sum_by (λ c. length c.ids) s, sum_by (λ c. length c.classes) s, count_by (λ c. is_some c.tag) s)
