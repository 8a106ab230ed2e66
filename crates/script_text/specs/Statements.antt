-- What a line of a script may say: its grammar, one line for each kind.
use Rattle.std.specs.Prelude.{◌≡◌, ◌⊎◌, ℕ, List, [], ◌∷◌, ◌++◌, IsTrue, Option, Some, None, codes}
use Rattle.std.specs.List.{list_all}
use Rattle.std.specs.Str.{IsUtf8}
use Rattle.fix_num.specs.Decimal.{Decimal}
use Rattle.value_types.specs.Properties.{property_named}
use Rattle.value_types.specs.declared.property.PropertyId.{PropertyId}
use Rattle.script_text.specs.Forms.{IsNumeral, IsParentWord, IsTimeWord, is_script_name}
use Rattle.script_text.specs.Words.{AreSpaceBytes, HasWords}

-- what a line says: its numbers without bounds, and its time as the decimal that is written
pub data Statement : Type 0 where
  Nothing : Statement
  Add : ℕ → Option ℕ → List ℕ → Statement
  Insert : ℕ → ℕ → List ℕ → Statement
  Remove : ℕ → Statement
  Id : ℕ → Option (List ℕ) → Statement
  Class : ℕ → List (List ℕ) → Statement
  Style : ℕ → List ℕ → Statement
  Sheet : ℕ → List ℕ → Statement
  At : Decimal → Statement
  Frame : Statement
  Get : ℕ → PropertyId → Statement
  Listing : ℕ → Statement

-- these words with this text say that
abbrev pub Says : List (List ℕ) → List ℕ → Statement → Type 0
Says words text Nothing = ⊥
Says words text (Add n parent tag) =
    (number : List ℕ) × (above : List ℕ) × (words ≡ codes "add" ∷ number ∷ above ∷ tag ∷ []) × (text ≡ [])
    × IsNumeral number n × IsParentWord above parent × IsTrue (is_script_name tag)
Says words text (Insert n sibling tag) =
    (number : List ℕ) × (next : List ℕ) × (words ≡ codes "insert" ∷ number ∷ next ∷ tag ∷ []) × (text ≡ [])
    × IsNumeral number n × IsNumeral next sibling × IsTrue (is_script_name tag)
Says words text (Remove n) = (number : List ℕ) × (words ≡ codes "remove" ∷ number ∷ []) × (text ≡ []) × IsNumeral number n
Says words text (Id n None) = (number : List ℕ) × (words ≡ codes "id" ∷ number ∷ []) × (text ≡ []) × IsNumeral number n
Says words text (Id n (Some name)) =
    (number : List ℕ) × (words ≡ codes "id" ∷ number ∷ name ∷ []) × (text ≡ []) × IsNumeral number n × IsTrue (is_script_name name)
Says words text (Class n names) =
    (number : List ℕ) × (words ≡ codes "class" ∷ number ∷ names) × (text ≡ []) × IsNumeral number n × IsTrue (list_all is_script_name names)
Says words text (Style n style) = (number : List ℕ) × (words ≡ codes "style" ∷ number ∷ []) × (text ≡ style) × IsNumeral number n
Says words text (Sheet k sheet) = (number : List ℕ) × (words ≡ codes "sheet" ∷ number ∷ []) × (text ≡ sheet) × IsNumeral number k
Says words text (At time) = (word : List ℕ) × (words ≡ codes "at" ∷ word ∷ []) × (text ≡ []) × IsTimeWord word time
Says words text Frame = (words ≡ codes "frame" ∷ []) × (text ≡ [])
Says words text (Get n p) =
    (number : List ℕ) × (name : List ℕ) × (words ≡ codes "get" ∷ number ∷ name ∷ []) × (text ≡ []) × IsNumeral number n × (property_named name ≡ Some p)
Says words text (Listing n) = (number : List ℕ) × (words ≡ codes "list" ∷ number ∷ []) × (text ≡ []) × IsNumeral number n

-- after spaces the line is at its end, or '#' stands there and anything after it
abbrev pub IsBlank : List ℕ → Type 0
IsBlank line = (front : List ℕ) × (rest : List ℕ) × AreSpaceBytes front × (line ≡ front ++ rest) × ((rest ≡ []) ⊎ ((comment : List ℕ) × (rest ≡ 35 ∷ comment)))

-- the line says that: a blank one says nothing, and any other is UTF-8
abbrev pub IsStatement : List ℕ → Statement → Type 0
IsStatement line statement =
    (IsBlank line × (statement ≡ Nothing))
    ⊎ (IsUtf8 line × ((words : List (List ℕ)) × (text : List ℕ) × HasWords line words text × Says words text statement))
