-- Keywords, and tables of them (CSS Values 4, "Pre-defined Keywords").
use Rattle.std.specs.Prelude.{ℕ, Bool, List, [], ◌∷◌, if◌then◌else◌, Option, None, Some}
use Rattle.std.specs.Str.{str_eq_ignore_ascii_case}

-- the word is this keyword, whatever the ASCII case of either
abbrev pub is_keyword : List ℕ → List ℕ → Bool
is_keyword word keyword = str_eq_ignore_ascii_case word keyword

-- the value of the first row of this name
abbrev pub look_up : {V : Type 0} → List (List ℕ × V) → List ℕ → Option V
look_up [] word = None
look_up (row ∷ rows) word = (if is_keyword word row.0 then Some row.1 else look_up rows word)
