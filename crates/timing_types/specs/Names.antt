-- Names that a user gives (CSS Values 4, "Author-defined Identifiers: the <custom-ident> type").
use Rattle.std.specs.Prelude.{ℕ, Bool, ◌&&◌, not, List, [], ◌∷◌, codes, IsTrue, Option, IfSome}
use Rattle.std.specs.List.{list_all, list_any}
use Rattle.std.specs.Str.{str_eq_ignore_ascii_case}
use Rattle.css_token.specs.Characters.{is_name}
use Rattle.css_token.specs.Productions.{IsIdentifier, begins_identifier}

-- the identifier `_`
abbrev pub underscore : List ℕ
underscore = codes "_"

-- the bytes that a name stands for: none stand for `_`
abbrev pub name_bytes : List ℕ → List ℕ
name_bytes [] = underscore
name_bytes (b ∷ bs) = b ∷ bs

-- the words that are no name of an animation: `none` and the keywords of the cascade
abbrev pub reserved_words : List (List ℕ)
reserved_words = codes "none" ∷ codes "initial" ∷ codes "inherit" ∷ codes "unset" ∷ []

-- the word is one of these, whatever the ASCII case of its letters
abbrev pub is_reserved : List ℕ → Bool
is_reserved word = list_any (str_eq_ignore_ascii_case word) reserved_words

-- the name of an animation: an identifier that isn't reserved
pub record IsAnimationName (name : List ℕ) : Type 0 where
  pub identifier : IsIdentifier name
  pub free : IsTrue (not (is_reserved name))

-- the same as a test
abbrev pub is_animation_name : List ℕ → Bool
is_animation_name name = begins_identifier name && list_all is_name name && not (is_reserved name)

-- an item of animation-name: such a name, or none
abbrev pub IsNameItem : Option (List ℕ) → Type 0
IsNameItem item = IfSome item IsAnimationName
