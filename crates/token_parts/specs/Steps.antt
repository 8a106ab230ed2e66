-- Steps of readers that may find nothing.
use Rattle.std.specs.Prelude.{List, ◌∷◌, Option, None, Some}
use Rattle.token_parts.specs.Parts.{TokenPart, Comma}

infixl 10 ◌>>=◌
-- the next step of what is there, and nothing where nothing is
abbrev pub ◌>>=◌ : {A B : Type 0} → Option A → (A → Option B) → Option B
None >>= f = None
(Some x) >>= f = f x

-- what stands after a comma
abbrev pub after_comma : List TokenPart → Option (List TokenPart)
after_comma (Comma ∷ ps) = Some ps
after_comma _ = None
