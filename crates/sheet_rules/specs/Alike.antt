-- Tokens that say the same in two texts, wherever they stand, and however long the white space is.
use Rattle.std.specs.Prelude.{◌≡◌, ℕ, ◌-◌, false, List, [], ◌∷◌}
use Rattle.css_token.specs.TokenLists.{LiesWithin, bytes_of}
use Rattle.css_token.specs.declared.token.Kind.{Kind}
use Rattle.css_token.specs.declared.token.Kind.TheVariants as kind
use Rattle.css_token.specs.declared.token.Token.{Token}
use Rattle.sheet_rules.specs.Scanning.{is_space}

-- the kind, without the place of a dimension's unit
abbrev pub bare_kind : Kind → Kind
bare_kind (kind.Dimension unit) = kind.Dimension 0
bare_kind k = k

-- how many bytes of a dimension stand before its unit
abbrev pub bytes_before_unit : Kind → ℕ → ℕ
bytes_before_unit (kind.Dimension unit) from = unit - from
bytes_before_unit _ from = 0

-- tokens of one kind, and of the same bytes unless they are white space
pub record IsAlike (text other : List ℕ) (t u : Token) : Type 0 where
  pub within : LiesWithin text t
  pub other_within : LiesWithin other u
  pub kind : bare_kind t.kind ≡ bare_kind u.kind
  pub unit : bytes_before_unit t.kind t.from ≡ bytes_before_unit u.kind u.from
  pub bytes : is_space t ≡ false → bytes_of text t ≡ bytes_of other u

-- one by one
abbrev pub AreAlike : List ℕ → List ℕ → List Token → List Token → Type 0
AreAlike text other [] [] = Unit {0}
AreAlike text other (t ∷ ts) (u ∷ us) = IsAlike text other t u × AreAlike text other ts us
AreAlike text other [] (u ∷ us) = ⊥
AreAlike text other (t ∷ ts) [] = ⊥
