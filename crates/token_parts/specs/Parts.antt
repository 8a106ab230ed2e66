-- What the solid tokens of a text say (CSS Syntax Level 3, "Tokenization"), without their places.
use Rattle.std.specs.Prelude.{ℕ, ◌+◌, ◌-◌, List, slice_range, Option, None, Some, filter_map}
use Rattle.css_token.specs.declared.token.Kind.{Kind}
use Rattle.css_token.specs.declared.token.Kind.TheVariants as kind
use Rattle.css_token.specs.declared.token.Token.{Token}
use Rattle.token_parts.specs.declared.part.Part.{Part}
use Rattle.token_parts.specs.declared.part.Part.TheVariants as part

-- a solid token by what it says: a word; a function's name; a hash without `#`; a number; a percent's number; a
-- number and its unit; `,`; `)`; any other
pub data TokenPart : Type 0 where
  Ident : List ℕ → TokenPart
  Function : List ℕ → TokenPart
  Hash : List ℕ → TokenPart
  Number : List ℕ → TokenPart
  Percent : List ℕ → TokenPart
  Dimension : List ℕ → List ℕ → TokenPart
  Comma : TokenPart
  Close : TokenPart
  Other : TokenPart

-- what a part of the code says
abbrev pub token_part : Part → TokenPart
token_part (part.Ident word) = Ident word.now
token_part (part.Function name) = Function name.now
token_part (part.Hash name) = Hash name.now
token_part (part.Number number) = Number number.now
token_part (part.Percent number) = Percent number.now
token_part (part.Dimension number unit) = Dimension number.now unit.now
token_part part.Comma = Comma
token_part part.Close = Close
token_part part.Other = Other

-- what a token of that kind from one place to another says; a space says nothing
abbrev pub token_part_at : List ℕ → Kind → ℕ → ℕ → Option TokenPart
token_part_at text kind.Space from to = None
token_part_at text kind.Ident from to = Some (Ident (slice_range text from to))
token_part_at text kind.Function from to = Some (Function (slice_range text from (to - 1)))
token_part_at text kind.Hash from to = Some (Hash (slice_range text (from + 1) to))
token_part_at text kind.Number from to = Some (Number (slice_range text from to))
token_part_at text kind.Percent from to = Some (Percent (slice_range text from (to - 1)))
token_part_at text (kind.Dimension unit) from to = Some (Dimension (slice_range text from unit) (slice_range text unit to))
token_part_at text kind.Comma from to = Some Comma
token_part_at text kind.RoundClose from to = Some Close
token_part_at text _ from to = Some Other

-- what the tokens of a text say, in order, with spaces left out
abbrev pub token_parts_of : List ℕ → List Token → List TokenPart
token_parts_of text tokens = filter_map (λ (t : Token). token_part_at text t.kind t.from t.to) tokens
