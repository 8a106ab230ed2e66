-- What tokens say to a reader of selectors.
use Rattle.std.specs.Prelude.{ℕ, ◌+◌, ◌==◌, ◌&&◌, Bool, true, false, List, map, slice_range, slice_index, if◌then◌else◌}
use Rattle.std.specs.List.{list_all}
use Rattle.css_token.specs.Characters.{is_name}
use Rattle.css_token.specs.Productions.{begins_identifier}
use Rattle.css_token.specs.declared.token.Kind.{Kind}
use Rattle.css_token.specs.declared.token.Kind.TheVariants as kind
use Rattle.css_token.specs.declared.token.Token.{Token}
use Rattle.selectors_mini.specs.declared.part.Part.{Part}
use Rattle.selectors_mini.specs.declared.part.Part.TheVariants as part

-- a token by what it says: an identifier; the identifier after a `#`; `.`; `*`; `>`; `,`; spaces; any other
pub data SelectorPart : Type 0 where
  Word : List ℕ → SelectorPart
  Hash : List ℕ → SelectorPart
  Dot : SelectorPart
  Star : SelectorPart
  Greater : SelectorPart
  Comma : SelectorPart
  Space : SelectorPart
  Other : SelectorPart

-- a hash by its name, where that is an identifier
abbrev pub hash_part : List ℕ → SelectorPart
hash_part name = if begins_identifier name && list_all is_name name then Hash name else Other

-- the character that stands alone
abbrev pub delim_part : ℕ → SelectorPart
delim_part b = if b == 46 then Dot else (if b == 42 then Star else (if b == 62 then Greater else Other))

-- what a token of that kind from one place to another says
abbrev pub part_at : List ℕ → Kind → ℕ → ℕ → SelectorPart
part_at text kind.Ident from to = Word (slice_range text from to)
part_at text kind.Hash from to = hash_part (slice_range text (from + 1) to)
part_at text kind.Delim from to = delim_part (slice_index text from)
part_at text kind.Comma from to = Comma
part_at text kind.Space from to = Space
part_at text _ from to = Other

-- the kind of a comma
abbrev pub is_comma_kind : Kind → Bool
is_comma_kind kind.Comma = true
is_comma_kind _ = false

-- what each token of the text says
abbrev pub parts_of : List ℕ → List Token → List SelectorPart
parts_of text tokens = map (λ (t : Token). part_at text t.kind t.from t.to) tokens

-- a part as the code has it
abbrev pub part_of_code : Part → SelectorPart
part_of_code (part.Word name) = Word name.now
part_of_code (part.Hash name) = Hash name.now
part_of_code part.Dot = Dot
part_of_code part.Star = Star
part_of_code part.Greater = Greater
part_of_code part.Comma = Comma
part_of_code part.Space = Space
part_of_code part.Other = Other
