-- A declaration's value, judged where its end is reached (CSS Cascade 5, section 6.3, "important declarations"; CSS Animations 1,
-- section 3, "keyframes").
use Rattle.std.specs.Prelude.{◌≡◌, ◌<◌, ℕ, ◌-◌, ◌&&◌, ◌||◌, nat_le, not, Bool, true, false, if◌then◌else◌, List, [], drop, filter, length, map, take, codes, slice_get, Option, None, Some, Result, Ok, Err}
use Rattle.std.specs.Option.{option_map_or}
use Rattle.css_token.specs.TokenLists.{bytes_of}
use Rattle.css_token.specs.declared.token.Kind.{Kind}
use Rattle.css_token.specs.declared.token.Kind.TheVariants as kind
use Rattle.css_token.specs.declared.token.Token.{Token}
use Rattle.token_parts.specs.Keywords.{is_keyword}
use Rattle.token_parts.specs.Parts.{token_parts_of}
use Rattle.token_parts.specs.declared.fault.ValueFault.{ValueFault}
use Rattle.token_parts.specs.declared.fault.ValueFault.TheVariants as value
use Rattle.value_types.specs.declared.list_value.ListName.TheVariants as list
use Rattle.value_types.specs.declared.property.PropertyId.TheVariants as property
use Rattle.value_types.specs.declared.shorthand.Shorthand.TheVariants as short
use Rattle.shorthand_text.specs.Declaring.{declared_of}
use Rattle.shorthand_text.specs.declared.known_name.KnownName.{KnownName}
use Rattle.shorthand_text.specs.declared.known_name.KnownName.TheVariants as known
use Rattle.shorthand_text.specs.declared.longhand.Longhand.{Longhand}
use Rattle.sheet_rules.specs.declared.block_kind.BlockKind.{BlockKind}
use Rattle.sheet_rules.specs.declared.block_kind.BlockKind.TheVariants.{Attribute, Style, Keyframe}
use Rattle.sheet_types.specs.declared.declaration.DeclarationParts.{DeclarationParts}
use Rattle.sheet_rules.specs.declared.fault.BoundName.TheVariants as bound
use Rattle.sheet_rules.specs.declared.fault.CssFault.{CssFault}
use Rattle.sheet_rules.specs.declared.fault.CssFault.TheVariants.{UnsupportedValue, Bound, NoMemory}
use Rattle.sheet_rules.specs.Scanning.{is_space}

-- ---- importance

-- the tokens but for spaces
abbrev pub solid : List Token → List Token
solid ts = filter (λ t. not (is_space t)) ts

abbrev pub is_delim : Kind → Bool
is_delim kind.Delim = true
is_delim _ = false

abbrev pub is_ident : Kind → Bool
is_ident kind.Ident = true
is_ident _ = false

-- `!`
abbrev pub is_mark : List ℕ → Token → Bool
is_mark text t = is_delim t.kind && is_keyword (bytes_of text t) (codes "!")

-- the word `important`
abbrev pub is_important : List ℕ → Token → Bool
is_important text t = is_ident t.kind && is_keyword (bytes_of text t) (codes "important")

-- the solid tokens end with `!important`
abbrev pub ends_important : List ℕ → List Token → Bool
ends_important text ts = nat_le 2 (length ts) && option_map_or (is_mark text) (slice_get ts (length ts - 2)) false
    && option_map_or (is_important text) (slice_get ts (length ts - 1)) false

-- the solid tokens without `!important` at their end
abbrev pub unmarked : List ℕ → List Token → List Token
unmarked text ts = if ends_important text ts then take (length ts - 2) ts else ts

-- the last solid token stands there, and nothing but spaces after it; none where all are spaces
abbrev pub IsLastSolid : List Token → Option ℕ → Type 0
IsLastSolid ts None = solid ts ≡ []
IsLastSolid ts (Some n) = (n < length ts) × (solid (drop n ts) ≡ take 1 (drop n ts))

-- an `!important` at the end begins there
abbrev pub IsMarkAt : List ℕ → List Token → Option ℕ → Type 0
IsMarkAt text ts None = ends_important text (solid ts) ≡ false
IsMarkAt text ts (Some n) = (ends_important text (solid ts) ≡ true) × (unmarked text (solid ts) ≡ solid (take n ts))

-- ---- what a block has no use for

-- what keyframes may animate
abbrev pub is_animatable : KnownName → Bool
is_animatable (known.Property property.Display) = false
is_animatable (known.Property p) = true
is_animatable (known.List list.AnimationEasing) = true
is_animatable (known.List n) = false
is_animatable (known.Short short.All) = false
is_animatable (known.Short s) = true
is_animatable known.Transition = false
is_animatable known.Animation = false

-- a declaration that is left out unread: in a keyframe an important one, and one of what keyframes don't animate
abbrev pub is_dropped : BlockKind → KnownName → Bool → Bool
is_dropped Attribute name important = false
is_dropped Style name important = false
is_dropped Keyframe name important = important || not (is_animatable name)

-- ---- what is declared

-- a fault of a value, told at the declaration's name
abbrev pub fault_at : KnownName → ℕ → ValueFault → CssFault
fault_at name at value.Unsupported = UnsupportedValue name at
fault_at name at value.BoundItems = Bound bound.Items at
fault_at name at value.Bound = Bound bound.Value at
fault_at name at value.NoMemory = NoMemory

-- a longhand, declared
abbrev pub declaration_of : ℕ → Bool → Longhand → DeclarationParts
declaration_of place important longhand = record { longhand = longhand; important = important; place = place }

-- all longhands are declared with one importance at one place
abbrev pub declarations_of : KnownName → ℕ → ℕ → Bool → Result (List Longhand) ValueFault
    → Result (List DeclarationParts) CssFault
declarations_of name at place important (Ok longhands) = Ok (map (declaration_of place important) longhands)
declarations_of name at place important (Err fault) = Err (fault_at name at fault)

-- what the tokens declare of a known name
abbrev pub read_as : ℕ → ℕ → Bool → List ℕ → List Token → KnownName → Result (List DeclarationParts) CssFault
read_as place at important text tokens name = declarations_of name at place important (declared_of name (token_parts_of text tokens))

-- what a declaration of a known name with this value gives the block
abbrev pub judged_as : BlockKind → ℕ → ℕ → List ℕ → List Token → KnownName → Result (List DeclarationParts) CssFault
judged_as block place at text tokens name =
    if is_dropped block name (ends_important text tokens) then Ok []
    else declarations_of name at place (ends_important text tokens)
    (declared_of name (token_parts_of text (unmarked text tokens)))

-- one of an unknown name is dropped
unfoldable pub judged : BlockKind → ℕ → ℕ → List ℕ → List Token → Option KnownName → Result (List DeclarationParts) CssFault
judged block place at text tokens None = Ok []
judged block place at text tokens (Some name) = judged_as block place at text tokens name
