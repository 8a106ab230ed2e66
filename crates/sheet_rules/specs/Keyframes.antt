-- Keyframes rules as they are written (CSS Animations 1, section 3, "Keyframes").
use Rattle.std.specs.Prelude.{ℕ, ◌+◌, ◌-◌, zero, suc, nat_lt, if◌then◌else◌, List, [], ◌∷◌, ◌++◌, drop, length, take, Option, None, Some, Result, Ok, Err}
use Rattle.css_token.specs.TokenLists.{bytes_of}
use Rattle.css_token.specs.declared.token.Kind.{Kind}
use Rattle.css_token.specs.declared.token.Kind.TheVariants as kind
use Rattle.css_token.specs.declared.token.Token.{Token}
use Rattle.fix_num.specs.declared.units.Bill.{Bill}
use Rattle.token_parts.specs.Parts.{TokenPart, token_parts_of}
use Rattle.value_types.specs.declared.frame.Frame.{Frame}
use Rattle.sheet_rules.specs.declared.block_kind.BlockKind.TheVariants.{Keyframe}
use Rattle.sheet_rules.specs.declared.fault.BoundName.TheVariants as bound
use Rattle.sheet_rules.specs.declared.fault.CssFault.{CssFault}
use Rattle.sheet_rules.specs.declared.fault.CssFault.TheVariants.{BadToken, UnsupportedRule, Bound}
use Rattle.sheet_types.specs.declared.rule.KeyframesRule.{KeyframesRule}
use Rattle.sheet_rules.specs.Blocks.{block_at}
use Rattle.sheet_rules.specs.Declarations.{is_ident, solid}
use Rattle.sheet_rules.specs.Faults.{◌>>=◌}
use Rattle.sheet_rules.specs.Frames.{easing_of, offsets_of, put_blocks}
use Rattle.sheet_rules.specs.Scanning.{after_spaces, place_of, prelude_len}

-- a `{`, which is wanted
abbrev pub wanted : ℕ → Option ℕ → Result ℕ CssFault
wanted end (Some count) = Ok count
wanted end None = Err (BadToken end)

-- what is of the form of a rule's part, which is told at the place where it isn't
abbrev pub supported : {A : Type 0} → ℕ → Option A → Result A CssFault
supported at (Some x) = Ok x
supported at None = Err (UnsupportedRule at)

-- no more offsets than so many
abbrev pub limited : ℕ → ℕ → List Bill → Result (List Bill) CssFault
limited left at offsets = if nat_lt left (length offsets) then Err (Bound bound.Offsets at) else Ok offsets

-- the offsets that the parts spell, told at the place
abbrev pub offsets_in : ℕ → ℕ → List TokenPart → Result (List Bill) CssFault
offsets_in left at parts = supported at (offsets_of parts) >>= limited left at

-- frames, how many offsets may follow, and the tokens after them
abbrev pub FramesFound : Type 0
FramesFound = Result (List Frame × ℕ × List Token) CssFault

-- the frames with those of the block at the front of the tokens, whose offsets stand first
unfoldable pub frame_at : List ℕ → ℕ → List Frame → List Token → FramesFound
frame_at text left frames ts = do
  count ← wanted (length text) (prelude_len ts)
  offsets ← offsets_in left (place_of (length text) ts) (token_parts_of text (take count ts))
  block ← block_at Keyframe text 0 64 (drop (count + 1) ts)
  Ok (put_blocks offsets (easing_of None block.0) block.0 frames, left - length offsets, block.1)

-- the tokens after a `}` at the front
abbrev pub closed_by_kind : Kind → List Token → Option (List Token)
closed_by_kind kind.CurlyClose ts = Some ts
closed_by_kind _ ts = None

abbrev pub after_close : List Token → Option (List Token)
after_close [] = None
after_close (t ∷ ts) = closed_by_kind t.kind ts

-- the frames are whole where the rule is closed, and else go on
abbrev pub closed_or : Option (List Token) → List Frame → Result (List Frame × List Token) CssFault
    → Result (List Frame × List Token) CssFault
closed_or (Some rest) frames others = Ok (frames, rest)
closed_or None frames others = others

-- the frames of a rule up to its `}`, and the tokens after it; each block takes an offset at least, so that so many blocks are
-- enough
unfoldable pub frames_at : List ℕ → ℕ → ℕ → List Frame → List Token → Result (List Frame × List Token) CssFault
frames_at text zero left frames ts = Err (BadToken (length text))
frames_at text (suc blocks) left frames ts =
    closed_or (after_close (after_spaces ts)) frames
    (frame_at text left frames (after_spaces ts) >>= (λ next. frames_at text blocks next.1 next.0 next.2))

-- a word alone, among solid tokens
abbrev pub lone_word : List Token → Option Token
lone_word (t ∷ []) = if is_ident t.kind then Some t else None
lone_word _ = None

-- the bytes of the word
abbrev pub named : List ℕ → Result Token CssFault → Result (List ℕ) CssFault
named text (Ok word) = Ok (bytes_of text word)
named text (Err fault) = Err fault

-- what follows the at-word of a keyframes rule: its name, its frames, and the tokens after it
unfoldable pub keyframes_at : List ℕ → ℕ → List Token → Result (List ℕ × List Frame × List Token) CssFault
keyframes_at text at ts = do
  count ← wanted (length text) (prelude_len ts)
  name ← named text (supported at (lone_word (solid (take count ts))))
  frames ← frames_at text 65 64 [] (drop (count + 1) ts)
  Ok (name, frames.0, frames.1)

-- a keyframes rule at its place among the rules of a sheet
abbrev pub keyframes_rule : List ℕ → List Frame → ℕ → KeyframesRule
keyframes_rule name frames place = record { name = name; frames = frames; place = place }

-- the rules with the one that was read, and the tokens after it
abbrev pub keyframes_after : List KeyframesRule → ℕ → Result (List ℕ × List Frame × List Token) CssFault
    → Result (List KeyframesRule × List Token) CssFault
keyframes_after rules place found = found >>= (λ f. Ok (rules ++ keyframes_rule f.0 f.1 place ∷ [], f.2))
