-- Rules by the grammar (CSS Syntax 3, "consume a qualified rule"; CSS Animations 1, section 3, "Keyframes"), and the first fault
-- of one.
use Rattle.std.specs.Prelude.{◌≡◌, ℕ, ◌+◌, ◌<◌, ◌≤◌, true, false, List, [], ◌∷◌, ◌++◌, codes, drop, length, take, None, Some, Ok, Err}
use Rattle.css_token.specs.TokenLists.{bytes_of}
use Rattle.css_token.specs.declared.token.Token.{Token}
use Rattle.fix_num.specs.declared.units.Bill.{Bill}
use Rattle.selectors_mini.specs.Compounds.{CompoundSelector}
use Rattle.selectors_mini.specs.Parts.{parts_of}
use Rattle.selectors_mini.specs.Reading.{selectors_of}
use Rattle.selectors_mini.specs.declared.reading.SelectorFault.{SelectorFault}
use Rattle.sheet_types.specs.Sheets.{SheetRules}
use Rattle.sheet_types.specs.declared.declaration.DeclarationParts.{DeclarationParts}
use Rattle.token_parts.specs.Keywords.{is_keyword}
use Rattle.token_parts.specs.Parts.{token_parts_of}
use Rattle.value_types.specs.declared.frame.Frame.{Frame}
use Rattle.sheet_rules.specs.declared.block_kind.BlockKind.TheVariants.{Keyframe, Style}
use Rattle.sheet_rules.specs.declared.fault.BoundName.TheVariants as bound
use Rattle.sheet_rules.specs.declared.fault.CssFault.{CssFault}
use Rattle.sheet_rules.specs.declared.fault.CssFault.TheVariants.{BadToken, UnsupportedRule, Bound}
use Rattle.sheet_rules.specs.BlockGrammar.{IsBlock, IsFaultyBlock}
use Rattle.sheet_rules.specs.Declarations.{solid}
use Rattle.sheet_rules.specs.Frames.{easing_of, offsets_of, put_blocks}
use Rattle.sheet_rules.specs.Keyframes.{after_close, keyframes_rule, lone_word}
use Rattle.sheet_rules.specs.Rules.{is_at_word, prelude_fault, style_rule}
use Rattle.sheet_rules.specs.Scanning.{after_spaces, place_of, prelude_len}

-- ---- keyframe blocks

-- offsets up to a `{`, no more than 64 with those of the rule's blocks before, and then a block
pub record IsKeyframe (text : List ℕ) (used : ℕ) (ts : List Token) (offsets : List Bill) (declared : List DeclarationParts)
    (rest : List Token) : Type 0 where
  pub count : ℕ
  pub prelude : prelude_len ts ≡ Some count
  pub spelled : offsets_of (token_parts_of text (take count ts)) ≡ Some offsets
  pub few : used + length offsets ≤ 64
  pub is_block : IsBlock Keyframe text 0 (drop (count + 1) ts) declared rest

-- the first fault of one: no `{`, else its offsets, told where they begin, else its block
pub data IsFaultyKeyframe (text : List ℕ) (used : ℕ) (ts : List Token) : CssFault → Type 0 where
  no_brace : prelude_len ts ≡ None → IsFaultyKeyframe text used ts (BadToken (length text))
  unsupported : (count : ℕ) → prelude_len ts ≡ Some count → offsets_of (token_parts_of text (take count ts)) ≡ None
      → IsFaultyKeyframe text used ts (UnsupportedRule (place_of (length text) ts))
  too_many : (count : ℕ) (offsets : List Bill) → prelude_len ts ≡ Some count
      → offsets_of (token_parts_of text (take count ts)) ≡ Some offsets → 64 < used + length offsets
      → IsFaultyKeyframe text used ts (Bound bound.Offsets (place_of (length text) ts))
  faulty : (count : ℕ) (offsets : List Bill) (fault : CssFault) → prelude_len ts ≡ Some count
      → offsets_of (token_parts_of text (take count ts)) ≡ Some offsets
      → used + length offsets ≤ 64 → IsFaultyBlock Keyframe text 0 (drop (count + 1) ts) fault
      → IsFaultyKeyframe text used ts fault

-- the blocks of a rule up to its `}`: what they make of the frames before
pub data IsKeyframes (text : List ℕ) : ℕ → List Frame → List Token → List Frame → List Token → Type 0 where
  closed : (used : ℕ) (frames : List Frame) (ts rest : List Token) → after_close (after_spaces ts) ≡ Some rest
      → IsKeyframes text used frames ts frames rest
  keyframe : (used : ℕ) (frames : List Frame) (ts : List Token) (offsets : List Bill) (declared : List DeclarationParts)
      (next : List Token) (made : List Frame) (rest : List Token)
      → after_close (after_spaces ts) ≡ None → IsKeyframe text used (after_spaces ts) offsets declared next
      → IsKeyframes text (used + length offsets) (put_blocks offsets (easing_of None declared) declared frames) next made rest
      → IsKeyframes text used frames ts made rest

pub data IsFaultyKeyframes (text : List ℕ) : ℕ → List Token → CssFault → Type 0 where
  here : (used : ℕ) (ts : List Token) (fault : CssFault) → after_close (after_spaces ts) ≡ None
      → IsFaultyKeyframe text used (after_spaces ts) fault
      → IsFaultyKeyframes text used ts fault
  later : (used : ℕ) (ts : List Token) (offsets : List Bill) (declared : List DeclarationParts) (next : List Token)
      (fault : CssFault) → after_close (after_spaces ts) ≡ None
      → IsKeyframe text used (after_spaces ts) offsets declared next → IsFaultyKeyframes text (used + length offsets) next fault
      → IsFaultyKeyframes text used ts fault

-- ---- keyframes rules

-- after the at-word a name alone up to a `{`, and then keyframe blocks
pub record IsKeyframesRule (text : List ℕ) (ts : List Token) (name : List ℕ) (frames : List Frame)
    (rest : List Token) : Type 0 where
  pub count : ℕ
  pub prelude : prelude_len ts ≡ Some count
  pub word : Token
  pub alone : lone_word (solid (take count ts)) ≡ Some word
  pub named : name ≡ bytes_of text word
  pub blocks : IsKeyframes text 0 [] (drop (count + 1) ts) frames rest

-- the first fault of one, whose at-word stands at the place
pub data IsFaultyKeyframesRule (text : List ℕ) (at : ℕ) (ts : List Token) : CssFault → Type 0 where
  no_brace : prelude_len ts ≡ None → IsFaultyKeyframesRule text at ts (BadToken (length text))
  unnamed : (count : ℕ) → prelude_len ts ≡ Some count → lone_word (solid (take count ts)) ≡ None
      → IsFaultyKeyframesRule text at ts (UnsupportedRule at)
  faulty : (count : ℕ) (word : Token) (fault : CssFault) → prelude_len ts ≡ Some count
      → lone_word (solid (take count ts)) ≡ Some word
      → IsFaultyKeyframes text 0 (drop (count + 1) ts) fault → IsFaultyKeyframesRule text at ts fault

-- ---- style rules

-- selectors up to a `{`, and then a block
pub record IsStyleRule (text : List ℕ) (ts : List Token) (selectors : List (List CompoundSelector))
    (declared : List DeclarationParts) (rest : List Token) : Type 0 where
  pub count : ℕ
  pub prelude : prelude_len ts ≡ Some count
  pub spelled : selectors_of (parts_of text (take count ts)) ≡ Ok selectors
  pub is_block : IsBlock Style text 0 (drop (count + 1) ts) declared rest

-- the first fault of one, whose first token stands at the place
pub data IsFaultyStyleRule (text : List ℕ) (at : ℕ) (ts : List Token) : CssFault → Type 0 where
  no_brace : prelude_len ts ≡ None → IsFaultyStyleRule text at ts (BadToken (length text))
  unsupported : (count : ℕ) (fault : SelectorFault) → prelude_len ts ≡ Some count
      → selectors_of (parts_of text (take count ts)) ≡ Err fault
      → IsFaultyStyleRule text at ts (prelude_fault at fault)
  faulty : (count : ℕ) (selectors : List (List CompoundSelector)) (fault : CssFault) → prelude_len ts ≡ Some count
      → selectors_of (parts_of text (take count ts)) ≡ Ok selectors
      → IsFaultyBlock Style text 0 (drop (count + 1) ts) fault → IsFaultyStyleRule text at ts fault

-- ---- a sheet's rules

-- a rule at the front of the tokens, which begin with t: what it makes of the sheet, at the place among its rules
pub data IsRule (text : List ℕ) (place : ℕ) (sheet : SheetRules) (t : Token) (ts : List Token) : SheetRules → List Token
    → Type 0 where
  style : (selectors : List (List CompoundSelector)) (declared : List DeclarationParts) (rest : List Token)
      → is_at_word t.kind ≡ false
      → IsStyleRule text ts selectors declared rest
      → IsRule text place sheet t ts (record sheet { rules = sheet.rules ++ style_rule selectors declared place ∷ [] }) rest
  keyframes : (name : List ℕ) (frames : List Frame) (rest : List Token) → is_at_word t.kind ≡ true
      → is_keyword (bytes_of text t) (codes "@keyframes") ≡ true
      → IsKeyframesRule text (drop 1 ts) name frames rest
      → IsRule text place sheet t ts (record sheet { keyframes = sheet.keyframes ++ keyframes_rule name frames place ∷ [] }) rest

-- the first fault of one
pub data IsFaultyRule (text : List ℕ) (t : Token) (ts : List Token) : CssFault → Type 0 where
  at_word : is_at_word t.kind ≡ true → is_keyword (bytes_of text t) (codes "@keyframes") ≡ false
      → IsFaultyRule text t ts (UnsupportedRule t.from)
  keyframes : (fault : CssFault) → is_at_word t.kind ≡ true → is_keyword (bytes_of text t) (codes "@keyframes") ≡ true
      → IsFaultyKeyframesRule text t.from (drop 1 ts) fault → IsFaultyRule text t ts fault
  style : (fault : CssFault) → is_at_word t.kind ≡ false → IsFaultyStyleRule text t.from ts fault → IsFaultyRule text t ts fault
