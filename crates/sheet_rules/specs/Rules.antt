-- Sheets (CSS Syntax 3, "consume a list of rules" and "consume a qualified rule").
use Rattle.std.specs.Prelude.{ℕ, ◌+◌, zero, suc, Bool, true, false, if◌then◌else◌, List, [], ◌∷◌, ◌++◌, codes, drop, length, take, Option, None, Some, Result, Ok, Err}
use Rattle.css_token.specs.Reading.{tokens_of}
use Rattle.css_token.specs.TokenLists.{bytes_of}
use Rattle.css_token.specs.declared.token.Kind.{Kind}
use Rattle.css_token.specs.declared.token.Kind.TheVariants as kind
use Rattle.css_token.specs.declared.token.Token.{Token}
use Rattle.css_token.specs.declared.tokenizer.TokenFault.{TokenFault}
use Rattle.css_token.specs.declared.tokenizer.TokenFault.TheVariants as token
use Rattle.token_parts.specs.Keywords.{is_keyword}
use Rattle.selectors_mini.specs.Compounds.{CompoundSelector}
use Rattle.selectors_mini.specs.Parts.{parts_of}
use Rattle.selectors_mini.specs.Reading.{selectors_of}
use Rattle.selectors_mini.specs.declared.reading.SelectorFault.{SelectorFault}
use Rattle.selectors_mini.specs.declared.reading.SelectorFault.TheVariants as selector
use Rattle.sheet_rules.specs.declared.block_kind.BlockKind.TheVariants.{Attribute, Style}
use Rattle.sheet_types.specs.declared.declaration.DeclarationParts.{DeclarationParts}
use Rattle.sheet_rules.specs.declared.fault.BoundName.TheVariants as bound
use Rattle.sheet_rules.specs.declared.fault.CssFault.{CssFault}
use Rattle.sheet_rules.specs.declared.fault.CssFault.TheVariants.{BadToken, UnsupportedRule, Bound, NoMemory}
use Rattle.sheet_types.specs.declared.rule.KeyframesRule.{KeyframesRule}
use Rattle.sheet_types.specs.declared.rule.Rule.{Rule}
use Rattle.sheet_types.specs.Sheets.{SheetRules, no_rules}
use Rattle.sheet_rules.specs.Blocks.{block_at}
use Rattle.sheet_rules.specs.Faults.{◌>>=◌}
use Rattle.sheet_rules.specs.Keyframes.{keyframes_after, keyframes_at, wanted}
use Rattle.sheet_rules.specs.Scanning.{after_spaces, prelude_len}

-- ---- style rules

-- a fault of a prelude, told at the rule's first token
abbrev pub prelude_fault : ℕ → SelectorFault → CssFault
prelude_fault at selector.Unsupported = UnsupportedRule at
prelude_fault at selector.BoundSelectors = Bound bound.Selectors at
prelude_fault at selector.BoundCompounds = Bound bound.Compounds at
prelude_fault at selector.NoMemory = NoMemory

-- the selectors of a prelude
abbrev pub selectors_at : ℕ → Result (List (List CompoundSelector)) SelectorFault → Result (List (List CompoundSelector)) CssFault
selectors_at at (Ok selectors) = Ok selectors
selectors_at at (Err fault) = Err (prelude_fault at fault)

abbrev pub style_rule : List (List CompoundSelector) → List DeclarationParts → ℕ → Rule
style_rule selectors declarations place = record { selectors = selectors; declarations = declarations; place = place }

-- a style rule whose first token stands at the place in the text, and the tokens after it
unfoldable pub rule_at : List ℕ → ℕ → ℕ → List Token → Result (Rule × List Token) CssFault
rule_at text place at ts = do
  count ← wanted (length text) (prelude_len ts)
  selectors ← selectors_at at (selectors_of (parts_of text (take count ts)))
  block ← block_at Style text 0 64 (drop (count + 1) ts)
  Ok (style_rule selectors block.0 place, block.1)

-- the rules with the one that was read, and the tokens after it
abbrev pub rule_after : List Rule → Result (Rule × List Token) CssFault → Result (List Rule × List Token) CssFault
rule_after rules found = found >>= (λ f. Ok (rules ++ f.0 ∷ [], f.1))

-- ---- sheets

-- those rules, and the tokens after them
abbrev pub RulesFound : Type 0
RulesFound = Result (SheetRules × List Token) CssFault

abbrev pub with_style : SheetRules → Result (List Rule × List Token) CssFault → RulesFound
with_style sheet found = found >>= (λ f. Ok (record sheet { rules = f.0 }, f.1))

abbrev pub with_keyframes : SheetRules → Result (List KeyframesRule × List Token) CssFault → RulesFound
with_keyframes sheet found = found >>= (λ f. Ok (record sheet { keyframes = f.0 }, f.1))

abbrev pub is_at_word : Kind → Bool
is_at_word kind.AtWord = true
is_at_word _ = false

-- the sheet with the rule at the front of the tokens, at the place among its rules: one of keyframes begins with their at-word,
-- and no other at-word begins a rule
unfoldable pub item_at : List ℕ → ℕ → SheetRules → Token → List Token → RulesFound
item_at text place sheet t ts =
    if is_at_word t.kind then
    (if is_keyword (bytes_of text t) (codes "@keyframes") then
    with_keyframes sheet (keyframes_after sheet.keyframes place (keyframes_at text t.from (drop 1 ts)))
    else Err (UnsupportedRule t.from))
    else with_style sheet (rule_after sheet.rules (rule_at text place t.from ts))

-- the first token, where there is one
abbrev pub first_of : List Token → Option Token
first_of [] = None
first_of (t ∷ ts) = Some t

-- the sheet is whole where no token is left, and else goes on with the token
abbrev pub whole_or : SheetRules → Option Token → (Token → Result SheetRules CssFault) → Result SheetRules CssFault
whole_or sheet None begun = Ok sheet
whole_or sheet (Some t) begun = begun t

-- the sheet with the rules of the tokens, from the place on, of which so many more may come
unfoldable pub sheet_at : List ℕ → ℕ → ℕ → SheetRules → List Token → Result SheetRules CssFault
sheet_at text place zero sheet ts = whole_or sheet (first_of (after_spaces ts)) (λ t. Err (Bound bound.Rules t.from))
sheet_at text place (suc left) sheet ts = whole_or sheet (first_of (after_spaces ts))
    (λ t. item_at text place sheet t (after_spaces ts) >>= (λ next. sheet_at text (place + 1) left next.0 next.1))

-- a bad token's fault
abbrev pub token_fault : TokenFault → CssFault
token_fault (token.BadToken at) = BadToken at
token_fault token.NoMemory = NoMemory

-- what the tokens of a text give; a bad token is the fault of the whole text
abbrev pub of_tokens : {A : Type 0} → (List Token → Result A CssFault) → Result (List Token) ℕ → Result A CssFault
of_tokens reading (Ok tokens) = reading tokens
of_tokens reading (Err at) = Err (BadToken at)

-- the sheet that a text is, or its first fault
abbrev pub sheet_of : List ℕ → Result SheetRules CssFault
sheet_of text = of_tokens (sheet_at text 0 4096 no_rules) (tokens_of text)

-- the declarations that a style attribute is, or its first fault
abbrev pub declarations_in : List ℕ → Result (List DeclarationParts) CssFault
declarations_in text = of_tokens (λ ts. block_at Attribute text 0 64 ts >>= (λ block. Ok block.0)) (tokens_of text)
