-- The reading of a sheet is what the grammar says, or its first fault.
use Rattle.std.proofs.Common.{◌≡◌, ℕ, zero, suc, ◌+◌, ◌<◌, ◌≤◌, Bool, true, false, List, [], ◌∷◌, ◌++◌, codes, drop, length, take, refl, ap, sym, ◌∙◌, subst, ◌⊎◌, inl, inr, arith}
use Rattle.std.specs.Prelude.{Option, None, Some, Result, Ok, Err, if◌then◌else◌}
use Rattle.css_token.specs.Reading.{tokens_of}
use Rattle.css_token.specs.TokenLists.{bytes_of}
use Rattle.css_token.specs.declared.token.Token.{Token}
use Rattle.selectors_mini.specs.Compounds.{CompoundSelector}
use Rattle.selectors_mini.specs.Parts.{parts_of}
use Rattle.selectors_mini.specs.Reading.{selectors_of}
use Rattle.selectors_mini.specs.declared.reading.SelectorFault.{SelectorFault}
use Rattle.token_parts.specs.Keywords.{is_keyword}
use Rattle.sheet_types.specs.Sheets.{SheetRules, no_rules}
use Rattle.sheet_types.specs.declared.rule.Rule.{Rule}
use Rattle.sheet_types.specs.declared.declaration.DeclarationParts.{DeclarationParts}
use Rattle.sheet_rules.specs.declared.block_kind.BlockKind.TheVariants.{Style}
use Rattle.sheet_rules.specs.declared.fault.BoundName.TheVariants as bound
use Rattle.sheet_rules.specs.declared.fault.CssFault.{CssFault}
use Rattle.sheet_rules.specs.declared.fault.CssFault.TheVariants.{UnsupportedRule, Bound}
use Rattle.sheet_rules.specs.Blocks.{Found, block_at}
use Rattle.sheet_rules.specs.Faults.{◌>>=◌}
use Rattle.sheet_rules.specs.Keyframes.{keyframes_after, keyframes_at, wanted}
use Rattle.sheet_rules.specs.RuleGrammar.{IsFaultyKeyframesRule, IsFaultyRule, IsFaultyStyleRule, IsKeyframesRule, IsRule, IsStyleRule}
use Rattle.sheet_rules.specs.RuleGrammar as grammar
use Rattle.sheet_rules.specs.Rules.{RulesFound, first_of, is_at_word, item_at, of_tokens, rule_after, rule_at, selectors_at, sheet_at, sheet_of, style_rule, whole_or, with_keyframes, with_style}
use Rattle.sheet_rules.specs.Scanning.{after_spaces, prelude_len}
use Rattle.sheet_rules.specs.SheetGrammar.{AreFaultyRules, AreRules, IsFaultySheet, IsSheet}
use Rattle.sheet_rules.specs.SheetGrammar as sheets
use Rattle.sheet_rules.proofs.BlockReadings.{BlockSays, block_is_read, block_says, faulty_block_is_read}
use Rattle.sheet_rules.proofs.KeyframesReadings.{KeyframesRuleSays, RuleFound, faulty_keyframes_rule_is_read, keyframes_rule_is_read, keyframes_rule_says}
use Rattle.sheet_rules.proofs.SheetLemmas.{sheet_more, sheet_none}

-- ---- style rules

module _ (text : List ℕ) (place at : ℕ) (ts : List Token) where
  abbrev pub StyleFound : Type 0
  StyleFound = Result (Rule × List Token) CssFault

  abbrev blocked : List (List CompoundSelector) → Found → StyleFound
  blocked selectors block = block >>= (λ b. Ok (style_rule selectors b.0 place, b.1))

  abbrev selected : ℕ → Result (List (List CompoundSelector)) CssFault → StyleFound
  selected count selectors = selectors >>= (λ ss. blocked ss (block_at Style text 0 64 (drop (count + 1) ts)))

  abbrev opened : Result ℕ CssFault → StyleFound
  opened count = count >>= (λ n. selected n (selectors_at at (selectors_of (parts_of text (take n ts)))))

  style_parts : rule_at text place at ts ≡ opened (wanted (length text) (prelude_len ts))
  unfolding rule_at
  style_parts = refl

  abbrev pub StyleSays : StyleFound → Type 0
  StyleSays (Ok found) = (selectors : List (List CompoundSelector)) × (declared : List DeclarationParts) × IsStyleRule text ts selectors declared found.1
      × (found.0 ≡ style_rule selectors declared place)
  StyleSays (Err fault) = IsFaultyStyleRule text at ts fault

  of_block : (count : ℕ) (selectors : List (List CompoundSelector)) → prelude_len ts ≡ Some count → selectors_of (parts_of text (take count ts)) ≡ Ok selectors → (r : Found)
      → BlockSays Style text 0 (drop (count + 1) ts) r → StyleSays (blocked selectors r)
  of_block count selectors prelude spelled (Ok found) h = (selectors, found.0, record { count = count; prelude = prelude; spelled = spelled; is_block = h }, refl)
  of_block count selectors prelude spelled (Err fault) h = grammar.faulty count selectors fault prelude spelled h

  of_selectors : (count : ℕ) → prelude_len ts ≡ Some count → (r : Result (List (List CompoundSelector)) SelectorFault) → selectors_of (parts_of text (take count ts)) ≡ r
      → StyleSays (selected count (selectors_at at r))
  of_selectors count prelude (Ok selectors) spelled =
      of_block count selectors prelude spelled (block_at Style text 0 64 (drop (count + 1) ts)) (block_says Style text 64 0 (drop (count + 1) ts) refl)
  of_selectors count prelude (Err fault) spelled = grammar.unsupported count fault prelude spelled

  of_prelude : (o : Option ℕ) → prelude_len ts ≡ o → StyleSays (opened (wanted (length text) o))
  of_prelude None prelude = grammar.no_brace prelude
  of_prelude (Some count) prelude = of_selectors count prelude (selectors_of (parts_of text (take count ts))) refl

  style_says : StyleSays (rule_at text place at ts)
  style_says = subst StyleSays (sym style_parts) (of_prelude (prelude_len ts) refl)

  begun : (count : ℕ) (r : Result (List (List CompoundSelector)) SelectorFault) → prelude_len ts ≡ Some count → selectors_of (parts_of text (take count ts)) ≡ r
      → rule_at text place at ts ≡ selected count (selectors_at at r)
  begun count r prelude spelled = style_parts ∙ ap (λ o. opened (wanted (length text) o)) prelude ∙ ap (λ s. selected count (selectors_at at s)) spelled

  style_is_read : (selectors : List (List CompoundSelector)) (declared : List DeclarationParts) (rest : List Token) → IsStyleRule text ts selectors declared rest
      → rule_at text place at ts ≡ Ok (style_rule selectors declared place, rest)
  style_is_read selectors declared rest h = begun h.count (Ok selectors) h.prelude h.spelled ∙ ap (blocked selectors) (block_is_read Style text h.is_block 64 refl)

  faulty_style_is_read : (fault : CssFault) → IsFaultyStyleRule text at ts fault → rule_at text place at ts ≡ Err fault
  faulty_style_is_read fault (grammar.no_brace prelude) = style_parts ∙ ap (λ o. opened (wanted (length text) o)) prelude
  faulty_style_is_read fault (grammar.unsupported count e prelude spelled) = begun count (Err e) prelude spelled
  faulty_style_is_read fault (grammar.faulty count selectors e prelude spelled h) =
      begun count (Ok selectors) prelude spelled ∙ ap (blocked selectors) (faulty_block_is_read Style text h 64 refl)

-- ---- rules

module _ (text : List ℕ) (place : ℕ) (sheet : SheetRules) (t : Token) (ts : List Token) where
  abbrev keyframed : RuleFound text → RulesFound
  keyframed r = with_keyframes sheet (keyframes_after sheet.keyframes place r)

  abbrev styled : Result (Rule × List Token) CssFault → RulesFound
  styled r = with_style sheet (rule_after sheet.rules r)

  abbrev chosen : Bool → Bool → RulesFound
  chosen at_word keyword =
      if at_word then (if keyword then keyframed (keyframes_at text t.from (drop 1 ts)) else Err (UnsupportedRule t.from))
      else styled (rule_at text place t.from ts)

  item_parts : item_at text place sheet t ts ≡ chosen (is_at_word t.kind) (is_keyword (bytes_of text t) (codes "@keyframes"))
  unfolding item_at
  item_parts = refl

  abbrev pub RuleSays : RulesFound → Type 0
  RuleSays (Ok found) = IsRule text place sheet t ts found.0 found.1
  RuleSays (Err fault) = IsFaultyRule text t ts fault

  of_keyframes : is_at_word t.kind ≡ true → is_keyword (bytes_of text t) (codes "@keyframes") ≡ true → (r : RuleFound text) → KeyframesRuleSays text t.from (drop 1 ts) r → RuleSays (keyframed r)
  of_keyframes at_word keyword (Ok found) h = grammar.keyframes found.0 found.1 found.2 at_word keyword h
  of_keyframes at_word keyword (Err fault) h = grammar.keyframes fault at_word keyword h

  of_style : is_at_word t.kind ≡ false → (r : Result (Rule × List Token) CssFault) → StyleSays text place t.from ts r → RuleSays (styled r)
  of_style other (Ok found) (selectors, declared, h, is) =
      subst (λ (r : Rule). IsRule text place sheet t ts (record sheet { rules = sheet.rules ++ r ∷ [] }) found.1) (sym is) (grammar.style selectors declared found.1 other h)
  of_style other (Err fault) h = grammar.style fault other h

  of_choice : (at_word keyword : Bool) → is_at_word t.kind ≡ at_word → is_keyword (bytes_of text t) (codes "@keyframes") ≡ keyword → RuleSays (chosen at_word keyword)
  of_choice true true a k = of_keyframes a k (keyframes_at text t.from (drop 1 ts)) (keyframes_rule_says text t.from (drop 1 ts))
  of_choice true false a k = grammar.at_word a k
  of_choice false keyword a k = of_style a (rule_at text place t.from ts) (style_says text place t.from ts)

  rule_says : RuleSays (item_at text place sheet t ts)
  rule_says = subst RuleSays (sym item_parts) (of_choice (is_at_word t.kind) (is_keyword (bytes_of text t) (codes "@keyframes")) refl refl)

  is_chosen : (at_word keyword : Bool) → is_at_word t.kind ≡ at_word → is_keyword (bytes_of text t) (codes "@keyframes") ≡ keyword → item_at text place sheet t ts ≡ chosen at_word keyword
  is_chosen at_word keyword a k = item_parts ∙ ap (λ b. chosen b (is_keyword (bytes_of text t) (codes "@keyframes"))) a ∙ ap (chosen at_word) k

  rule_is_read : (made : SheetRules) (rest : List Token) → IsRule text place sheet t ts made rest → item_at text place sheet t ts ≡ Ok (made, rest)
  rule_is_read made rest (grammar.style selectors declared after other h) =
      is_chosen false (is_keyword (bytes_of text t) (codes "@keyframes")) other refl ∙ ap styled (style_is_read text place t.from ts selectors declared rest h)
  rule_is_read made rest (grammar.keyframes name frames after at_word keyword h) =
      is_chosen true true at_word keyword ∙ ap keyframed (keyframes_rule_is_read text t.from (drop 1 ts) name frames rest h)

  faulty_rule_is_read : (fault : CssFault) → IsFaultyRule text t ts fault → item_at text place sheet t ts ≡ Err fault
  faulty_rule_is_read fault (grammar.at_word at_word other) = is_chosen true false at_word other
  faulty_rule_is_read fault (grammar.keyframes e at_word keyword h) =
      is_chosen true true at_word keyword ∙ ap keyframed (faulty_keyframes_rule_is_read text t.from (drop 1 ts) fault h)
  faulty_rule_is_read fault (grammar.style e other h) =
      is_chosen false (is_keyword (bytes_of text t) (codes "@keyframes")) other refl ∙ ap styled (faulty_style_is_read text place t.from ts fault h)

-- ---- sheets

module _ (text : List ℕ) where
  abbrev SheetSays : ℕ → SheetRules → List Token → Result SheetRules CssFault → Type 0
  SheetSays place sheet ts (Ok whole) = AreRules text place sheet ts whole
  SheetSays place sheet ts (Err fault) = AreFaultyRules text place sheet ts fault

  of_last : (place : ℕ) (sheet : SheetRules) (ts : List Token) → 4096 ≤ place → (us : List Token) → after_spaces ts ≡ us
      → SheetSays place sheet ts (whole_or sheet (first_of us) (λ t. Err (Bound bound.Rules t.from)))
  of_last place sheet ts full [] stands = sheets.ended place sheet ts stands
  of_last place sheet ts full (t ∷ us) stands = sheets.too_many place sheet ts t us full stands

  with_rule : (place : ℕ) (sheet : SheetRules) (ts : List Token) (t : Token) (us : List Token) → place < 4096 → after_spaces ts ≡ t ∷ us → (more : SheetRules) (next : List Token)
      → IsRule text place sheet t (t ∷ us) more next → (r : Result SheetRules CssFault) → SheetSays (place + 1) more next r → SheetSays place sheet ts r
  with_rule place sheet ts t us few stands more next h (Ok whole) others = sheets.rule place sheet ts t us more next whole few stands h others
  with_rule place sheet ts t us few stands more next h (Err fault) others = sheets.later place sheet ts t us more next fault few stands h others

  sheet_says : (left place : ℕ) (sheet : SheetRules) (ts : List Token) → place + left ≡ 4096 → SheetSays place sheet ts (sheet_at text place left sheet ts)
  sheet_says zero place sheet ts whole =
      subst (SheetSays place sheet ts) (sym (sheet_none text place sheet ts)) (of_last place sheet ts (omega (arith, whole)) (after_spaces ts) refl)
  sheet_says (suc left) place sheet ts whole =
      subst (SheetSays place sheet ts) (sym (sheet_more text place left sheet ts))
      (by (λ more next. sheet_says left (place + 1) more next (omega (arith, whole))) (after_spaces ts) refl)
    where
      few : place < 4096
      few = omega (arith, whole)

      of_rule : ((more : SheetRules) (next : List Token) → SheetSays (place + 1) more next (sheet_at text (place + 1) left more next)) → (t : Token) (us : List Token) → after_spaces ts ≡ t ∷ us
          → (r : RulesFound) → RuleSays text place sheet t (t ∷ us) r → SheetSays place sheet ts (r >>= (λ next. sheet_at text (place + 1) left next.0 next.1))
      of_rule others t us stands (Ok found) h = with_rule place sheet ts t us few stands found.0 found.1 h (sheet_at text (place + 1) left found.0 found.1) (others found.0 found.1)
      of_rule others t us stands (Err fault) h = sheets.here place sheet ts t us fault few stands h

      by : ((more : SheetRules) (next : List Token) → SheetSays (place + 1) more next (sheet_at text (place + 1) left more next)) → (us : List Token) → after_spaces ts ≡ us
          → SheetSays place sheet ts (whole_or sheet (first_of us) (λ t. item_at text place sheet t us >>= (λ next. sheet_at text (place + 1) left next.0 next.1)))
      by others [] stands = sheets.ended place sheet ts stands
      by others (t ∷ us) stands = of_rule others t us stands (item_at text place sheet t (t ∷ us)) (rule_says text place sheet t (t ∷ us))

  rules_are_read : {place : ℕ} {sheet whole : SheetRules} {ts : List Token} → AreRules text place sheet ts whole → (left : ℕ) → place + left ≡ 4096 → sheet_at text place left sheet ts ≡ Ok whole
  rules_are_read (sheets.ended place sheet ts stands) zero all = sheet_none text place sheet ts ∙ rw stands refl
  rules_are_read (sheets.ended place sheet ts stands) (suc left) all = sheet_more text place left sheet ts ∙ rw stands refl
  rules_are_read (sheets.rule place sheet ts t us more next whole few stands h others) zero all = absurd (omega (arith, few, all))
  rules_are_read (sheets.rule place sheet ts t us more next whole few stands h others) (suc left) all =
      sheet_more text place left sheet ts ∙ rw (stands, rule_is_read text place sheet t (t ∷ us) more next h, rules_are_read others left (omega (arith, all))) refl

  faulty_rules_are_read : {place : ℕ} {sheet : SheetRules} {ts : List Token} {fault : CssFault} → AreFaultyRules text place sheet ts fault → (left : ℕ) → place + left ≡ 4096
      → sheet_at text place left sheet ts ≡ Err fault
  faulty_rules_are_read (sheets.too_many place sheet ts t us full stands) zero all = sheet_none text place sheet ts ∙ rw stands refl
  faulty_rules_are_read (sheets.too_many place sheet ts t us full stands) (suc left) all = absurd (omega (arith, full, all))
  faulty_rules_are_read (sheets.here place sheet ts t us fault few stands h) zero all = absurd (omega (arith, few, all))
  faulty_rules_are_read (sheets.here place sheet ts t us fault few stands h) (suc left) all =
      sheet_more text place left sheet ts ∙ rw (stands, faulty_rule_is_read text place sheet t (t ∷ us) fault h) refl
  faulty_rules_are_read (sheets.later place sheet ts t us more next fault few stands h others) zero all = absurd (omega (arith, few, all))
  faulty_rules_are_read (sheets.later place sheet ts t us more next fault few stands h others) (suc left) all =
      sheet_more text place left sheet ts ∙ rw (stands, rule_is_read text place sheet t (t ∷ us) more next h, faulty_rules_are_read others left (omega (arith, all))) refl

  abbrev Says : Result SheetRules CssFault → Type 0
  Says (Ok sheet) = IsSheet text sheet
  Says (Err fault) = IsFaultySheet text fault

  of_rules : (tokens : List Token) → tokens_of text ≡ Ok tokens → (r : Result SheetRules CssFault) → SheetSays 0 no_rules tokens r → Says r
  of_rules tokens read (Ok sheet) h = record { tokens = tokens; read = read; rules = h }
  of_rules tokens read (Err fault) h = sheets.faulty tokens fault read h

  of_text : (r : Result (List Token) ℕ) → tokens_of text ≡ r → Says (of_tokens (sheet_at text 0 4096 no_rules) r)
  of_text (Ok tokens) read = of_rules tokens read (sheet_at text 0 4096 no_rules tokens) (sheet_says 4096 0 no_rules tokens refl)
  of_text (Err at) read = sheets.bad_token at read

  text_says : Says (sheet_of text)
  text_says = of_text (tokens_of text) refl

  pub sheet_is_read : (sheet : SheetRules) → IsSheet text sheet → sheet_of text ≡ Ok sheet
  sheet_is_read sheet h = ap (of_tokens (sheet_at text 0 4096 no_rules)) h.read ∙ rules_are_read h.rules 4096 refl

  pub faulty_sheet_is_read : (fault : CssFault) → IsFaultySheet text fault → sheet_of text ≡ Err fault
  faulty_sheet_is_read fault (sheets.bad_token at read) = ap (of_tokens (sheet_at text 0 4096 no_rules)) read
  faulty_sheet_is_read fault (sheets.faulty tokens e read h) = ap (of_tokens (sheet_at text 0 4096 no_rules)) read ∙ faulty_rules_are_read h 4096 refl

  pub read_is_sheet : (sheet : SheetRules) → sheet_of text ≡ Ok sheet → IsSheet text sheet
  read_is_sheet sheet e = subst Says e text_says

  pub read_is_faulty_sheet : (fault : CssFault) → sheet_of text ≡ Err fault → IsFaultySheet text fault
  read_is_faulty_sheet fault e = subst Says e text_says

  either_of : (r : Result SheetRules CssFault) → Says r → ((sheet : SheetRules) × IsSheet text sheet) ⊎ ((fault : CssFault) × IsFaultySheet text fault)
  either_of (Ok sheet) h = inl (sheet, h)
  either_of (Err fault) h = inr (fault, h)

  pub a_sheet_or_fault : ((sheet : SheetRules) × IsSheet text sheet) ⊎ ((fault : CssFault) × IsFaultySheet text fault)
  a_sheet_or_fault = either_of (sheet_of text) text_says
