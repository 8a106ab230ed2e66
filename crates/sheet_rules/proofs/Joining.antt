-- A sheet whose tokens follow those of another.
use Rattle.std.proofs.Common.{◌≡◌, ℕ, ◌+◌, ◌≤◌, List, [], ◌∷◌, ◌++◌, map, refl, ap, sym, subst, ◌∙◌, append-nil, append_assoc, arith}
use Rattle.std.proofs.lemmas.List.{length-append, map-append}
use Rattle.css_token.specs.declared.token.Token.{Token}
use Rattle.sheet_types.specs.Sheets.{SheetRules, no_rules, sheet_rules}
use Rattle.sheet_types.specs.declared.rule.KeyframesRule.{KeyframesRule}
use Rattle.sheet_types.specs.declared.rule.Rule.{Rule}
use Rattle.sheet_rules.specs.Keyframes.{keyframes_rule}
use Rattle.sheet_rules.specs.Moving.{moved_keyframes, moved_rule, rule_count, sheet_after}
use Rattle.sheet_rules.specs.RuleGrammar.{IsRule}
use Rattle.sheet_rules.specs.RuleGrammar as rule
use Rattle.sheet_rules.specs.Rules.{style_rule}
use Rattle.sheet_rules.specs.Scanning.{after_spaces}
use Rattle.sheet_rules.specs.SheetGrammar.{AreRules}
use Rattle.sheet_rules.specs.SheetGrammar as sheets
use Rattle.sheet_rules.proofs.AfterRuns.{rule_stays, spaces_none, spaces_some}

module _ (text : List ℕ) where
  -- one rule more
  one_more : (place : ℕ) (sheet : SheetRules) (t : Token) (ts : List Token) (more : SheetRules) (next : List Token) → IsRule text place sheet t ts more next
      → rule_count more ≡ rule_count sheet + 1
  one_more place sheet t ts more next (rule.style selectors declared after other h) =
      let e = length-append sheet.rules (style_rule selectors declared place ∷ []) in omega arith
  one_more place sheet t ts more next (rule.keyframes name frames after at_word keyword h) =
      let e = length-append sheet.keyframes (keyframes_rule name frames place ∷ []) in omega arith

  rules_grow : {place : ℕ} {sheet whole : SheetRules} {ts : List Token} → AreRules text place sheet ts whole → rule_count sheet ≤ rule_count whole
  rules_grow (sheets.ended place sheet ts stands) = omega arith
  rules_grow (sheets.rule place sheet ts t us more next whole few stands h others) =
      let first = one_more place sheet t (t ∷ us) more next h in
      let later = rules_grow others in
      omega arith

  -- only what follows the spaces counts
  same_rules : {place : ℕ} {sheet whole : SheetRules} {ts : List Token} → AreRules text place sheet ts whole → (us : List Token) → after_spaces us ≡ after_spaces ts
      → AreRules text place sheet us whole
  same_rules (sheets.ended place sheet ts stands) us e = sheets.ended place sheet us (e ∙ stands)
  same_rules (sheets.rule place sheet ts t vs more next whole few stands h others) us e = sheets.rule place sheet us t vs more next whole few (e ∙ stands) h others

  -- rules, and then those of the tokens that follow
  rules_follow : (us : List Token) (whole : SheetRules) {place : ℕ} {sheet first : SheetRules} {ts : List Token} → AreRules text place sheet ts first → place ≡ rule_count sheet
      → AreRules text (rule_count first) first us whole → AreRules text place sheet (ts ++ us) whole
  rules_follow us whole (sheets.ended place sheet ts stands) e more =
      subst (λ (n : ℕ). AreRules text n sheet (ts ++ us) whole) (sym e) (same_rules more (ts ++ us) (spaces_none ts us stands))
  rules_follow us whole (sheets.rule place sheet ts t vs more next first few stands h others) e after =
      let count = one_more place sheet t (t ∷ vs) more next h in
      sheets.rule place sheet (ts ++ us) t (vs ++ us) more (next ++ us) whole few (spaces_some ts us t vs stands) (rule_stays text us place sheet t vs more next h)
      (rules_follow us whole others (omega arith) after)

  moved_more : {X : Type 0} (f : X → X) (first xs : List X) (x : X) → (first ++ map f xs) ++ f x ∷ [] ≡ first ++ map f (xs ++ x ∷ [])
  moved_more f first xs x = append_assoc first (map f xs) (f x ∷ []) ∙ ap (λ l. first ++ l) (sym (map-append f xs (x ∷ [])))

  -- a rule at a later place
  rule_moved : (first : SheetRules) (place : ℕ) (sheet : SheetRules) (t : Token) (ts : List Token) (more : SheetRules) (next : List Token) → IsRule text place sheet t ts more next
      → IsRule text (rule_count first + place) (sheet_after first sheet) t ts (sheet_after first more) next
  rule_moved first place sheet t ts more next (rule.style selectors declared after other h) =
      let n = rule_count first in
      let keyframes = first.keyframes ++ map (moved_keyframes n) sheet.keyframes in
      subst (λ (rules : List Rule). IsRule text (n + place) (sheet_after first sheet) t ts (sheet_rules rules keyframes) next)
      (moved_more (moved_rule n) first.rules sheet.rules (style_rule selectors declared place)) (rule.style selectors declared next other h)
  rule_moved first place sheet t ts more next (rule.keyframes name frames after at_word keyword h) =
      let n = rule_count first in
      let rules = first.rules ++ map (moved_rule n) sheet.rules in
      subst (λ (keyframes : List KeyframesRule). IsRule text (n + place) (sheet_after first sheet) t ts (sheet_rules rules keyframes) next)
      (moved_more (moved_keyframes n) first.keyframes sheet.keyframes (keyframes_rule name frames place)) (rule.keyframes name frames next at_word keyword h)

  rules_moved : (first : SheetRules) {place : ℕ} {sheet own : SheetRules} {ts : List Token} → AreRules text place sheet ts own → place ≡ rule_count sheet
      → rule_count first + rule_count own ≤ 4096 → AreRules text (rule_count first + place) (sheet_after first sheet) ts (sheet_after first own)
  rules_moved first (sheets.ended place sheet ts stands) e few = sheets.ended (rule_count first + place) (sheet_after first sheet) ts stands
  rules_moved first (sheets.rule place sheet ts t us more next own least stands h others) e few =
      let n = rule_count first in
      let count = one_more place sheet t (t ∷ us) more next h in
      let grown = rules_grow others in
      let next_place : n + (place + 1) ≡ (n + place) + 1 = omega arith in
      sheets.rule (n + place) (sheet_after first sheet) ts t us (sheet_after first more) next (sheet_after first own) (omega arith) stands
      (rule_moved first place sheet t (t ∷ us) more next h)
      (subst (λ (k : ℕ). AreRules text k (sheet_after first more) next (sheet_after first own)) next_place (rules_moved first others (omega arith) few))

  nothing_after : (first : SheetRules) → sheet_after first no_rules ≡ first
  nothing_after first =
      ap (λ rules. sheet_rules rules (first.keyframes ++ [])) (append-nil first.rules) ∙ ap (sheet_rules first.rules) (append-nil first.keyframes)

  pub sheets_join : (ts us : List Token) (first own : SheetRules) → AreRules text 0 no_rules ts first → AreRules text 0 no_rules us own
      → rule_count first + rule_count own ≤ 4096 → AreRules text 0 no_rules (ts ++ us) (sheet_after first own)
  sheets_join ts us first own h k few =
      let n = rule_count first in
      let moved = rules_moved first k refl few in
      let zero_more : n + 0 ≡ n = omega arith in
      rules_follow us (sheet_after first own) h refl
      (subst (λ (place : ℕ). AreRules text place first us (sheet_after first own)) zero_more
      (subst (λ (sheet : SheetRules). AreRules text (n + 0) sheet us (sheet_after first own)) (nothing_after first) moved))
