-- How a sheet is read rule by rule.
use Rattle.std.proofs.Common.{◌≡◌, ℕ, ◌+◌, ◌-◌, ◌<◌, ◌≤◌, zero, suc, List, [], ◌∷◌, refl, ap, sym, ◌∙◌, subst, inl, inr, arith}
use Rattle.std.specs.Prelude.{None, Some, Ok, Err}
use Rattle.std.proofs.lemmas.Bool.{cases_lt}
use Rattle.std.proofs.lemmas.List.Elements.{All-head}
use Rattle.css_token.specs.TokenLists.{IsTokenOf}
use Rattle.css_token.specs.declared.token.Token.{Token}
use Rattle.sheet_rules.specs.declared.fault.BoundName.TheVariants as bound
use Rattle.sheet_rules.specs.declared.fault.CssFault.{CssFault}
use Rattle.sheet_rules.specs.declared.fault.CssFault.TheVariants.{Bound}
use Rattle.sheet_rules.specs.Faults.{◌>>=◌}
use Rattle.sheet_types.specs.Sheets.{SheetRules}
use Rattle.sheet_rules.specs.Rules.{first_of, item_at, sheet_at, whole_or}
use Rattle.sheet_rules.specs.Scanning.{after_spaces}
use Rattle.sheet_rules.proofs.Within.{Lie}

-- so many rules may still come, and they make of the sheet what all make of the one before
pub record IsReading (text : List ℕ) (before : SheetRules) (tokens : List Token) (left : ℕ) (sheet : SheetRules) (rest : List Token) : Type 0 where
  pub few : left ≤ 4096
  pub lie : Lie text rest
  pub reading : sheet_at text (4096 - left) left sheet rest ≡ sheet_at text 0 4096 before tokens

pub sheet_none : (text : List ℕ) (place : ℕ) (sheet : SheetRules) (rest : List Token)
    → sheet_at text place zero sheet rest ≡ whole_or sheet (first_of (after_spaces rest)) (λ t. Err (Bound bound.Rules t.from))
unfolding sheet_at
sheet_none text place sheet rest = refl

pub sheet_more : (text : List ℕ) (place left : ℕ) (sheet : SheetRules) (rest : List Token)
    → sheet_at text place (suc left) sheet rest
    ≡ whole_or sheet (first_of (after_spaces rest)) (λ t. item_at text place sheet t (after_spaces rest) >>= (λ next. sheet_at text (place + 1) left next.0 next.1))
unfolding sheet_at
sheet_more text place left sheet rest = refl

-- at the end of the text
pub sheet_ends : (text : List ℕ) (place left : ℕ) (sheet : SheetRules) (rest next : List Token) → next ≡ after_spaces rest → first_of next ≡ None
    → sheet_at text place left sheet rest ≡ Ok sheet
sheet_ends text place zero sheet rest next is none = sheet_none text place sheet rest ∙ rw (sym is, none) refl
sheet_ends text place (suc left) sheet rest next is none = sheet_more text place left sheet rest ∙ rw (sym is, none) refl

-- at one rule too many
pub one_too_many : (text : List ℕ) (place left : ℕ) (sheet : SheetRules) (rest next : List Token) (t : Token) → left ≡ 0 → next ≡ after_spaces rest → first_of next ≡ Some t
    → sheet_at text place left sheet rest ≡ Err (Bound bound.Rules t.from)
one_too_many text place zero sheet rest next t none is some = sheet_none text place sheet rest ∙ rw (sym is, some) refl
one_too_many text place (suc left) sheet rest next t none is some = absurd (omega (arith, none))

-- a fault of a rule is that of the sheet
pub rule_fault : (text : List ℕ) (place left : ℕ) (sheet : SheetRules) (rest next : List Token) (t : Token) (fault : CssFault) → (left ≡ 0 → ⊥)
    → next ≡ after_spaces rest → first_of next ≡ Some t → item_at text place sheet t next ≡ Err fault → sheet_at text place left sheet rest ≡ Err fault
rule_fault text place zero sheet rest next t fault more is some e = absurd (more refl)
rule_fault text place (suc left) sheet rest next t fault more is some e = sheet_more text place left sheet rest ∙ rw (sym is, some, e) refl

one_more : (text : List ℕ) (place left : ℕ) (sheet sheet' : SheetRules) (rest next others : List Token) (t : Token) → (left ≡ 0 → ⊥)
    → next ≡ after_spaces rest → first_of next ≡ Some t → item_at text place sheet t next ≡ Ok (sheet', others)
    → sheet_at text place left sheet rest ≡ sheet_at text (place + 1) (left - 1) sheet' others
one_more text place zero sheet sheet' rest next others t more is some e = absurd (more refl)
one_more text place (suc left) sheet sheet' rest next others t more is some e =
    let less : suc left - 1 ≡ left = omega arith in
    sheet_more text place left sheet rest ∙ rw (sym is, some, e) refl ∙ ap (λ n. sheet_at text (place + 1) n sheet' others) (sym less)

-- and so the reading goes on
pub goes_on : (text : List ℕ) (before : SheetRules) (tokens : List Token) (left : ℕ) (sheet sheet' : SheetRules) (rest next others : List Token) (t : Token)
    → IsReading text before tokens left sheet rest → (left ≡ 0 → ⊥) → next ≡ after_spaces rest → first_of next ≡ Some t
    → item_at text (4096 - left) sheet t next ≡ Ok (sheet', others) → Lie text others → IsReading text before tokens (left - 1) sheet' others
goes_on text before tokens left sheet sheet' rest next others t so_far more is some e lie =
    let few = so_far.few in
    let left_over : 0 < left = elim (cases_lt 0 left) [ inl h ↦ h | inr h ↦ absurd (more (omega (arith, h))) ] in
    let after_it : 4096 - left + 1 ≡ 4096 - (left - 1) = omega (arith, few, left_over) in
    record {
      few = omega (arith, few);
      lie = lie;
      reading =
          ap (λ n. sheet_at text n (left - 1) sheet' others) (sym after_it)
          ∙ sym (one_more text (4096 - left) left sheet sheet' rest next others t more is some e) ∙ so_far.reading;
    }

-- the first token is one of the text
pub first_lies : (text : List ℕ) (ts : List Token) (t : Token) → first_of ts ≡ Some t → Lie text ts → IsTokenOf text t
first_lies text [] t e h = cc
first_lies text (u ∷ ts) t e h = let same : u ≡ t = cc in subst (IsTokenOf text) same (All-head (IsTokenOf text) u ts h)
