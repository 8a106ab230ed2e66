-- How a block is read declaration by declaration.
use Rattle.std.proofs.Common.{◌≡◌, ℕ, ◌+◌, ◌-◌, ◌≤◌, ◌<◌, zero, suc, inl, inr, List, [], ◌++◌, append_assoc, length, refl, ap, sym, ◌∙◌, arith}
use Rattle.std.specs.Prelude.{None, Some, Ok, Err}
use Rattle.std.proofs.lemmas.Bool.{cases_lt}
use Rattle.css_token.specs.declared.token.Token.{Token}
use Rattle.sheet_rules.specs.declared.block_kind.BlockKind.{BlockKind}
use Rattle.sheet_types.specs.declared.declaration.DeclarationParts.{DeclarationParts}
use Rattle.sheet_rules.specs.declared.fault.BoundName.TheVariants as bound
use Rattle.sheet_rules.specs.declared.fault.CssFault.{CssFault}
use Rattle.sheet_rules.specs.declared.fault.CssFault.TheVariants.{Bound}
use Rattle.sheet_rules.specs.Faults.{◌>>=◌}
use Rattle.sheet_rules.specs.Blocks.{Found, after_separators, block_at, declaration_at, ended_or, part_at, with_front}
use Rattle.sheet_rules.proofs.Within.{Lie}

-- so many declarations may still come, and what was declared and then what the rest declares is what the block does
pub record IsReading (block : BlockKind) (text : List ℕ) (before : List DeclarationParts) (tokens : List Token) (found : List DeclarationParts) (left : ℕ) (rest : List Token) : Type 0 where
  pub few : left ≤ 64
  pub lie : Lie text rest
  pub reading : with_front found (block_at block text (64 - left) left rest) ≡ with_front before (block_at block text 0 64 tokens)

pub block_none : (block : BlockKind) (text : List ℕ) (place : ℕ) (rest : List Token)
    → block_at block text place zero rest
    ≡ part_at block (length text) (after_separators rest) >>= (λ part. ended_or part.0 part.1 (λ name. Err (Bound bound.Declarations name.from)))
unfolding block_at
block_none block text place rest = refl

pub block_more : (block : BlockKind) (text : List ℕ) (place left : ℕ) (rest : List Token)
    → block_at block text place (suc left) rest
    ≡ part_at block (length text) (after_separators rest) >>= (λ part. ended_or part.0 part.1 (λ name.
    declaration_at block text place name part.1 >>= (λ first. with_front first.0 (block_at block text (place + 1) left first.1))))
unfolding block_at
block_more block text place left rest = refl

-- a fault of the next part is that of the block
pub part_fault : (block : BlockKind) (text : List ℕ) (place left : ℕ) (rest : List Token) (fault : CssFault)
    → part_at block (length text) (after_separators rest) ≡ Err fault → block_at block text place left rest ≡ Err fault
part_fault block text place zero rest fault e = block_none block text place rest ∙ rw e refl
part_fault block text place (suc left) rest fault e = block_more block text place left rest ∙ rw e refl

-- at the block's end
pub block_ends : (block : BlockKind) (text : List ℕ) (place left : ℕ) (rest after : List Token)
    → part_at block (length text) (after_separators rest) ≡ Ok (None, after) → block_at block text place left rest ≡ Ok ([], after)
block_ends block text place zero rest after e = block_none block text place rest ∙ rw e refl
block_ends block text place (suc left) rest after e = block_more block text place left rest ∙ rw e refl

-- at one declaration too many
pub too_many : (block : BlockKind) (text : List ℕ) (place left : ℕ) (rest after : List Token) (name : Token) → left ≡ 0
    → part_at block (length text) (after_separators rest) ≡ Ok (Some name, after) → block_at block text place left rest ≡ Err (Bound bound.Declarations name.from)
too_many block text place zero rest after name none e = block_none block text place rest ∙ rw e refl
too_many block text place (suc left) rest after name none e = absurd (omega (arith, none))

regrouped : (found : List DeclarationParts) (first : Found) (others : List Token → Found)
    → with_front found (first >>= (λ x. with_front x.0 (others x.1))) ≡ with_front found first >>= (λ x. with_front x.0 (others x.1))
regrouped found (Err fault) others = refl
regrouped found (Ok x) others = joined (others x.1) where
  joined : (more : Found) → with_front found (with_front x.0 more) ≡ with_front (found ++ x.0) more
  joined (Err fault) = refl
  joined (Ok y) = ap (λ ds. Ok (ds, y.1)) (sym (append_assoc found x.0 y.0))

-- one declaration more
pub one_more : (block : BlockKind) (text : List ℕ) (place left : ℕ) (found found' : List DeclarationParts) (rest after rest' : List Token) (name : Token)
    → (left ≡ 0 → ⊥) → part_at block (length text) (after_separators rest) ≡ Ok (Some name, after)
    → with_front found (declaration_at block text place name after) ≡ Ok (found', rest')
    → with_front found (block_at block text place left rest) ≡ with_front found' (block_at block text (place + 1) (left - 1) rest')
one_more block text place zero found found' rest after rest' name some e d = absurd (some refl)
one_more block text place (suc left) found found' rest after rest' name some e d =
    let others : List Token → Found = λ ts. block_at block text (place + 1) left ts in
    let less : suc left - 1 ≡ left = omega arith in
    ap (with_front found) (block_more block text place left rest ∙ rw e refl)
    ∙ regrouped found (declaration_at block text place name after) others
    ∙ ap (λ (d : Found). d >>= (λ x. with_front x.0 (others x.1))) d
    ∙ ap (λ n. with_front found' (block_at block text (place + 1) n rest')) (sym less)

-- and so the reading goes on
pub goes_on : (block : BlockKind) (text : List ℕ) (before : List DeclarationParts) (tokens : List Token) (left : ℕ) (found found' : List DeclarationParts) (rest after rest' : List Token) (name : Token)
    → IsReading block text before tokens found left rest → (left ≡ 0 → ⊥) → part_at block (length text) (after_separators rest) ≡ Ok (Some name, after)
    → with_front found (declaration_at block text (64 - left) name after) ≡ Ok (found', rest') → Lie text rest'
    → IsReading block text before tokens found' (left - 1) rest'
goes_on block text before tokens left found found' rest after rest' name so_far some e d lie =
    let few = so_far.few in
    let more : 0 < left = elim (cases_lt 0 left) [ inl h ↦ h | inr h ↦ absurd (some (omega (arith, h))) ] in
    let next : 64 - left + 1 ≡ 64 - (left - 1) = omega (arith, few, more) in
    record {
      few = omega (arith, few);
      lie = lie;
      reading =
          ap (λ n. with_front found' (block_at block text n (left - 1) rest')) (sym next)
          ∙ sym (one_more block text (64 - left) left found found' rest after rest' name some e d) ∙ so_far.reading;
    }

-- a fault of a declaration is that of the block
pub declaration_fault : (block : BlockKind) (text : List ℕ) (place left : ℕ) (found : List DeclarationParts) (rest after : List Token) (name : Token) (fault : CssFault)
    → (left ≡ 0 → ⊥) → part_at block (length text) (after_separators rest) ≡ Ok (Some name, after)
    → with_front found (declaration_at block text place name after) ≡ Err fault
    → with_front found (block_at block text place left rest) ≡ Err fault
declaration_fault block text place zero found rest after name fault some e d = absurd (some refl)
declaration_fault block text place (suc left) found rest after name fault some e d =
    let others : List Token → Found = λ ts. block_at block text (place + 1) left ts in
    ap (with_front found) (block_more block text place left rest ∙ rw e refl)
    ∙ regrouped found (declaration_at block text place name after) others
    ∙ ap (λ (d : Found). d >>= (λ x. with_front x.0 (others x.1))) d
