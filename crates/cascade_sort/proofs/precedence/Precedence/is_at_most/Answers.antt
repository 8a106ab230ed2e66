use Rattle.std.proofs.Common.{◌≡◌, Bool, true, false, [], ◌∷◌, refl, ap, sym, ◌∙◌}
use Rattle.std.specs.Prelude.{not}
use mathlib.Core.Bool.{beq}
use Rattle.cascade_sort.specs.Lexicographic.{is_at_most}
use Rattle.cascade_sort.specs.Precedences.{attached_key}
use Rattle.cascade_sort.specs.declared.precedence.Precedence.{Precedence}
use Rattle.cascade_sort.proofs.Orders.{apart_first, same_first}
use Rattle.cascade_sort.proofs.precedence.Precedence.is_at_most.Goals as goal

same_attached : (a b : Bool) → not (beq a b) ≡ false → a ≡ b
same_attached true true is = refl
same_attached true false is = absurd (cc)
same_attached false true is = absurd (cc)
same_attached false false is = refl

-- where all before them are the same the sheets decide
pub returns-then-self-other-2 : goal.returns-then-self-other-2
returns-then-self-other-2 c =
    let p : Precedence = c.args.self.now in
    let q : Precedence = c.args.other.now in
    sym
    (same_first (attached_key p.attached) (attached_key q.attached)
    (is_at_most (p.specificity.0 ∷ p.specificity.1 ∷ p.specificity.2 ∷ p.sheet ∷ p.rule ∷ p.declaration ∷ []) (q.specificity.0 ∷ q.specificity.1 ∷ q.specificity.2 ∷ q.sheet ∷ q.rule ∷ q.declaration ∷ []))
    (ap attached_key (same_attached p.attached q.attached c.if-self-other.false))
    ∙ same_first p.specificity.0 q.specificity.0
    (is_at_most (p.specificity.1 ∷ p.specificity.2 ∷ p.sheet ∷ p.rule ∷ p.declaration ∷ []) (q.specificity.1 ∷ q.specificity.2 ∷ q.sheet ∷ q.rule ∷ q.declaration ∷ [])) c.if-ids-other_ids.false
    ∙ same_first p.specificity.1 q.specificity.1
    (is_at_most (p.specificity.2 ∷ p.sheet ∷ p.rule ∷ p.declaration ∷ []) (q.specificity.2 ∷ q.sheet ∷ q.rule ∷ q.declaration ∷ [])) c.if-classes-other_classes.false
    ∙ same_first p.specificity.2 q.specificity.2
    (is_at_most (p.sheet ∷ p.rule ∷ p.declaration ∷ []) (q.sheet ∷ q.rule ∷ q.declaration ∷ [])) c.if-types-other_types.false
    ∙ apart_first p.sheet q.sheet (is_at_most (p.rule ∷ p.declaration ∷ []) (q.rule ∷ q.declaration ∷ [])) c.if-self-other-2.true)
