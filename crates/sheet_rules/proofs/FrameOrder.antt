-- The order of frames.
use Rattle.std.proofs.Common.{◌≡◌, ℕ, ◌<◌, ℤ, ◌<ℤ◌, sym, ◌∙◌, subst, inl, inr, true, false, not, arith}
use Rattle.std.proofs.lemmas.Int.{ints}
use Rattle.std.specs.Prelude.{◌⊎◌, ◌||◌, ◌&&◌, nat_lt}
use Rattle.std.specs.Int.Signed.{lt_z}
use Rattle.std.proofs.lemmas.Bool.Decides.{nat_tests}
use Rattle.value_types.specs.Keyframes.{IsFrameBefore}
use Rattle.value_types.specs.Properties.{number_of}
use Rattle.value_types.specs.declared.frame.Frame.{Frame}
use Rattle.sheet_rules.specs.Frames.{stands_before}

before_key : (a b : ℤ) (m n : ℕ) → (lt_z a b || (not (lt_z b a) && nat_lt m n)) ≡ true → (a <ℤ b) ⊎ ((a ≡ b) × (m < n))
before_key a b m n e = grind (arith, ints, nat_tests)

same_key : (a b : ℤ) (m n : ℕ) → (lt_z a b || (not (lt_z b a) && nat_lt m n)) ≡ false → (lt_z b a || (not (lt_z a b) && nat_lt n m)) ≡ false → (a ≡ b) × (m ≡ n)
same_key a b m n e f = grind (arith, ints, nat_tests)

key_after : (a b c : ℤ) (l m n : ℕ) → (a <ℤ b) ⊎ ((a ≡ b) × (l < m)) → (b <ℤ c) ⊎ ((b ≡ c) × (m < n)) → (a <ℤ c) ⊎ ((a ≡ c) × (l < n))
key_after a b c l m n (inl p) (inl q) = inl (omega (arith, ints))
key_after a b c l m n (inl p) (inr q) = inl (subst (λ (x : ℤ). a <ℤ x) q.0 p)
key_after a b c l m n (inr p) (inl q) = inl (subst (λ (x : ℤ). x <ℤ c) (sym p.0) q)
key_after a b c l m n (inr p) (inr q) = inr (p.0 ∙ q.0, omega (arith, p.1, q.1))

-- what the test says
pub stands : (f g : Frame) → stands_before f g ≡ true → IsFrameBefore f g
stands f g e = before_key f.offset.0 g.offset.0 (number_of f.property) (number_of g.property) e

pub stands_after : (f g h : Frame) → IsFrameBefore f g → IsFrameBefore g h → IsFrameBefore f h
stands_after f g h p q = key_after f.offset.0 g.offset.0 h.offset.0 (number_of f.property) (number_of g.property) (number_of h.property) p q

pub same_place : (f g : Frame) → stands_before f g ≡ false → stands_before g f ≡ false → (f.offset.0 ≡ g.offset.0) × (number_of f.property ≡ number_of g.property)
same_place f g e h = same_key f.offset.0 g.offset.0 (number_of f.property) (number_of g.property) e h

pub moved : (f g h : Frame) → (f.offset.0 ≡ g.offset.0) × (number_of f.property ≡ number_of g.property) → IsFrameBefore g h → IsFrameBefore f h
moved f g h same (inl p) = inl (subst (λ (x : ℤ). x <ℤ h.offset.0) (sym same.0) p)
moved f g h same (inr p) = inr (same.0 ∙ p.0, subst (λ (n : ℕ). n < number_of h.property) (sym same.1) p.1)
