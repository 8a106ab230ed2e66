-- The parameter of an input is one, and the function gives it.
use Rattle.std.proofs.Common.{◌≡◌, ◌∙◌, ℕ, zero, suc, ◌+◌, ◌-◌, ◌<◌, ◌≤◌, ◌↔◌, refl, sym, subst, arith, inl, inr}
use Rattle.std.specs.Prelude.{ℤ, pos, ◌≤ℤ◌, int_le, Bool, true, false, if◌then◌else◌}
use Rattle.std.proofs.lemmas.Bool.{cases_lt, false≢true}
use Rattle.std.proofs.lemmas.Int.{ints}
use Rattle.easing.specs.Bezier.{parts, parameter_of, IsParameter, IsReached, IsUnitCoordinate}
use Rattle.easing.proofs.Points.{reached_before}
use Rattle.easing.specs.Greatest.{IsGreatest, greatest}

pub le_tells : (a b : ℤ) → (int_le a b ≡ true) ↔ (a ≤ℤ b)
le_tells a b = (λ e. grind (arith, ints), λ h. grind (arith, ints))

pub only_one : (P : ℕ → Type 0) (limit k m : ℕ) → IsGreatest P limit k → IsGreatest P limit m → k ≡ m
only_one P limit k m h g = let up = g.greatest k h.within h.has in let down = h.greatest m g.within g.has in omega arith

one_more : (P : ℕ → Type 0) (n k : ℕ) → (P (suc n) → ⊥) → IsGreatest P n k → IsGreatest P (suc n) k
one_more P n k none h = record {
  within = let w = h.within in omega arith;
  has = h.has;
  greatest = λ m le is. elim (cases_lt n m) [
    | inl more ↦ let last : suc n ≡ m = omega arith in absurd (none (subst P (sym last) is))
    | inr less ↦ h.greatest m less is
  ];
}

pub greatest_is : (p : ℕ → Bool) (P : ℕ → Type 0) → ((k : ℕ) → (p k ≡ true) ↔ P k) → P 0 → (limit : ℕ) → IsGreatest P limit (greatest p limit)
unfolding greatest
greatest_is p P tells start zero = record { within = omega arith; has = start; greatest = λ m le is. le }
greatest_is p P tells start (suc n) = pick (greatest_is p P tells start n) (p (suc n)) refl where
  pick : IsGreatest P n (greatest p n) → (b : Bool) → p (suc n) ≡ b → IsGreatest P (suc n) (if b then suc n else greatest p n)
  pick below true e = record { within = omega arith; has = (tells (suc n)).0 e; greatest = λ m le is. le }
  pick below false e = one_more P n (greatest p n) (λ is. false≢true (sym e ∙ (tells (suc n)).1 is)) below

pub reached_at_start : (x1 x2 x : ℤ) → pos 0 ≤ℤ x → IsReached x1 x2 x 0
reached_at_start x1 x2 x some = omega (arith, ints)

-- the function gives the parameter of an input that isn't negative
pub parameter_is : (x1 x2 x : ℤ) → pos 0 ≤ℤ x → IsParameter x1 x2 x (parameter_of x1 x2 x)
unfolding parameter_of
parameter_is x1 x2 x some = greatest_is _ (IsReached x1 x2 x) (λ k. le_tells _ _) (reached_at_start x1 x2 x some) parts

pub parameter_only : (x1 x2 x : ℤ) (k : ℕ) → pos 0 ≤ℤ x → IsParameter x1 x2 x k → k ≡ parameter_of x1 x2 x
parameter_only x1 x2 x k some is = only_one (IsReached x1 x2 x) parts k (parameter_of x1 x2 x) is (parameter_is x1 x2 x some)

-- ---- halving

-- the parameter isn't below one that is reached, and is below another
pub record Between (x1 x2 x : ℤ) (reached beyond : ℕ) : Type 0 where
  pub order : reached < beyond
  pub within : beyond ≤ parts + 1
  pub has : IsReached x1 x2 x reached
  pub none : (m : ℕ) → beyond ≤ m → m ≤ parts → IsReached x1 x2 x m → ⊥

pub begins : (x1 x2 x : ℤ) → pos 0 ≤ℤ x → Between x1 x2 x 0 (parts + 1)
begins x1 x2 x some = record {
  order = omega arith;
  within = omega arith;
  has = reached_at_start x1 x2 x some;
  none = λ m far near h. absurd (omega arith);
}

pub moved_up : (x1 x2 x : ℤ) (reached beyond middle : ℕ) → Between x1 x2 x reached beyond → middle < beyond → IsReached x1 x2 x middle → Between x1 x2 x middle beyond
moved_up x1 x2 x reached beyond middle b order has = record { order = order; within = b.within; has = has; none = b.none }

pub moved_down : (x1 x2 x : ℤ) (reached beyond middle : ℕ) → IsUnitCoordinate x1 → IsUnitCoordinate x2
    → Between x1 x2 x reached beyond → reached < middle → middle < beyond → (IsReached x1 x2 x middle → ⊥) → Between x1 x2 x reached middle
moved_down x1 x2 x reached beyond middle h1 h2 b more less not = record {
  order = more;
  within = let w = b.within in omega arith;
  has = b.has;
  none = λ m far near h. not (reached_before x1 x2 x middle m h1 h2 far near h);
}

pub ends : (x1 x2 x : ℤ) (reached beyond : ℕ) → Between x1 x2 x reached beyond → beyond - reached ≤ 1 → IsParameter x1 x2 x reached
ends x1 x2 x reached beyond b close = record {
  within = let o = b.order in let w = b.within in omega arith;
  has = b.has;
  greatest = λ m near h. elim (cases_lt reached m) [
    | inl more ↦ absurd (b.none m (omega arith) near h)
    | inr less ↦ less
  ];
}
