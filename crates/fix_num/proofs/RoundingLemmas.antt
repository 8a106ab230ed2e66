-- What the rounding gives: its floor, the nearest number, its order.
use Rattle.std.proofs.lemmas.Bool.{cases_lt}
use Rattle.std.proofs.Common.{inl, inr, ◌-◌, ◌≡◌, ℕ, ◌+◌, ◌*◌, ◌/◌, ◌<◌, ◌≤◌, refl, sym, subst, arith}
use Rattle.std.specs.Prelude.{ℤ, pos, negsuc, ◌+ℤ◌, ◌*ℤ◌, ◌≤ℤ◌, ◌<ℤ◌, unsigned_abs}
use Rattle.std.specs.Int.{int_div_euclid}
use Rattle.std.proofs.lemmas.Int.{ints}
use Rattle.std.proofs.lemmas.Nat.{le-div}
use Rattle.std.proofs.Math.Nat.{div-mul-le_self, lt-div-mul-add, div-lt_iff_lt-mul, mul-le-mul_left, mul-le-mul_right}
use Rattle.fix_num.specs.Rounding.{rounded_quotient, IsNearest}

-- a floor by a positive divisor, times the divisor
pub floor_is : (z : ℤ) (d : ℕ) → 0 < d → ((int_div_euclid z (pos d) *ℤ pos d) ≤ℤ z) × (z <ℤ ((int_div_euclid z (pos d) *ℤ pos d) +ℤ pos d))
floor_is (pos a) d p =
    let low = div-mul-le_self a d in
    let high = lt-div-mul-add {a = a} {b = d} p in
    (omega (arith, ints, low), omega (arith, ints, high))
floor_is (negsuc a) d p =
    let low = div-mul-le_self a d in
    let high = lt-div-mul-add {a = a} {b = d} p in
    (omega (arith, ints, high), omega (arith, ints, low))

-- z is the rounding's dividend, as a number with its sign
rounded_pos : (a : ℤ) (b n : ℕ) → ((pos 2 *ℤ a) +ℤ pos b) ≡ pos n → rounded_quotient a (pos b) ≡ pos (n / (2 * b))
unfolding rounded_quotient
rounded_pos a b n e = rw e refl

rounded_neg : (a : ℤ) (b n : ℕ) → ((pos 2 *ℤ a) +ℤ pos b) ≡ negsuc n → rounded_quotient a (pos b) ≡ negsuc (n / (2 * b))
unfolding rounded_quotient
rounded_neg a b n e = rw e refl

-- a quotient by at least two is at most a half
half_le : (n m b : ℕ) → 0 < b → n ≤ 2 * m + b → n / (2 * b) ≤ m
half_le n m b some small =
    let more = mul-le-mul_left (2 * m + 1) some in
    let below : n < (m + 1) * (2 * b) = omega (arith, more) in
    let lt : n / (2 * b) < m + 1 = (div-lt_iff_lt-mul {k = 2 * b} {x = n} {y = m + 1} (omega arith)).1 below in
    omega arith

-- rounding makes no number greater in size
pub rounded_size : (a : ℤ) (b : ℕ) → 0 < b → unsigned_abs (rounded_quotient a (pos b)) ≤ unsigned_abs a
rounded_size (pos m) b some =
    rw (rounded_pos (pos m) b (2 * m + b) (omega (arith, ints))) (half_le (2 * m + b) m b some (omega arith))
rounded_size (negsuc m) b some = elim (cases_lt b (2 * m + 2)) [
  | inl low ↦ rw (rounded_neg (negsuc m) b (2 * m + 1 - b) (omega (arith, ints))) (let h = half_le (2 * m + 1 - b) m b some (omega arith) in omega (arith, h))
  | inr high ↦ rw (rounded_pos (negsuc m) b (b - (2 * m + 2)) (omega (arith, ints))) (let h = half_le (b - (2 * m + 2)) 0 b some (omega arith) in omega (arith, h))
]

pub size_of_rounded : (a b : ℤ) → pos 0 <ℤ b → unsigned_abs (rounded_quotient a b) ≤ unsigned_abs a
size_of_rounded a (pos b) some = rounded_size a b (omega (arith, ints))
size_of_rounded a (negsuc b) some = absurd (omega (arith, ints))

-- ---- the nearest

-- a multiple that is below the one after another is no greater than that
no_greater : (m n : ℤ) (d : ℕ) → (m *ℤ pos d) <ℤ ((n *ℤ pos d) +ℤ pos d) → m ≤ℤ n
no_greater (pos m) (pos n) d h = elim (cases_lt n m) [
  | inl more ↦ let far = mul-le-mul_right {m = n + 1} {n = m} d (omega arith) in absurd (omega (arith, ints, far))
  | inr less ↦ omega (arith, ints)
]
no_greater (pos m) (negsuc n) d h = absurd (omega (arith, ints))
no_greater (negsuc m) (pos n) d h = omega (arith, ints)
no_greater (negsuc m) (negsuc n) d h = elim (cases_lt m n) [
  | inl more ↦ let far = mul-le-mul_right {m = m + 1} {n = n} d (omega arith) in absurd (omega (arith, ints, far))
  | inr less ↦ omega (arith, ints)
]

-- the multiples of 2 * b, as twice those of b
doubled : (r : ℤ) (b : ℕ) → pos 2 *ℤ (r *ℤ pos b) ≡ r *ℤ pos (2 * b)
doubled (pos r) b = omega (arith, ints)
doubled (negsuc r) b = omega (arith, ints)

nearest_from_floor : (a q : ℤ) (b : ℕ) → (q *ℤ pos (2 * b)) ≤ℤ ((pos 2 *ℤ a) +ℤ pos b)
    → ((pos 2 *ℤ a) +ℤ pos b) <ℤ ((q *ℤ pos (2 * b)) +ℤ pos (2 * b)) → IsNearest a (pos b) q
nearest_from_floor a q b low high =
    let same = doubled q b in
    record { not_above = omega (arith, ints); not_below = omega (arith, ints) }

pub nearest : (a b : ℤ) → pos 0 <ℤ b → IsNearest a b (rounded_quotient a b)
unfolding rounded_quotient
nearest a (pos b) some =
    let floor = floor_is ((pos 2 *ℤ a) +ℤ pos b) (2 * b) (omega (arith, ints)) in
    nearest_from_floor a (rounded_quotient a (pos b)) b floor.0 floor.1
nearest a (negsuc b) some = absurd (omega (arith, ints))

-- two that are nearest are no greater than each other
no_greater_nearest : (a r q : ℤ) (b : ℕ) → IsNearest a (pos b) r → IsNearest a (pos b) q → r ≤ℤ q
no_greater_nearest a r q b h k =
    let left = doubled r b in
    let right = doubled q b in
    no_greater r q (2 * b) (omega (arith, ints))

pub nearest_only : (a b r : ℤ) → pos 0 <ℤ b → IsNearest a b r → r ≡ rounded_quotient a b
nearest_only a (pos b) r some h =
    let own = nearest a (pos b) some in
    let up = no_greater_nearest a r (rounded_quotient a (pos b)) b h own in
    let down = no_greater_nearest a (rounded_quotient a (pos b)) r b own h in
    omega (arith, ints)
nearest_only a (negsuc b) r some h = absurd (omega (arith, ints))

-- ---- order

-- division keeps order
pub quotient_rises : (x y d : ℕ) → 0 < d → x ≤ y → x / d ≤ y / d
quotient_rises x y d some h = let low = div-mul-le_self x d in le-div (x / d) y d some (omega (arith, low))

pub div_rises : (x y : ℤ) (d : ℕ) → 0 < d → x ≤ℤ y → int_div_euclid x (pos d) ≤ℤ int_div_euclid y (pos d)
div_rises (pos x) (pos y) d some h = let q = quotient_rises x y d some (omega (arith, ints)) in omega (arith, ints, q)
div_rises (pos x) (negsuc y) d some h = absurd (omega (arith, ints))
div_rises (negsuc x) (pos y) d some h = omega (arith, ints)
div_rises (negsuc x) (negsuc y) d some h = let q = quotient_rises y x d some (omega (arith, ints)) in omega (arith, ints, q)

-- rounding keeps order
pub rounded_rises : (x y b : ℤ) → pos 0 <ℤ b → x ≤ℤ y → rounded_quotient x b ≤ℤ rounded_quotient y b
unfolding rounded_quotient
rounded_rises x y (pos b) some h = div_rises ((pos 2 *ℤ x) +ℤ pos b) ((pos 2 *ℤ y) +ℤ pos b) (2 * b) (omega (arith, ints)) (omega (arith, ints))
rounded_rises x y (negsuc b) some h = absurd (omega (arith, ints))

-- a whole quotient is exact
pub rounded_exact : (q b : ℤ) → pos 0 <ℤ b → rounded_quotient (q *ℤ b) b ≡ q
rounded_exact q b some = sym (nearest_only (q *ℤ b) b q some (record { not_above = omega (arith, ints); not_below = omega (arith, ints) }))

-- what lies between multiples of the divisor is rounded to between the quotients
pub rounded_between : (low high a b : ℤ) → pos 0 <ℤ b → (low *ℤ b) ≤ℤ a → a ≤ℤ (high *ℤ b) → (low ≤ℤ rounded_quotient a b) × (rounded_quotient a b ≤ℤ high)
rounded_between low high a b some above below = (
  subst (λ (v : ℤ). v ≤ℤ rounded_quotient a b) (rounded_exact low b some) (rounded_rises (low *ℤ b) a b some above),
  subst (λ (v : ℤ). rounded_quotient a b ≤ℤ v) (rounded_exact high b some) (rounded_rises a (high *ℤ b) b some below),
)
