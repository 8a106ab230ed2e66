-- The coordinates of a curve's points: their bounds, and that those of the abscissas rise.
use Rattle.std.proofs.Common.{◌≡◌, ℕ, zero, suc, add-zero, ◌+◌, ◌-◌, ◌*◌, ◌^◌, ◌<◌, ◌≤◌, refl, subst, ap, ◌∙◌, arith, inl, inr}
use Rattle.std.specs.Prelude.{ℤ, pos, negsuc, ◌+ℤ◌, ◌*ℤ◌, ◌≤ℤ◌, unsigned_abs}
use Rattle.std.proofs.lemmas.Bool.{cases_lt}
use Rattle.std.proofs.lemmas.Grind.{pow_more}
use Rattle.std.proofs.lemmas.Int.{ints, unsigned_abs-mul}
use Rattle.std.proofs.Math.Nat.{mul-le-mul_left, pow-zero, le_trans}
use Rattle.easing.specs.Bezier.{coordinate, IsReached, IsUnitCoordinate, parts, whole}

square : (n : ℕ) → n ^ 2 ≡ n * n
square n = pow_more n 1 ∙ ap (λ m. m * n) (pow_more n 0 ∙ rw (pow-zero n) (omega arith))

cube : (n : ℕ) → n ^ 3 ≡ n * n * n
cube n = pow_more n 2 ∙ ap (λ m. m * n) (square n)

-- a coordinate by its three weights
abbrev pub weighted : ℕ → ℕ → ℕ → ℤ → ℤ → ℤ
weighted p q r first second = (pos (3 * p) *ℤ first +ℤ pos (3 * q) *ℤ second) +ℤ pos (r * 1000)

pub term_size : (weight : ℕ) (c : ℤ) → unsigned_abs c ≤ 10000 → unsigned_abs (pos weight *ℤ c) ≤ 10000 * weight
term_size weight c h = rw (unsigned_abs-mul (pos weight) c) (let m = mul-le-mul_left weight h in omega (arith, m))

-- the weights, a third of the first two, make up no more than the cube of their factors' sum
weights_fit : (k rest n : ℕ) → k + rest ≡ n → 3 * (k * rest * rest) + 3 * (k * k * rest) + k * k * k ≤ n * n * n
weights_fit k rest n e = subst (λ (m : ℕ). 3 * (k * rest * rest) + 3 * (k * k * rest) + k * k * k ≤ m * m * m) e (omega arith)

pub weighted_size : (k rest p q r : ℕ) (first second : ℤ) → k + rest ≡ parts → p ≡ k * rest * rest → q ≡ k * k * rest → r ≡ k * k * k
    → unsigned_abs first ≤ 10000 → unsigned_abs second ≤ 10000 → unsigned_abs (weighted p q r first second) ≤ 10 * whole
weighted_size k rest p q r first second e is_p is_q is_r h1 h2 =
    let fit = weights_fit k rest parts e in
    let t1 = term_size (3 * p) first h1 in
    let t2 = term_size (3 * q) second h2 in
    omega (arith, ints)

pub is_weighted : (k p q r : ℕ) (first second : ℤ) → p ≡ k * (parts - k) * (parts - k) → q ≡ k * k * (parts - k) → r ≡ k * k * k
    → coordinate first second k ≡ weighted p q r first second
is_weighted k p q r first second is_p is_q is_r = go (parts - k) is_p is_q where
  go : (rest : ℕ) → p ≡ k * rest * rest → q ≡ k * k * rest → (pos (3 * k * rest ^ 2) *ℤ first +ℤ pos (3 * k ^ 2 * rest) *ℤ second) +ℤ pos (1000 * k ^ 3) ≡ weighted p q r first second
  go rest is_p is_q =
      let one : 3 * k * rest ^ 2 ≡ 3 * p = rw (square rest) (omega arith) in
      let two : 3 * k ^ 2 * rest ≡ 3 * q = rw (square k) (omega arith) in
      let three : 1000 * k ^ 3 ≡ r * 1000 = rw (cube k) (omega arith) in
      rw (one, two, three) refl

-- ---- abscissas rise

-- from a parameter to the next, with rest + 1 and rest left of the parts: sums of weights that don't fall
last_rises : (k : ℕ) → k * k * k ≤ (k + 1) * (k + 1) * (k + 1)
last_rises k = omega arith

last_two_rise : (k rest : ℕ) → 3 * (k * k * (rest + 1)) + k * k * k ≤ 3 * ((k + 1) * (k + 1) * rest) + (k + 1) * (k + 1) * (k + 1)
last_two_rise k rest = omega arith

all_rise : (k rest : ℕ) → 3 * (k * (rest + 1) * (rest + 1)) + 3 * (k * k * (rest + 1)) + k * k * k
    ≤ 3 * ((k + 1) * rest * rest) + 3 * ((k + 1) * (k + 1) * rest) + (k + 1) * (k + 1) * (k + 1)
all_rise k rest = omega arith

outer_rise_early : (k d : ℕ) → 3 * (k * (k + d + 1) * (k + d + 1)) + k * k * k ≤ 3 * ((k + 1) * (k + d) * (k + d)) + (k + 1) * (k + 1) * (k + 1)
outer_rise_early k d = omega arith

outer_rise_late : (rest d : ℕ) → 3 * ((rest + d) * (rest + 1) * (rest + 1)) + (rest + d) * (rest + d) * (rest + d)
    ≤ 3 * ((rest + d + 1) * rest * rest) + (rest + d + 1) * (rest + d + 1) * (rest + d + 1)
outer_rise_late rest d = omega arith

outer_rise : (k rest : ℕ) → 3 * (k * (rest + 1) * (rest + 1)) + k * k * k ≤ 3 * ((k + 1) * rest * rest) + (k + 1) * (k + 1) * (k + 1)
outer_rise k rest = elim (cases_lt k rest) [
  | inl less ↦ let is : k + (rest - k) ≡ rest = omega arith in
      subst (λ (v : ℕ). 3 * (k * (v + 1) * (v + 1)) + k * k * k ≤ 3 * ((k + 1) * v * v) + (k + 1) * (k + 1) * (k + 1)) is (outer_rise_early k (rest - k))
  | inr more ↦ let is : rest + (k - rest) ≡ k = omega arith in
      subst (λ (v : ℕ). 3 * (v * (rest + 1) * (rest + 1)) + v * v * v ≤ 3 * ((v + 1) * rest * rest) + (v + 1) * (v + 1) * (v + 1)) is (outer_rise_late rest (k - rest))
]

-- the weights of three points, and their next ones
abbrev mixed : ℕ → ℕ → ℕ → ℕ → ℕ → ℕ → ℕ
mixed p q r a b c = 3 * p * a + 3 * q * b + r * c

rises_in_order : (a e f p q r p' q' r' : ℕ) → r ≤ r' → 3 * q + r ≤ 3 * q' + r' → 3 * p + 3 * q + r ≤ 3 * p' + 3 * q' + r'
    → mixed p q r a (a + e) (a + e + f) ≤ mixed p' q' r' a (a + e) (a + e + f)
rises_in_order a e f p q r p' q' r' last two all =
    let h1 = mul-le-mul_left a all in
    let h2 = mul-le-mul_left e two in
    let h3 = mul-le-mul_left f last in
    omega (arith, h1, h2, h3)

rises_crossed : (b e f p q r p' q' r' : ℕ) → r ≤ r' → 3 * p + r ≤ 3 * p' + r' → 3 * p + 3 * q + r ≤ 3 * p' + 3 * q' + r'
    → mixed p q r (b + e) b (b + e + f) ≤ mixed p' q' r' (b + e) b (b + e + f)
rises_crossed b e f p q r p' q' r' last outer all =
    let h1 = mul-le-mul_left b all in
    let h2 = mul-le-mul_left e outer in
    let h3 = mul-le-mul_left f last in
    omega (arith, h1, h2, h3)

rises_mixed : (a b p q r p' q' r' : ℕ) → a ≤ 1000 → b ≤ 1000 → r ≤ r' → 3 * q + r ≤ 3 * q' + r' → 3 * p + r ≤ 3 * p' + r' → 3 * p + 3 * q + r ≤ 3 * p' + 3 * q' + r'
    → mixed p q r a b 1000 ≤ mixed p' q' r' a b 1000
rises_mixed a b p q r p' q' r' low high last two outer all = elim (cases_lt a b) [
  | inl less ↦ let is : a + (b - a) ≡ b = omega arith in let top : a + (b - a) + (1000 - b) ≡ 1000 = omega arith in
      subst (λ (v : ℕ). mixed p q r a v 1000 ≤ mixed p' q' r' a v 1000) is
      (subst (λ (v : ℕ). mixed p q r a (a + (b - a)) v ≤ mixed p' q' r' a (a + (b - a)) v) top
      (rises_in_order a (b - a) (1000 - b) p q r p' q' r' last two all))
  | inr more ↦ let is : b + (a - b) ≡ a = omega arith in let top : b + (a - b) + (1000 - a) ≡ 1000 = omega arith in
      subst (λ (v : ℕ). mixed p q r v b 1000 ≤ mixed p' q' r' v b 1000) is
      (subst (λ (v : ℕ). mixed p q r (b + (a - b)) b v ≤ mixed p' q' r' (b + (a - b)) b v) top
      (rises_crossed b (a - b) (1000 - a) p q r p' q' r' last outer all))
]

-- an abscissa by those of the control points, at a parameter and what it leaves of the parts
abbrev abscissa : ℕ → ℕ → ℕ → ℕ → ℕ
abscissa a b k rest = mixed (k * rest * rest) (k * k * rest) (k * k * k) a b 1000

rises_once : (a b k rest : ℕ) → a ≤ 1000 → b ≤ 1000 → abscissa a b k (rest + 1) ≤ abscissa a b (k + 1) rest
rises_once a b k rest low high =
    rises_mixed a b (k * (rest + 1) * (rest + 1)) (k * k * (rest + 1)) (k * k * k) ((k + 1) * rest * rest) ((k + 1) * (k + 1) * rest) ((k + 1) * (k + 1) * (k + 1))
    low high (last_rises k) (last_two_rise k rest) (outer_rise k rest) (all_rise k rest)

rises_by : (d a b k rest : ℕ) → a ≤ 1000 → b ≤ 1000 → abscissa a b k (rest + d) ≤ abscissa a b (k + d) rest
rises_by zero a b k rest low high = rw (add-zero rest, add-zero k) (omega arith)
rises_by (suc d) a b k rest low high =
    let now : rest + suc d ≡ (rest + d) + 1 = omega arith in
    let later : k + suc d ≡ (k + 1) + d = omega arith in
    let once = rises_once a b k (rest + d) low high in
    let more = rises_by d a b (k + 1) rest low high in
    rw (now, later) (le_trans once more)

weighted_is : (a b k rest : ℕ) → weighted (k * rest * rest) (k * k * rest) (k * k * k) (pos a) (pos b) ≡ pos (abscissa a b k rest)
weighted_is a b k rest = refl

abscissa_is : (a b k : ℕ) → coordinate (pos a) (pos b) k ≡ pos (abscissa a b k (parts - k))
abscissa_is a b k = is_weighted k (k * (parts - k) * (parts - k)) (k * k * (parts - k)) (k * k * k) (pos a) (pos b) refl refl refl ∙ weighted_is a b k (parts - k)

abscissas_rise : (a b k m : ℕ) → a ≤ 1000 → b ≤ 1000 → k ≤ m → m ≤ parts → abscissa a b k (parts - k) ≤ abscissa a b m (parts - m)
abscissas_rise a b k m low high before within =
    let there : k + (m - k) ≡ m = omega arith in
    let left : parts - m + (m - k) ≡ parts - k = omega arith in
    let h = rises_by (m - k) a b k (parts - m) low high in
    let e = subst (λ (v : ℕ). abscissa a b k v ≤ abscissa a b (k + (m - k)) (parts - m)) left h in
    subst (λ (v : ℕ). abscissa a b k (parts - k) ≤ abscissa a b v (parts - m)) there e

pos_le : {n o : ℕ} → n ≤ o → pos n ≤ℤ pos o
pos_le h = omega (arith, ints)

-- a coordinate at a further parameter is no less
pub coordinates_rise : (x1 x2 : ℤ) (k m : ℕ) → IsUnitCoordinate x1 → IsUnitCoordinate x2 → k ≤ m → m ≤ parts → coordinate x1 x2 k ≤ℤ coordinate x1 x2 m
coordinates_rise (pos a) (pos b) k m h1 h2 before within =
    let h = abscissas_rise a b k m (omega (arith, ints, h1.high)) (omega (arith, ints, h2.high)) before within in
    rw (abscissa_is a b k, abscissa_is a b m) (pos_le h)
coordinates_rise (negsuc a) x2 k m h1 h2 before within = absurd (omega (arith, ints, h1.low))
coordinates_rise (pos a) (negsuc b) k m h1 h2 before within = absurd (omega (arith, ints, h2.low))

pub coordinate_at_start : (first second : ℤ) → coordinate first second 0 ≡ pos 0
coordinate_at_start first second = omega (arith, ints)

pub coordinate_at_end : (first second : ℤ) → coordinate first second parts ≡ pos whole
coordinate_at_end first second = omega (arith, ints)

pub coordinate_unit : (y1 y2 : ℤ) (k : ℕ) → IsUnitCoordinate y1 → IsUnitCoordinate y2 → k ≤ parts → (pos 0 ≤ℤ coordinate y1 y2 k) × (coordinate y1 y2 k ≤ℤ pos whole)
coordinate_unit y1 y2 k h1 h2 within = (
  subst (λ (v : ℤ). v ≤ℤ coordinate y1 y2 k) (coordinate_at_start y1 y2) (coordinates_rise y1 y2 0 k h1 h2 (omega arith) within),
  subst (λ (v : ℤ). coordinate y1 y2 k ≤ℤ v) (coordinate_at_end y1 y2) (coordinates_rise y1 y2 k parts h1 h2 within (omega arith)),
)

before_it : (u v w : ℤ) → u ≤ℤ v → (v *ℤ pos (10 ^ 9)) ≤ℤ w → (u *ℤ pos (10 ^ 9)) ≤ℤ w
before_it u v w h k = omega (arith, ints)

-- what is reached at a parameter is reached at each before it
pub reached_before : (x1 x2 x : ℤ) (k m : ℕ) → IsUnitCoordinate x1 → IsUnitCoordinate x2 → k ≤ m → m ≤ parts → IsReached x1 x2 x m → IsReached x1 x2 x k
reached_before x1 x2 x k m h1 h2 before within h =
    before_it (coordinate x1 x2 k) (coordinate x1 x2 m) (x *ℤ pos whole) (coordinates_rise x1 x2 k m h1 h2 before within) h

some_left : (p q m a b : ℕ) → 0 < mixed p q (suc m * suc m * suc m) a b 1000
some_left p q m a b = omega arith

none_left : (n : ℕ) → 0 < n → (pos n *ℤ pos (10 ^ 9)) ≤ℤ (pos 0 *ℤ pos whole) → ⊥
none_left n some h = omega (arith, ints)

-- the input 0 reaches the start alone
pub only_start_reached : (x1 x2 : ℤ) (m : ℕ) → pos 0 ≤ℤ x1 → pos 0 ≤ℤ x2 → IsReached x1 x2 (pos 0) m → m ≤ 0
only_start_reached (pos a) (pos b) zero h1 h2 h = omega arith
only_start_reached (pos a) (pos b) (suc m) h1 h2 h = absurd (far (subst (λ (v : ℤ). (v *ℤ pos (10 ^ 9)) ≤ℤ (pos 0 *ℤ pos whole)) (abscissa_is a b (suc m)) h)) where
  far : (pos (abscissa a b (suc m) (parts - suc m)) *ℤ pos (10 ^ 9)) ≤ℤ (pos 0 *ℤ pos whole) → ⊥
  far h = none_left (abscissa a b (suc m) (parts - suc m)) (some_left (suc m * (parts - suc m) * (parts - suc m)) (suc m * suc m * (parts - suc m)) m a b) h
only_start_reached (negsuc a) x2 m h1 h2 h = absurd (omega (arith, ints))
only_start_reached (pos a) (negsuc b) m h1 h2 h = absurd (omega (arith, ints))
