-- The ends, and what lies between them.
use Rattle.std.proofs.Common.{◌≡◌, ℕ, zero, suc, ◌^◌, refl, arith, sym, subst}
use Rattle.std.specs.Prelude.{ℤ, pos, ◌≤ℤ◌, Bool, true, false, if◌then◌else◌, ◌||◌}
use Rattle.std.specs.Ordering.{int_eq}
use Rattle.std.proofs.lemmas.Int.{ints, clamps}
use Rattle.std.proofs.lemmas.Bool.Decides.{Decides-int_eq}
use Rattle.fix_num.specs.declared.units.Fix.{Fix}
use Rattle.value_types.specs.Ranges.{highest_of, lowest_of}
use Rattle.value_types.specs.Table.{black, fix, range_of}
use Rattle.value_types.specs.Validity.{IsValid, IsAlpha}
use Rattle.value_types.specs.declared.property.PropertyId.{PropertyId}
use Rattle.value_types.specs.declared.value.Value.{Value}
use Rattle.value_types.specs.declared.value.Value.TheVariants as value
use Rattle.interpolation.specs.Colors.{alpha_between, color_with, channel_between}
use Rattle.interpolation.specs.Equality.{is_same}
use Rattle.interpolation.specs.Interpolation.{counted_beside, by_parts, value_between, component_at, IsBetween}
use Rattle.interpolation.specs.Numbers.{on_the_way, number_between, integer_between}
use Rattle.interpolation.proofs.EqualityLemmas.{same_tells, same_as_itself}
use Rattle.interpolation.proofs.NumberLemmas.{way_fits, clamped_fits}
use Rattle.interpolation.proofs.ValidityLemmas.{IsFrom, from_number, from_percent, at_each_output, beside_valid}

pub from_at_0 : (p : PropertyId) (a b : Value) → value_between p a b (pos 0) ≡ a
unfolding value_between
from_at_0 p a b = refl

same_or_there : (a b : Value) (t : Bool) → is_same a b ≡ t → (if t then a else b) ≡ b
same_or_there a b true e = (same_tells a b).0 e
same_or_there a b false e = refl

pub to_at_1 : (p : PropertyId) (a b : Value) → value_between p a b (pos (10 ^ 9)) ≡ b
unfolding value_between
to_at_1 p a b = same_or_there a b (is_same a b) refl

first_of_both : (a b : Value) (s t : Bool) → t ≡ true → (if s || t then a else b) ≡ a
first_of_both a b true t e = refl
first_of_both a b false t e = rw e refl

pub equal_stays : (p : PropertyId) (a : Value) (q : ℤ) → value_between p a a q ≡ a
unfolding value_between
equal_stays p a q = first_of_both a _ (int_eq q (pos 0)) (is_same a a) (same_as_itself a)

-- ---- colours

unequal : (x y : ℤ) → (x ≡ y → ⊥) → int_eq x y ≡ false
unequal x y h = not_true (int_eq x y) (λ e. h ((Decides-int_eq x y).0 e)) where
  not_true : (b : Bool) → (b ≡ true → ⊥) → b ≡ false
  not_true true k = absurd (k refl)
  not_true false k = refl

pub color_is : (r g b : ℕ) (a : Fix) (r' g' b' : ℕ) (a' : Fix) (q : ℤ) (alpha : Fix) → (alpha.0 ≡ pos 0 → ⊥)
    → color_with r g b a r' g' b' a' q alpha
    ≡ value.Color (channel_between r a r' a' q alpha) (channel_between g a g' a' q alpha) (channel_between b a b' a' q alpha) alpha
unfolding color_with
color_is r g b a r' g' b' a' q alpha some = rw (unequal alpha.0 (pos 0) some) refl

-- the alpha of the colour at an output
alpha_at : (r g b : ℕ) (a : Fix) (r' g' b' : ℕ) (a' : Fix) (q : ℤ) (alpha : Fix) (k : ℕ)
    → component_at k (color_with r g b a r' g' b' a' q alpha) ≡ component_at k (value.Angle alpha)
unfolding color_with
alpha_at r g b a r' g' b' a' q alpha k = go (int_eq alpha.0 (pos 0)) refl k where
  go : (t : Bool) → int_eq alpha.0 (pos 0) ≡ t → (k : ℕ)
      → component_at k (if t then black (fix 0) else value.Color (channel_between r a r' a' q alpha) (channel_between g a g' a' q alpha) (channel_between b a b' a' q alpha) alpha) ≡ component_at k (value.Angle alpha)
  go true e zero = sym ((Decides-int_eq alpha.0 (pos 0)).0 e)
  go true e (suc k) = refl
  go false e k = refl

-- ---- each number lies between those of the ends

at_first : (a b : ℤ) → IsBetween a b a
at_first a b = record { low = omega (arith, ints, clamps); high = omega (arith, ints, clamps) }

at_second : (a b : ℤ) → IsBetween a b b
at_second a b = record { low = omega (arith, ints, clamps); high = omega (arith, ints, clamps) }

number_fits : (p : PropertyId) (m n : Fix) (q : ℤ) → pos 0 ≤ℤ q → q ≤ℤ pos (10 ^ 9) → IsFrom (range_of p) m.0 → IsFrom (range_of p) n.0
    → IsBetween m.0 n.0 (number_between p m n q).0
unfolding number_between
number_fits p m n q low high h k =
    clamped_fits (lowest_of (range_of p)) (highest_of (range_of p)) m.0 n.0 (on_the_way m.0 n.0 q) h.low h.high k.low k.high (way_fits m.0 n.0 q low high)

alpha_fits : (a b : Fix) (q : ℤ) → pos 0 ≤ℤ q → q ≤ℤ pos (10 ^ 9) → IsAlpha a → IsAlpha b → IsBetween a.0 b.0 (alpha_between a b q).0
unfolding alpha_between
alpha_fits a b q low high h k = clamped_fits (pos 0) (pos (10 ^ 6)) a.0 b.0 (on_the_way a.0 b.0 q) h.0 h.1 k.0 k.1 (way_fits a.0 b.0 q low high)

integer_fits : (p : PropertyId) (i j q : ℤ) → pos 0 ≤ℤ q → q ≤ℤ pos (10 ^ 9) → IsValid p (value.Int i) → IsValid p (value.Int j) → IsBetween i j (integer_between i j q)
unfolding integer_between
integer_fits p i j q low high h k =
    let first = h.1 in
    let second = k.1 in
    clamped_fits _ _ i j (on_the_way i j q) (omega (arith, ints)) (omega (arith, ints)) (omega (arith, ints)) (omega (arith, ints)) (way_fits i j q low high)

same_number : (w v : Value) (k : ℕ) → component_at k (counted_beside w v) ≡ component_at k v
same_number (value.Angle n) value.Absent zero = refl
same_number (value.Angle n) value.Absent (suc k) = refl
same_number (value.Pair x xp y yp) value.Absent zero = refl
same_number (value.Pair x xp y yp) value.Absent (suc zero) = refl
same_number (value.Pair x xp y yp) value.Absent (suc (suc zero)) = refl
same_number (value.Pair x xp y yp) value.Absent (suc (suc (suc zero))) = refl
same_number (value.Pair x xp y yp) value.Absent (suc (suc (suc (suc k)))) = refl
same_number w v k = refl

-- the numbers of an angle, of a length and of a pair, with what lies between them
one_fits : (a b v : ℤ) (k : ℕ) → IsBetween a b v
    → IsBetween (component_at k (value.Int a)) (component_at k (value.Int b)) (component_at k (value.Int v))
one_fits a b v zero h = h
one_fits a b v (suc k) h = at_first (pos 0) (pos 0)

two_fit : (a a' b b' v v' : Fix) (k : ℕ) → IsBetween a.0 b.0 v.0 → IsBetween a'.0 b'.0 v'.0
    → IsBetween (component_at k (value.Length a a')) (component_at k (value.Length b b')) (component_at k (value.Length v v'))
two_fit a a' b b' v v' zero h h' = h
two_fit a a' b b' v v' (suc zero) h h' = h'
two_fit a a' b b' v v' (suc (suc k)) h h' = at_first (pos 0) (pos 0)

four_fit : (x xp y yp x' xp' y' yp' v vp w wp : Fix) (k : ℕ)
    → IsBetween x.0 x'.0 v.0 → IsBetween xp.0 xp'.0 vp.0 → IsBetween y.0 y'.0 w.0 → IsBetween yp.0 yp'.0 wp.0
    → IsBetween (component_at k (value.Pair x xp y yp)) (component_at k (value.Pair x' xp' y' yp')) (component_at k (value.Pair v vp w wp))
four_fit x xp y yp x' xp' y' yp' v vp w wp zero f g h i = f
four_fit x xp y yp x' xp' y' yp' v vp w wp (suc zero) f g h i = g
four_fit x xp y yp x' xp' y' yp' v vp w wp (suc (suc zero)) f g h i = h
four_fit x xp y yp x' xp' y' yp' v vp w wp (suc (suc (suc zero))) f g h i = i
four_fit x xp y yp x' xp' y' yp' v vp w wp (suc (suc (suc (suc k)))) f g h i = at_first (pos 0) (pos 0)

parts_fit : (p : PropertyId) (a b : Value) (q : ℤ) (k : ℕ) → IsValid p a → IsValid p b → pos 0 ≤ℤ q → q ≤ℤ pos (10 ^ 9)
    → IsBetween (component_at k a) (component_at k b) (component_at k (by_parts p a b q))
parts_fit p (value.Number m) (value.Number n) q k h i low high =
    one_fits m.0 n.0 _ k (number_fits p m n q low high (from_number p m h.1) (from_number p n i.1))
parts_fit p (value.Length m mp) (value.Length n np) q k h i low high =
    two_fit m mp n np _ _ k (number_fits p m n q low high (from_number p m h.1) (from_number p n i.1))
    (number_fits p mp np q low high (from_percent p mp h.2) (from_percent p np i.2))
parts_fit p (value.Int m) (value.Int n) q k h i low high = one_fits m n _ k (integer_fits p m n q low high h i)
parts_fit p (value.Color r g b a) (value.Color r' g' b' a') q k h i low high =
    rw (alpha_at r g b a r' g' b' a' q (alpha_between a a' q) k) (one_fits a.0 a'.0 _ k (alpha_fits a a' q low high h.1.alpha i.1.alpha))
parts_fit p (value.Angle m) (value.Angle n) q k h i low high =
    one_fits m.0 n.0 _ k (number_fits p m n q low high (from_number p m h.1) (from_number p n i.1))
parts_fit p (value.Pair x xp y yp) (value.Pair x' xp' y' yp') q k h i low high =
    let fits = λ (m n : Fix) (f : IsFrom (range_of p) m.0) (g : IsFrom (range_of p) n.0). number_fits p m n q low high f g in
    four_fit x xp y yp x' xp' y' yp' _ _ _ _ k
    (fits x x' (from_number p x h.1) (from_number p x' i.1)) (fits xp xp' (from_number p xp h.2) (from_number p xp' i.2))
    (fits y y' (from_number p y h.3) (from_number p y' i.3)) (fits yp yp' (from_number p yp h.4) (from_number p yp' i.4))
parts_fit p (value.Visible v) (value.Visible w) q k h i low high = at_first (pos 0) (pos 0)
parts_fit p a b q k h i low high = at_first (component_at k a) (component_at k b)

pub numbers_fit : (p : PropertyId) (a b : Value) (q : ℤ) (k : ℕ) → IsValid p a → IsValid p b → pos 0 ≤ℤ q → q ≤ℤ pos (10 ^ 9)
    → IsBetween (component_at k a) (component_at k b) (component_at k (value_between p a b q))
numbers_fit p a b q k h i low high =
    at_each_output (λ v. IsBetween (component_at k a) (component_at k b) (component_at k v)) p a b q (at_first (component_at k a) (component_at k b)) (at_second (component_at k a) (component_at k b))
    (subst (λ (x : ℤ). IsBetween x (component_at k b) (component_at k (by_parts p (counted_beside b a) (counted_beside a b) q))) (same_number b a k)
    (subst (λ (y : ℤ). IsBetween (component_at k (counted_beside b a)) y (component_at k (by_parts p (counted_beside b a) (counted_beside a b) q))) (same_number a b k)
    (parts_fit p (counted_beside b a) (counted_beside a b) q k (beside_valid p b a i h) (beside_valid p a b h i) low high)))
