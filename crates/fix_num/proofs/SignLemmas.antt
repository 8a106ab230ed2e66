-- The sign of the number that a text stands for.
use Rattle.std.proofs.Common.{◌≡◌, ℕ, ◌<◌, ◌^◌, refl, arith, ◌∙◌, List, length, drop, cond, ◌==◌, Bool, true, false, Option, Some, None, ℤ, pos, negsuc, unsigned_abs}
use Rattle.std.specs.Prelude.{neg_ℤ, slice_index}
use Rattle.std.proofs.lemmas.Int.{ints}
use Rattle.std.proofs.Math.Nat.{mul-le-mul_right}
use Rattle.fix_num.specs.Decimal.{Decimal, decimal_of, is_minus, signed_number, unsigned_of}
use Rattle.fix_num.specs.Rounded.{StandsNear}
use Rattle.fix_num.specs.Rounding.{IsNearest}
use Rattle.fix_num.proofs.PrintLemmas.{power_positive}
use Rattle.fix_num.proofs.SpellingLemmas.{found}

-- the nearest number has the sign of the quotient, unless it is 0
not_minus : (m b : ℕ) (v : ℤ) → 0 < b → IsNearest (pos m) (pos b) v → is_minus v ≡ false
not_minus m b (pos n) some h = refl
not_minus m b (negsuc n) some h = absurd (omega (arith, ints, h.not_below))

is_minus_of : (m b : ℕ) (v : ℤ) → 0 < b → 0 < unsigned_abs v → IsNearest (neg_ℤ (pos m)) (pos b) v → is_minus v ≡ true
is_minus_of m b (pos n) some size h =
    let more = mul-le-mul_right {m = 1} {n = n} b (omega (arith, ints)) in
    absurd (omega (arith, ints, h.not_above, more))
is_minus_of m b (negsuc n) some size h = refl

minus_at : (negative : Bool) (m b : ℕ) (v : ℤ) → 0 < b → 0 < unsigned_abs v → IsNearest (signed_number negative m) (pos b) v → is_minus v ≡ negative
minus_at true m b v some size h = is_minus_of m b v some size h
minus_at false m b v some size h = not_minus m b v some h

-- a decimal is negative where its text begins with `-`
chosen_sign : (a b c negative : Bool) (x y d : Decimal) → x.negative ≡ negative → y.negative ≡ negative
    → cond a (cond b None (Some x)) (cond c (Some y) None) ≡ Some d → d.negative ≡ negative
chosen_sign true true c n x y d p q h = absurd (cc)
chosen_sign true false c n x y d p q h = let same : x ≡ d = cc in cc
chosen_sign false b true n x y d p q h = let same : y ≡ d = cc in cc
chosen_sign false b false n x y d p q h = absurd (cc)

unsigned_sign : (negative : Bool) (text : List ℕ) (d : Decimal) → unsigned_of negative text ≡ Some d → d.negative ≡ negative
unfolding unsigned_of
unsigned_sign negative text d h = chosen_sign _ _ _ negative _ _ d refl refl h

sign_chosen : (a b c : Bool) (o p q : Option Decimal) (d : Decimal) → (o ≡ Some d → d.negative ≡ true) → (p ≡ Some d → d.negative ≡ false)
    → (q ≡ Some d → d.negative ≡ false) → cond a None (cond b o (cond c p q)) ≡ Some d → d.negative ≡ b
sign_chosen true b c o p q d f g h e = absurd (cc)
sign_chosen false true c o p q d f g h e = f e
sign_chosen false false true o p q d f g h e = g e
sign_chosen false false false o p q d f g h e = h e

decimal_sign : (text : List ℕ) (d : Decimal) → decimal_of text ≡ Some d → d.negative ≡ (slice_index text 0 == 45)
unfolding decimal_of
decimal_sign text d h = sign_chosen _ (slice_index text 0 == 45) _ _ _ _ d (unsigned_sign true (drop 1 text) d) (unsigned_sign false (drop 1 text) d) (unsigned_sign false text d) h

-- a number that isn't 0 is below 0 where its text begins with `-`
pub sign_of : (places : ℕ) (text : List ℕ) (v : ℤ) → StandsNear places text v → 0 < unsigned_abs v → is_minus v ≡ (slice_index text 0 == 45)
sign_of places text v near size =
    let some = power_positive (length near.0.fraction) in
    minus_at near.0.negative _ (10 ^ length near.0.fraction) v some size near.2
    ∙ decimal_sign text near.0 (found text near.0 near.1)

-- a sign changes no size
pub size_of_signed : (negative : Bool) (n : ℕ) → unsigned_abs (signed_number negative n) ≡ n
size_of_signed false n = refl
size_of_signed true n = omega (arith, ints)
