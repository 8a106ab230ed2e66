-- A text spells the decimal that the reader's functions find in it, and no other.
use Rattle.std.proofs.Common.{◌≡◌, ℕ, ◌<◌, nat_lt, suc, refl, arith, ap, subst, sym, ◌∙◌, ◌∷◌, [], ◌++◌, List, Bool, true, false, cond, drop, length, inl, inr, Option, Some, None, ◌==◌, ◌&&◌}
use Rattle.std.specs.Prelude.{take_while, IsTrue}
use Rattle.std.specs.Char.{is_ascii_digit}
use Rattle.std.proofs.lemmas.Bool.{cases_Bool, and_parts, eqb-true}
use Rattle.std.proofs.lemmas.Bool.Decides.{nat_tests}
use Rattle.std.proofs.lemmas.List.{drop_at, take-append-drop, length-append}
use Rattle.std.proofs.lemmas.Option.{cond_some}
use Rattle.std.proofs.lemmas.List.Sums.{take_while-cons}
use Rattle.fix_num.specs.Digits.{are_digits}
use Rattle.fix_num.specs.Decimal.{Decimal, IsDecimal, IsSign, decimal_from, decimal_of, point_and_digits, unsigned_of, with_fraction}
use Rattle.fix_num.proofs.DecimalLemmas.{front_passes, front_taken}

-- ---- what is spelled is found

-- the digits before a point are all that the text begins with
front_of : (whole fraction : List ℕ) → are_digits whole ≡ true → take_while is_ascii_digit (whole ++ point_and_digits fraction) ≡ whole
front_of [] [] h = refl
front_of [] (d ∷ ds) h = take_while-cons is_ascii_digit 46 (d ∷ ds)
front_of (w ∷ ws) fraction h =
    let parts = and_parts (is_ascii_digit w) _ h in
    take_while-cons is_ascii_digit w (ws ++ point_and_digits fraction) ∙ ap (λ b. cond b (w ∷ take_while is_ascii_digit (ws ++ point_and_digits fraction)) []) parts.0 ∙ ap (λ l. w ∷ l) (front_of ws fraction parts.1)

not_empty : (n : ℕ) → (suc n == 0) ≡ false
not_empty n = grind (arith, nat_tests)

not_alone : (n : ℕ) → nat_lt 1 (suc (suc n)) ≡ true
not_alone n = grind (arith, nat_tests)

-- a point with digits after it
point_read : (negative : Bool) (whole : List ℕ) (c x : ℕ) (xs : List ℕ)
    → with_fraction negative whole (c ∷ x ∷ xs) ≡ cond (c == 46 && are_digits (x ∷ xs)) (Some (decimal_from negative whole (x ∷ xs))) None
point_read negative whole c x xs = rw (not_empty (suc (length xs)), not_alone (length xs)) (elim (c == 46) as (λ b. cond (b && true && are_digits (x ∷ xs)) (Some (decimal_from negative whole (x ∷ xs))) None ≡ cond (b && are_digits (x ∷ xs)) (Some (decimal_from negative whole (x ∷ xs))) None) [ true ↦ refl | false ↦ refl ])

rest_read : (negative : Bool) (whole fraction : List ℕ) → are_digits fraction ≡ true → 0 < length (whole ++ fraction)
    → with_fraction negative whole (point_and_digits fraction) ≡ Some (decimal_from negative whole fraction)
rest_read negative [] [] h some = absurd (omega arith)
rest_read negative (w ∷ ws) [] h some = rw (not_empty (length ws)) refl
rest_read negative whole (d ∷ ds) h some = point_read negative whole 46 d ds ∙ ap (λ b. cond b (Some (decimal_from negative whole (d ∷ ds))) None) h

unsigned_read : (negative : Bool) (whole fraction : List ℕ) → are_digits whole ≡ true → are_digits fraction ≡ true → 0 < length (whole ++ fraction)
    → unsigned_of negative (whole ++ point_and_digits fraction) ≡ Some (decimal_from negative whole fraction)
unfolding unsigned_of
unsigned_read negative whole fraction w f some =
    ap (λ front. with_fraction negative front (drop (length front) (whole ++ point_and_digits fraction))) (front_of whole fraction w)
    ∙ ap (λ rest. with_fraction negative whole rest) (drop_at whole (point_and_digits fraction) (length whole) refl)
    ∙ rest_read negative whole fraction f some

digit_no_sign : (c : ℕ) → is_ascii_digit c ≡ true → ((c == 45) ≡ false) × ((c == 43) ≡ false)
digit_no_sign c h = grind (arith, nat_tests)

-- a text with no sign is read as it stands
no_sign : (c : ℕ) (cs : List ℕ) → (c == 45) ≡ false → (c == 43) ≡ false → decimal_of (c ∷ cs) ≡ unsigned_of false (c ∷ cs)
unfolding decimal_of
no_sign c cs minus plus = rw (not_empty (length cs), minus, plus) refl

bare_read : (whole fraction : List ℕ) → are_digits whole ≡ true → are_digits fraction ≡ true → 0 < length (whole ++ fraction)
    → decimal_of (whole ++ point_and_digits fraction) ≡ Some (decimal_from false whole fraction)
bare_read [] [] w f some = absurd (omega arith)
bare_read [] (d ∷ ds) w f some = no_sign 46 (d ∷ ds) refl refl ∙ unsigned_read false [] (d ∷ ds) w f some
bare_read (c ∷ cs) fraction w f some =
    let none = digit_no_sign c (and_parts (is_ascii_digit c) _ w).0 in
    no_sign c (cs ++ point_and_digits fraction) none.0 none.1 ∙ unsigned_read false (c ∷ cs) fraction w f some

minus_read : (text : List ℕ) → decimal_of (45 ∷ text) ≡ unsigned_of true text
unfolding decimal_of
minus_read text = rw (not_empty (length text)) refl

plus_read : (text : List ℕ) → decimal_of (43 ∷ text) ≡ unsigned_of false text
unfolding decimal_of
plus_read text = rw (not_empty (length text)) refl

sign_read : (sign : List ℕ) (negative : Bool) (whole fraction : List ℕ) → IsSign sign negative → are_digits whole ≡ true → are_digits fraction ≡ true
    → 0 < length (whole ++ fraction) → decimal_of (sign ++ (whole ++ point_and_digits fraction)) ≡ Some (decimal_from negative whole fraction)
sign_read [] negative whole fraction s w f some = bare_read whole fraction w f some ∙ ap (λ b. Some (decimal_from b whole fraction)) (sym s)
sign_read (c ∷ []) negative whole fraction s w f some = elim s [
  | inl plus ↦ ap (λ x. decimal_of (x ∷ (whole ++ point_and_digits fraction))) plus.0 ∙ plus_read (whole ++ point_and_digits fraction)
      ∙ unsigned_read false whole fraction w f some ∙ ap (λ b. Some (decimal_from b whole fraction)) (sym plus.1)
  | inr minus ↦ ap (λ x. decimal_of (x ∷ (whole ++ point_and_digits fraction))) minus.0 ∙ minus_read (whole ++ point_and_digits fraction)
      ∙ unsigned_read true whole fraction w f some ∙ ap (λ b. Some (decimal_from b whole fraction)) (sym minus.1)
]
sign_read (c ∷ d ∷ cs) negative whole fraction s w f some = absurd s

pub found : (text : List ℕ) (d : Decimal) → IsDecimal text d → decimal_of text ≡ Some d
found text d h =
    ap decimal_of h.spelled.2 ∙ sign_read h.spelled.0 d.negative d.whole d.fraction h.spelled.1 h.whole h.fraction h.some

-- ---- what is found is spelled

-- the decimal d is spelled without its sign
record IsUnsigned (text : List ℕ) (negative : Bool) (d : Decimal) : Type 0 where
  sign : d.negative ≡ negative
  spelled : text ≡ d.whole ++ point_and_digits d.fraction
  whole : IsTrue (are_digits d.whole)
  fraction : IsTrue (are_digits d.fraction)
  some : 0 < length (d.whole ++ d.fraction)

unsigned_at : (negative : Bool) (whole fraction : List ℕ) (d : Decimal) → ◌≡◌ {A = Option Decimal} (Some (decimal_from negative whole fraction)) (Some d)
    → are_digits whole ≡ true → are_digits fraction ≡ true → 0 < length (whole ++ fraction) → IsUnsigned (whole ++ point_and_digits fraction) negative d
unsigned_at negative whole fraction d e w f some =
    let same : decimal_from negative whole fraction ≡ d = cc in
    subst (λ x. IsUnsigned (whole ++ point_and_digits fraction) negative x) same (record { sign = refl; spelled = refl; whole = w; fraction = f; some = some })

rest_spelled : (negative : Bool) (whole rest : List ℕ) (d : Decimal) → are_digits whole ≡ true → with_fraction negative whole rest ≡ Some d → IsUnsigned (whole ++ rest) negative d
rest_spelled negative [] [] d w e = absurd (cc)
rest_spelled negative (c ∷ cs) [] d w e = unsigned_at negative (c ∷ cs) [] d (rw (not_empty (length cs)) at e) w refl (omega arith)
rest_spelled negative whole (c ∷ []) d w e = elim (cases_Bool (c == 46)) [
  | inl point ↦ let h = rw point at e in absurd (cc)
  | inr other ↦ let h = rw other at e in absurd (cc)
]
rest_spelled negative whole (c ∷ x ∷ xs) d w e =
    let read = cond_some _ _ _ (sym (point_read negative whole c x xs) ∙ e) in
    let parts = and_parts (c == 46) _ read.0 in
    subst (λ p. IsUnsigned (whole ++ p ∷ x ∷ xs) negative d) (sym (eqb-true c 46 parts.0))
    (unsigned_at negative whole (x ∷ xs) d (ap Some read.1) w parts.1 (omega (arith, length-append {A = ℕ})))

unsigned_spelled : (negative : Bool) (text : List ℕ) (d : Decimal) → unsigned_of negative text ≡ Some d → IsUnsigned text negative d
unfolding unsigned_of
unsigned_spelled negative text d e =
    let whole : List ℕ = take_while is_ascii_digit text in
    let split : whole ++ drop (length whole) text ≡ text = ap (λ l. l ++ drop (length whole) text) (sym (front_taken is_ascii_digit text)) ∙ take-append-drop (length whole) text in
    subst (λ t. IsUnsigned t negative d) split (rest_spelled negative whole (drop (length whole) text) d (front_passes is_ascii_digit text) e)

with_sign : (sign text : List ℕ) (negative : Bool) (d : Decimal) → IsSign sign negative → IsUnsigned text negative d → IsDecimal (sign ++ text) d
with_sign sign text negative d s u = record {
  spelled = (sign, subst (λ b. IsSign sign b) (sym u.sign) s, ap (λ l. sign ++ l) u.spelled);
  whole = u.whole;
  fraction = u.fraction;
  some = u.some;
}

pub spelled : (text : List ℕ) (d : Decimal) → decimal_of text ≡ Some d → IsDecimal text d
unfolding decimal_of
spelled [] d e = absurd (cc)
spelled (c ∷ cs) d e =
    let e : cond (c == 45) (unsigned_of true cs) (cond (c == 43) (unsigned_of false cs) (unsigned_of false (c ∷ cs))) ≡ Some d = rw (not_empty (length cs)) at e in
    elim (cases_Bool (c == 45)) [
      | inl minus ↦ with_sign (c ∷ []) cs true d (inr (eqb-true c 45 minus, refl)) (unsigned_spelled true cs d (rw minus at e))
      | inr other ↦ elim (cases_Bool (c == 43)) [
        | inl plus ↦ with_sign (c ∷ []) cs false d (inl (eqb-true c 43 plus, refl)) (unsigned_spelled false cs d (rw (other, plus) at e))
        | inr bare ↦ with_sign [] (c ∷ cs) false d refl (unsigned_spelled false (c ∷ cs) d (rw (other, bare) at e))
      ]
    ]
