-- Two ways of reading numbers: as they are, and clamped.
use Rattle.std.proofs.Common.{◌≡◌, ℕ, suc, ◌+◌, ◌<◌, ◌≤◌, nat_le, refl, arith, ap, sym, subst, ◌∙◌, List, true, false, Some, ℤ, pos, negsuc, unsigned_abs, inl, inr, ◌⊎◌}
use Rattle.std.proofs.lemmas.Bool.{cases_lt}
use Rattle.std.proofs.lemmas.Bool.Decides.{nat_tests}
use Rattle.std.proofs.lemmas.Int.{ints}
use Rattle.fix_num.specs.Decimal.{is_minus}
use Rattle.fix_num.specs.Rounded.{StandsNear}
use Rattle.fix_num.proofs.SignLemmas.{size_of_signed}
use Rattle.list_text.specs.Numbers.{clamp, clamped_nearest, nearest, not_negative}
use Rattle.list_text.specs.Reading.{Numbers, natural}
use Rattle.list_text.proofs.NumberLemmas.{clamp_large, clamp_small, near_found, near_was}
use Rattle.list_text.proofs.OptionLemmas.{bound, mapped}

-- what stands near is read as its view, which keeps what is within the limit
pub record Reads (num : Numbers) (view : ℕ → ℤ → ℤ) : Type 0 where
  pub reads : (places limit : ℕ) (text : List ℕ) (v : ℤ) → StandsNear places text v → num places limit text ≡ Some (view limit v)
  pub small : (limit : ℕ) (v : ℤ) → unsigned_abs v ≤ limit → view limit v ≡ v
  pub large : (limit n : ℕ) → limit < n → (k : ℕ) × (view limit (pos n) ≡ pos k) × (limit < k)

abbrev pub plain : ℕ → ℤ → ℤ
plain limit v = v

pub as_it_is : Reads nearest plain
as_it_is = record { reads = λ places limit text v near. near_found places limit text v near; small = λ limit v h. refl; large = λ limit n h. (n, refl, h) }

clamped_reads : (places limit : ℕ) (text : List ℕ) (v : ℤ) → StandsNear places text v → clamped_nearest places limit text ≡ Some (clamp limit v)
unfolding clamped_nearest
clamped_reads places limit text v near = rw (near_found places limit text v near) refl

clamp_pos : (limit n : ℕ) → limit < n → clamp limit (pos n) ≡ pos (limit + 1)
clamp_pos limit n h = clamp_large limit (pos n) h

pub at_limits : Reads clamped_nearest clamp
at_limits = record { reads = clamped_reads; small = clamp_small; large = λ limit n h. (limit + 1, clamp_pos limit n h, omega arith) }

-- a number that is not negative stays so
pub kept : (num : Numbers) (view : ℕ → ℤ → ℤ) (limit n : ℕ) → Reads num view
    → (k : ℕ) × (view limit (pos n) ≡ pos k) × (((k ≡ n) × (n ≤ limit)) ⊎ ((limit < k) × (limit < n)))
kept num view limit n r = elim (cases_lt limit n) [
  | inl more ↦ let h = r.large limit n more in (h.0, h.1, inr (h.2, more))
  | inr less ↦ (n, r.small limit (pos n) less, inl (refl, less))
]

pub clamped_was : (places limit : ℕ) (text : List ℕ) (w : ℤ) → clamped_nearest places limit text ≡ Some w → (v : ℤ) × StandsNear places text v × (clamp limit v ≡ w)
unfolding clamped_nearest
clamped_was places limit text w h =
    let found = mapped (clamp limit) (nearest places limit text) w h in
    (found.0, near_was places limit text found.0 found.1, found.2)

pub not_negative_was : (v : ℤ) (k : ℕ) → not_negative v ≡ Some k → v ≡ pos k
not_negative_was (pos n) k h = let e : n ≡ k = cc in ap pos e
not_negative_was (negsuc n) k h = absurd (cc)

pub sign_kept : (limit k : ℕ) (v : ℤ) → clamp limit v ≡ pos k → (n : ℕ) × (v ≡ pos n)
sign_kept limit k (pos n) h = (n, refl)
sign_kept limit k (negsuc n) h = elim (cases_lt limit (suc n)) [
  | inl more ↦ let e = sym (clamp_large limit (negsuc n) more) ∙ h in absurd (omega (arith, ints, e))
  | inr less ↦ let e = sym (clamp_small limit (negsuc n) less) ∙ h in absurd (cc)
]

pub natural_was : (places limit : ℕ) (text : List ℕ) (k : ℕ) → natural clamped_nearest places limit text ≡ Some k
    → (n : ℕ) × StandsNear places text (pos n) × (clamp limit (pos n) ≡ pos k)
unfolding natural
natural_was places limit text k h =
    let step = bound (clamped_nearest places limit text) not_negative k h in
    let was = clamped_was places limit text step.0 step.1 in
    let is : clamp limit was.0 ≡ pos k = was.2 ∙ not_negative_was step.0 k step.2 in
    let sign = sign_kept limit k was.0 is in
    (sign.0, subst (λ v. StandsNear places text v) sign.1 was.1, subst (λ v. clamp limit v ≡ pos k) sign.1 is)

-- the clamped size is the size, or both pass the limit
pub sizes : (limit n k : ℕ) → clamp limit (pos n) ≡ pos k → ((k ≡ n) × (n ≤ limit)) ⊎ ((k ≡ limit + 1) × (limit < n))
sizes limit n k h = elim (cases_lt limit n) [
  | inl more ↦ let e = sym (clamp_pos limit n more) ∙ h in inr (omega (arith, ints, e), more)
  | inr less ↦ let e = sym (clamp_small limit (pos n) less) ∙ h in inl (omega (arith, ints, e), less)
]

pub natural_found : (num : Numbers) (view : ℕ → ℤ → ℤ) (places limit n : ℕ) (text : List ℕ) → Reads num view → StandsNear places text (pos n)
    → (k : ℕ) × (natural num places limit text ≡ Some k) × (view limit (pos n) ≡ pos k) × (((k ≡ n) × (n ≤ limit)) ⊎ ((limit < k) × (limit < n)))
unfolding natural
natural_found num view places limit n text r near =
    let h = kept num view limit n r in
    let e : num places limit text ≡ Some (pos h.0) = r.reads places limit text (pos n) near ∙ ap Some h.1 in
    (h.0, rw e refl, h.1, h.2)

past_limit : (limit : ℕ) (v : ℤ) → limit < unsigned_abs v → nat_le (unsigned_abs (clamp limit v)) limit ≡ true → ⊥
past_limit limit v more h =
    let size : unsigned_abs (clamp limit v) ≡ limit + 1 = ap unsigned_abs (clamp_large limit v more) ∙ size_of_signed (is_minus v) (limit + 1) in
    let small : nat_le (limit + 1) limit ≡ true = subst (λ n. nat_le n limit ≡ true) size h in
    let large : nat_le (limit + 1) limit ≡ false = grind (arith, nat_tests) in
    cc

-- the size is within the limit where the clamped one is
pub same_test : (limit : ℕ) (v : ℤ) → nat_le (unsigned_abs (clamp limit v)) limit ≡ true → (clamp limit v ≡ v) × (unsigned_abs v ≤ limit)
same_test limit v h = elim (cases_lt limit (unsigned_abs v)) [
  | inl more ↦ absurd (past_limit limit v more h)
  | inr less ↦ (clamp_small limit v less, less)
]

pub clamp_size : (limit : ℕ) (v : ℤ) → unsigned_abs (clamp limit v) ≤ limit + 1
clamp_size limit v = elim (cases_lt limit (unsigned_abs v)) [
  | inl more ↦ let size : unsigned_abs (clamp limit v) ≡ limit + 1 = ap unsigned_abs (clamp_large limit v more) ∙ size_of_signed (is_minus v) (limit + 1) in omega arith
  | inr less ↦ let size = ap unsigned_abs (clamp_small limit v less) in omega (arith, size)
]

pub clamped_size : (places limit : ℕ) (text : List ℕ) (v : ℤ) → Some v ≡ clamped_nearest places limit text → unsigned_abs v ≤ limit + 1
clamped_size places limit text v h =
    let was = clamped_was places limit text v (sym h) in
    subst (λ z. unsigned_abs z ≤ limit + 1) was.2 (clamp_size limit was.0)

pub natural_size : (places limit : ℕ) (text : List ℕ) (k : ℕ) → Some k ≡ natural clamped_nearest places limit text → k ≤ limit + 1
natural_size places limit text k h =
    let was = natural_was places limit text k (sym h) in
    let size = clamp_size limit (pos was.0) in
    let same = ap unsigned_abs was.2 in
    omega (arith, size, same)
