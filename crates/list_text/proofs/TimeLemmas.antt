-- The times and counts that the reader finds are what the parts spell.
use Rattle.std.proofs.Common.{◌≡◌, ℕ, ◌^◌, ◌≤◌, nat_le, refl, arith, ap, sym, subst, ◌∙◌, List, ◌∷◌, [], cond, Bool, true, false, Some, None, ℤ, pos, negsuc, unsigned_abs, codes}
use Rattle.std.specs.Prelude.{◌≤ℤ◌}
use Rattle.std.proofs.lemmas.Bool.Decides.{nat_tests}
use Rattle.std.proofs.lemmas.Int.{ints}
use Rattle.fix_num.specs.Rounded.{StandsNear}
use Rattle.fix_num.specs.declared.units.Micros.{Micros}
use Rattle.token_parts.specs.Keywords.{is_keyword}
use Rattle.token_parts.specs.Parts.{TokenPart, Ident, Number, Dimension}
use Rattle.timing_types.specs.Timing.{IsCount, IsDelay, IsDuration}
use Rattle.timing_types.specs.declared.timing.Count.{Count}
use Rattle.timing_types.specs.declared.timing.Count.TheVariants.{Times, Infinite}
use Rattle.list_text.specs.Numbers.{clamp, clamped_nearest, not_negative}
use Rattle.list_text.specs.Lists.{IsCountSpelling, IsDelaySpelling, IsDurationSpelling, IsTime, infinite, milliseconds, seconds, times}
use Rattle.list_text.specs.ItemReading.{count_of, count_within, micros, micros_of, micros_within, time_of, time_with}
use Rattle.list_text.specs.Reading.{Numbers, natural}
use Rattle.list_text.proofs.ListLemmas.{IsWhole, Judges}
use Rattle.token_parts.proofs.KeywordLemmas.{only_one}
use Rattle.list_text.proofs.OptionLemmas.{bound, mapped, passed}
use Rattle.list_text.proofs.ViewLemmas.{Reads, at_limits, clamped_was, kept, natural_found, natural_was, not_negative_was, same_test, sign_kept}

unit_was : (n u : List ℕ) (w : ℤ) (a b : Bool) → is_keyword u (codes "s") ≡ a → is_keyword u (codes "ms") ≡ b
    → cond a (clamped_nearest 6 (10 ^ 15) n) (cond b (clamped_nearest 3 (10 ^ 15) n) None) ≡ Some w → (v : ℤ) × IsTime (Dimension n u ∷ []) v × (clamp (10 ^ 15) v ≡ w)
unit_was n u w true b p q h = let s = clamped_was 6 (10 ^ 15) n w h in (s.0, seconds n u s.0 p s.1, s.2)
unit_was n u w false true p q h = let s = clamped_was 3 (10 ^ 15) n w h in (s.0, milliseconds n u s.0 q s.1, s.2)
unit_was n u w false false p q h = absurd (cc)

with_was : (n u : List ℕ) (w : ℤ) → time_with clamped_nearest n u ≡ Some w → (v : ℤ) × IsTime (Dimension n u ∷ []) v × (clamp (10 ^ 15) v ≡ w)
unfolding time_with
with_was n u w h = unit_was n u w (is_keyword u (codes "s")) (is_keyword u (codes "ms")) refl refl h

pub time_was : (parts : List TokenPart) (w : ℤ) → time_of clamped_nearest parts ≡ Some w → (v : ℤ) × IsTime parts v × (clamp (10 ^ 15) v ≡ w)
time_was (Dimension n u ∷ []) w h = with_was n u w h
time_was _ w h = absurd (cc)

pub time_found : {parts : List TokenPart} {v : ℤ} (num : Numbers) (view : ℕ → ℤ → ℤ) → Reads num view → IsTime parts v → time_of num parts ≡ Some (view (10 ^ 15) v)
unfolding time_with
time_found num view r (seconds n u v is near) = rw is (r.reads 6 (10 ^ 15) n v near)
time_found num view r (milliseconds n u v is near) = rw (only_one u (codes "ms") (codes "s") is refl, is) (r.reads 3 (10 ^ 15) n v near)

pub time_whole : {parts : List TokenPart} {v : ℤ} → IsTime parts v → IsWhole parts
time_whole (seconds n u v is near) = record { alone = refl; before = λ rest. refl }
time_whole (milliseconds n u v is near) = record { alone = refl; before = λ rest. refl }

-- ---- delays

-- what a delay was read from
delay_was : (parts : List TokenPart) (y : Micros) → micros_of clamped_nearest true parts ≡ Some y → (v : ℤ) × IsTime parts v × (micros (clamp (10 ^ 15) v) ≡ y)
unfolding micros_of
delay_was parts y h =
    let s = bound (time_of clamped_nearest parts) _ y h in
    let t = time_was parts s.0 s.1 in
    let e : micros s.0 ≡ y = cc (s.2) in
    (t.0, t.1, ap micros t.2 ∙ e)

pub delay_found : (num : Numbers) (view : ℕ → ℤ → ℤ) (parts : List TokenPart) (x : Micros) → Reads num view → IsTime parts x.0
    → micros_of num true parts ≡ Some (micros (view (10 ^ 15) x.0))
unfolding micros_of
delay_found num view parts x r h = rw (time_found num view r h) refl

delay_kept : (parts : List TokenPart) (y : Micros) → micros_of clamped_nearest true parts ≡ Some y → micros_within y ≡ true → IsDelaySpelling parts y × IsDelay y
delay_kept parts y h w =
    let was = delay_was parts y h in
    let small = same_test (10 ^ 15) was.0 (subst (λ z. micros_within z ≡ true) (sym was.2) w) in
    let same : micros was.0 ≡ y = ap micros (sym small.0) ∙ was.2 in
    (subst (λ z. IsDelaySpelling parts z) same was.1, subst IsDelay same (record { size = small.1 }))

-- where the clamped time isn't within its limit, nor is the time
far_time : (v : ℤ) (y : Micros) → micros (clamp (10 ^ 15) v) ≡ y → micros_within y ≡ false → unsigned_abs v ≤ 10 ^ 15 → ⊥
far_time v y is w size =
    let small : clamp (10 ^ 15) v ≡ v = at_limits.small (10 ^ 15) v size in
    let near : nat_le (unsigned_abs v) (10 ^ 15) ≡ true = grind (arith, nat_tests) in
    let same : micros v ≡ y = ap micros (sym small) ∙ is in
    let within : micros_within y ≡ true = subst (λ z. micros_within z ≡ true) same near in
    cc

delay_past : (parts : List TokenPart) (y : Micros) → micros_of clamped_nearest true parts ≡ Some y → micros_within y ≡ false
    → (x : Micros) × IsDelaySpelling parts x × (IsDelay x → ⊥)
delay_past parts y h w =
    let was = delay_was parts y h in
    (micros was.0, was.1, λ (d : IsDelay (micros was.0)). far_time was.0 y was.2 w d.size)

pub delay_judges : Judges IsDelaySpelling IsDelay (micros_of clamped_nearest true) micros_within
delay_judges = record {
  whole = λ parts x h. time_whole h;
  found = λ parts x h. (micros (clamp (10 ^ 15) x.0), delay_found clamped_nearest clamp parts x at_limits h);
  kept = delay_kept;
  past = delay_past;
}

-- ---- durations

-- what a duration was read from
duration_was : (parts : List TokenPart) (y : Micros) → micros_of clamped_nearest false parts ≡ Some y
    → (n : ℕ) × IsTime parts (pos n) × (micros (clamp (10 ^ 15) (pos n)) ≡ y)
unfolding micros_of
duration_was parts y h =
    let s = bound (time_of clamped_nearest parts) _ y h in
    let m = mapped _ (not_negative s.0) y s.2 in
    let t = time_was parts s.0 s.1 in
    let is : clamp (10 ^ 15) t.0 ≡ pos m.0 = t.2 ∙ not_negative_was s.0 m.0 m.1 in
    let sign = sign_kept (10 ^ 15) m.0 t.0 is in
    (sign.0, subst (λ v. IsTime parts v) sign.1 t.1, ap micros (subst (λ v. clamp (10 ^ 15) v ≡ pos m.0) sign.1 is) ∙ m.2)

duration_at : (num : Numbers) (view : ℕ → ℤ → ℤ) (parts : List TokenPart) (n : ℕ) → Reads num view → IsTime parts (pos n)
    → micros_of num false parts ≡ Some (micros (view (10 ^ 15) (pos n)))
unfolding micros_of
duration_at num view parts n r h =
    let k = kept num view (10 ^ 15) n r in
    rw (time_found num view r h, k.1) refl

duration_of : (num : Numbers) (view : ℕ → ℤ → ℤ) (parts : List TokenPart) (v : ℤ) → Reads num view → IsTime parts v → pos 0 ≤ℤ v
    → micros_of num false parts ≡ Some (micros (view (10 ^ 15) v))
duration_of num view parts (pos n) r h low = duration_at num view parts n r h
duration_of num view parts (negsuc n) r h low = absurd (omega (arith, ints, low))

pub duration_found : (num : Numbers) (view : ℕ → ℤ → ℤ) (parts : List TokenPart) (x : Micros) → Reads num view → IsDurationSpelling parts x
    → micros_of num false parts ≡ Some (micros (view (10 ^ 15) x.0))
duration_found num view parts x r h = duration_of num view parts x.0 r h.0 h.1

duration_kept : (parts : List TokenPart) (y : Micros) → micros_of clamped_nearest false parts ≡ Some y → micros_within y ≡ true → IsDurationSpelling parts y × IsDuration y
duration_kept parts y h w =
    let was = duration_was parts y h in
    let small = same_test (10 ^ 15) (pos was.0) (subst (λ z. micros_within z ≡ true) (sym was.2) w) in
    let most : was.0 ≤ 10 ^ 15 = small.1 in
    let same : micros (pos was.0) ≡ y = ap micros (sym small.0) ∙ was.2 in
    let low : pos 0 ≤ℤ pos was.0 = omega (arith, ints) in
    let high : pos was.0 ≤ℤ pos (10 ^ 15) = omega (arith, ints, most) in
    (subst (λ z. IsDurationSpelling parts z) same (was.1, low), subst IsDuration same (record { low = low; high = high }))

duration_past : (parts : List TokenPart) (y : Micros) → micros_of clamped_nearest false parts ≡ Some y → micros_within y ≡ false
    → (x : Micros) × IsDurationSpelling parts x × (IsDuration x → ⊥)
duration_past parts y h w =
    let was = duration_was parts y h in
    let low : pos 0 ≤ℤ pos was.0 = omega (arith, ints) in (
      micros (pos was.0),
      (was.1, low),
      λ (d : IsDuration (micros (pos was.0))).
          let high = d.high in
          let size : was.0 ≤ 10 ^ 15 = omega (arith, ints, high) in
          far_time (pos was.0) y was.2 w size,
    )

pub duration_judges : Judges IsDurationSpelling IsDuration (micros_of clamped_nearest false) micros_within
duration_judges = record {
  whole = λ parts x h. time_whole h.0;
  found = λ parts x h. (micros (clamp (10 ^ 15) x.0), duration_found clamped_nearest clamp parts x at_limits h);
  kept = duration_kept;
  past = duration_past;
}

-- ---- counts

-- the count with its number seen so
abbrev pub view_count : (ℕ → ℤ → ℤ) → Count → Count
view_count view (Times n) = Times (record { 0 = view (10 ^ 12) n.0 })
view_count view Infinite = Infinite

count_was : (parts : List TokenPart) (y : Count) → count_of clamped_nearest parts ≡ Some y → (x : Count) × IsCountSpelling parts x × (view_count clamp x ≡ y)
count_was (Ident w ∷ []) y h =
    let is = passed (is_keyword w (codes "infinite")) (Some Infinite) y h in
    let same : Infinite ≡ y = cc (is.1) in
    (Infinite, infinite w is.0, same)
count_was (Number n ∷ []) y h =
    let m = mapped (λ k. Times (record { 0 = pos k })) (natural clamped_nearest 6 (10 ^ 12) n) y h in
    let was = natural_was 6 (10 ^ 12) n m.0 m.1 in
    let low : pos 0 ≤ℤ pos was.0 = omega (arith, ints) in
    (Times (record { 0 = pos was.0 }), times n (pos was.0) was.1 low, ap (λ z. Times (record { 0 = z })) was.2 ∙ m.2)
count_was _ y h = absurd (cc)

number_found : (num : Numbers) (view : ℕ → ℤ → ℤ) (n : List ℕ) (v : ℤ) → Reads num view → StandsNear 6 n v → pos 0 ≤ℤ v
    → count_of num (Number n ∷ []) ≡ Some (Times (record { 0 = view (10 ^ 12) v }))
number_found num view n (pos m) r near low =
    let k = natural_found num view 6 (10 ^ 12) m n r near in
    rw k.1 (ap (λ z. Some (Times (record { 0 = z }))) (sym k.2))
number_found num view n (negsuc m) r near low = absurd (omega (arith, ints, low))

pub count_found : {parts : List TokenPart} {x : Count} (num : Numbers) (view : ℕ → ℤ → ℤ) → Reads num view → IsCountSpelling parts x
    → count_of num parts ≡ Some (view_count view x)
count_found num view r (times n v near low) = number_found num view n v r near low
count_found num view r (infinite w is) = rw is refl

pub count_whole : {parts : List TokenPart} {x : Count} → IsCountSpelling parts x → IsWhole parts
count_whole (times n v near low) = record { alone = refl; before = λ rest. refl }
count_whole (infinite w is) = record { alone = refl; before = λ rest. refl }

up_to : (v : ℤ) (limit : ℕ) → pos 0 ≤ℤ v → unsigned_abs v ≤ limit → v ≤ℤ pos limit
up_to (pos n) limit low size = let most : n ≤ limit = size in omega (arith, ints, most)
up_to (negsuc n) limit low size = absurd (omega (arith, ints, low))

size_to : (v : ℤ) (limit : ℕ) → pos 0 ≤ℤ v → v ≤ℤ pos limit → unsigned_abs v ≤ limit
size_to (pos n) limit low high = let most : n ≤ limit = omega (arith, ints, high) in most
size_to (negsuc n) limit low high = absurd (omega (arith, ints, low))

within_kept : {parts : List TokenPart} {x : Count} → IsCountSpelling parts x → count_within (view_count clamp x) ≡ true → (view_count clamp x ≡ x) × IsCount x
within_kept (times n v near low) h =
    let small = same_test (10 ^ 12) v h in
    (ap (λ z. Times (record { 0 = z })) small.0, (low, up_to v (10 ^ 12) low small.1))
within_kept (infinite w is) h = (refl, tt)

kept_within : (x : Count) → IsCount x → (view_count clamp x ≡ x) × (count_within x ≡ true)
kept_within (Times n) h =
    let size = size_to n.0 (10 ^ 12) h.0 h.1 in
    let near : nat_le (unsigned_abs n.0) (10 ^ 12) ≡ true = grind (arith, nat_tests) in
    (ap (λ z. Times (record { 0 = z })) (at_limits.small (10 ^ 12) n.0 size), near)
kept_within Infinite h = (refl, refl)

count_kept : (parts : List TokenPart) (y : Count) → count_of clamped_nearest parts ≡ Some y → count_within y ≡ true → IsCountSpelling parts y × IsCount y
count_kept parts y h w =
    let was = count_was parts y h in
    let all = within_kept was.1 (subst (λ z. count_within z ≡ true) (sym was.2) w) in
    let same : was.0 ≡ y = sym all.0 ∙ was.2 in
    (subst (λ z. IsCountSpelling parts z) same was.1, subst IsCount same all.1)

count_past : (parts : List TokenPart) (y : Count) → count_of clamped_nearest parts ≡ Some y → count_within y ≡ false
    → (x : Count) × IsCountSpelling parts x × (IsCount x → ⊥)
count_past parts y h w =
    let was = count_was parts y h in (
      was.0,
      was.1,
      λ (all : IsCount was.0).
          let k = kept_within was.0 all in
          let same : was.0 ≡ y = sym k.0 ∙ was.2 in
          let within : count_within y ≡ true = subst (λ z. count_within z ≡ true) same k.1 in
          cc,
    )

pub count_judges : Judges IsCountSpelling IsCount (count_of clamped_nearest) count_within
count_judges = record {
  whole = λ parts x h. count_whole h;
  found = λ parts x h. (view_count clamp x, count_found clamped_nearest clamp at_limits h);
  kept = count_kept;
  past = count_past;
}
