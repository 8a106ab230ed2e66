-- How often a standing stands among origins.
use Rattle.std.proofs.Common.{◌≡◌, ◌≢◌, ◌∙◌, ap, refl, arith, inl, inr, ℕ, zero, suc, ◌+◌, ◌<◌, ◌≤◌, eqb, List, [], ◌∷◌, ◌++◌, map, filter, Bool, true, not, ◌&&◌, cond, Option, None, Some}
use Rattle.std.specs.Prelude.{◌⊎◌, All, AllPairs}
use Rattle.std.specs.List.{cons_option, filter_map, flat_map}
use Rattle.std.proofs.lemmas.Bool.{and_parts, cases_Bool, cases_eq, cases_lt, eq-eqb, eqb-true, ne_eqb}
use Rattle.std.proofs.lemmas.List.Elements.{All-cons, All-head, All-nil, All-tail}
use Rattle.std.proofs.lemmas.List.Kept.{AllPairs-cons}
use Rattle.ticker.proofs.Pairs.{pairs_head, pairs_none, pairs_tail}
use Rattle.ticker.specs.Events.{standing}
use Rattle.ticker.specs.declared.event.Standing.{Standing}
use Rattle.restyle.specs.Distinct.{AreOrigins}

-- ---- totals

-- what the items give together
unfoldable pub total : {X : Type 0} → (X → ℕ) → List X → ℕ
total f [] = 0
total f (x ∷ xs) = f x + total f xs

-- what an item gives, where there is one
abbrev pub given : {X : Type 0} → (X → ℕ) → Option X → ℕ
given f None = 0
given f (Some x) = f x

pub total-append : {X : Type 0} (f : X → ℕ) (xs ys : List X) → total f (xs ++ ys) ≡ total f xs + total f ys
unfolding total
total-append f [] ys = omega arith
total-append f (x ∷ xs) ys = omega (arith, total-append f xs ys)

pub total-map : {X Y : Type 0} (f : Y → ℕ) (g : X → Y) (xs : List X) → total f (map g xs) ≡ total (λ x. f (g x)) xs
unfolding total
total-map f g [] = refl
total-map f g (x ∷ xs) = ap (λ n. f (g x) + n) (total-map f g xs)

pub total-flat_map : {X Y : Type 0} (f : Y → ℕ) (g : X → List Y) (xs : List X) → total f (flat_map g xs) ≡ total (λ x. total f (g x)) xs
unfolding total
total-flat_map f g [] = refl
total-flat_map f g (x ∷ xs) = total-append f (g x) (flat_map g xs) ∙ ap (λ n. total f (g x) + n) (total-flat_map f g xs)

total-cons_option : {X : Type 0} (f : X → ℕ) (o : Option X) (xs : List X) → total f (cons_option o xs) ≡ given f o + total f xs
unfolding total
total-cons_option f None xs = omega arith
total-cons_option f (Some x) xs = refl

pub total-filter_map : {X Y : Type 0} (f : Y → ℕ) (g : X → Option Y) (xs : List X) → total f (filter_map g xs) ≡ total (λ x. given f (g x)) xs
unfolding total
total-filter_map f g [] = refl
total-filter_map f g (x ∷ xs) = total-cons_option f (g x) (filter_map g xs) ∙ ap (λ n. given f (g x) + n) (total-filter_map f g xs)

pub total-filter : {X : Type 0} (f : X → ℕ) (p : X → Bool) (xs : List X) → total f (filter (λ x. not (p x)) xs) + total f (filter p xs) ≡ total f xs
unfolding total
total-filter f p [] = refl
total-filter f p (x ∷ xs) = elim (cases_Bool (p x)) [
  | inl passes ↦ rw passes (omega (arith, total-filter f p xs))
  | inr fails ↦ rw fails (omega (arith, total-filter f p xs))
]

pub total-same : {X : Type 0} (f g : X → ℕ) (xs : List X) → ((x : X) → f x ≡ g x) → total f xs ≡ total g xs
unfolding total
total-same f g [] same = refl
total-same f g (x ∷ xs) same = omega (arith, same x, total-same f g xs same)

pub total-nil : {X : Type 0} (f : X → ℕ) → total f [] ≡ 0
unfolding total
total-nil f = refl

pub total-cons : {X : Type 0} (f : X → ℕ) (x : X) (xs : List X) → total f (x ∷ xs) ≡ f x + total f xs
unfolding total
total-cons f x xs = refl

pub total-le : {X : Type 0} (f g : X → ℕ) (xs : List X) → ((x : X) → f x ≤ g x) → total f xs ≤ total g xs
unfolding total
total-le f g [] each = omega arith
total-le f g (x ∷ xs) each = omega (arith, each x, total-le f g xs each)

-- item by item, two give no more than two others
pub total-no_more : {X : Type 0} (a b c d : X → ℕ) (xs : List X) → ((x : X) → a x + b x ≤ c x + d x) → total a xs + total b xs ≤ total c xs + total d xs
unfolding total
total-no_more a b c d [] each = omega arith
total-no_more a b c d (x ∷ xs) each = omega (arith, each x, total-no_more a b c d xs each)

-- or one
pub total-within : {X : Type 0} (a c d : X → ℕ) (xs : List X) → ((x : X) → a x ≤ c x + d x) → total a xs ≤ total c xs + total d xs
unfolding total
total-within a c d [] each = omega arith
total-within a c d (x ∷ xs) each = omega (arith, each x, total-within a c d xs each)

-- the keys of the items count up from k
abbrev pub CountUp : {X : Type 0} → (X → ℕ) → ℕ → List X → Type 0
CountUp key k [] = Unit {0}
CountUp key k (x ∷ xs) = (key x ≡ k) × CountUp key (k + 1) xs

none_later : {X : Type 0} (key f : X → ℕ) (at k : ℕ) (xs : List X) → CountUp key k xs → at < k → ((x : X) → key x ≢ at → f x ≡ 0) → total f xs ≡ 0
unfolding total
none_later key f at k [] up before other = refl
none_later key f at k (x ∷ xs) up before other =
    omega (arith, other x (λ (same : key x ≡ at). omega (arith, same, up.0, before)), none_later key f at (k + 1) xs up.1 (omega (arith, before)) other)

-- only an item of one key gives anything
pub total-one : {X : Type 0} (key f : X → ℕ) (at most k : ℕ) (xs : List X) → CountUp key k xs → ((x : X) → key x ≢ at → f x ≡ 0) → ((x : X) → f x ≤ most)
    → total f xs ≤ most
unfolding total
total-one key f at most k [] up other each = omega arith
total-one key f at most k (x ∷ xs) up other each = elim (cases_eq (key x) at) [
  | inl same ↦ omega (arith, each x, none_later key f at (k + 1) xs up.1 (omega (arith, same, up.0)) other)
  | inr differ ↦ omega (arith, other x differ, total-one key f at most (k + 1) xs up.1 other each)
]

-- ---- totals of numbers

-- what the numbers below n give together
abbrev pub total_below : (ℕ → ℕ) → ℕ → ℕ
total_below f zero = 0
total_below f (suc n) = total_below f n + f n

pub below-none : (f : ℕ → ℕ) (n : ℕ) → ((i : ℕ) → i < n → f i ≡ 0) → total_below f n ≡ 0
below-none f zero none = refl
below-none f (suc n) none = omega (arith, below-none f n (λ i less. none i (omega (arith, less))), none n (omega arith))

pub below-no_more : (f g h : ℕ → ℕ) (n : ℕ) → ((i : ℕ) → f i ≤ g i + h i) → total_below f n ≤ total_below g n + total_below h n
below-no_more f g h zero each = omega arith
below-no_more f g h (suc n) each = omega (arith, each n, below-no_more f g h n each)

pub below-same : (f g : ℕ → ℕ) (n : ℕ) → ((i : ℕ) → f i ≡ g i) → total_below f n ≡ total_below g n
below-same f g zero same = refl
below-same f g (suc n) same = omega (arith, same n, below-same f g n same)

-- only one number gives anything
pub below-one : (f : ℕ → ℕ) (at most n : ℕ) → ((i : ℕ) → i ≢ at → f i ≡ 0) → f at ≤ most → total_below f n ≤ most
below-one f at most zero other here = omega arith
below-one f at most (suc n) other here = elim (cases_eq n at) [
  | inl same ↦ omega (arith, ap f same, here, below-none f n (λ i less. other i (λ (is : i ≡ at). omega (arith, is, same, less))))
  | inr differ ↦ omega (arith, other n differ, below-one f at most n other here)
]

still_below : (at n : ℕ) → at < suc n → n ≢ at → at < n
still_below at n less differ = omega (arith, less, differ)

pub below-alike : (f g : ℕ → ℕ) (n : ℕ) → ((i : ℕ) → i < n → g i ≡ f i) → total_below g n ≡ total_below f n
below-alike f g zero same = refl
below-alike f g (suc n) same = omega (arith, same n (omega arith), below-alike f g n (λ i less. same i (omega (arith, less))))

-- a number gives nothing any more
pub below-without : (f g : ℕ → ℕ) (at n : ℕ) → ((i : ℕ) → i ≢ at → g i ≡ f i) → g at ≡ 0 → at < n → total_below g n + f at ≡ total_below f n
below-without f g at zero other none less = absurd (omega (arith, less))
below-without f g at (suc n) other none less = elim (cases_eq n at) [
  | inl same ↦ omega (arith, ap f same, ap g same, none, below-alike f g n (λ i fewer. other i (λ (is : i ≡ at). omega (arith, is, same, fewer))))
  | inr differ ↦ omega (arith, other n differ, below-without f g at n other none (still_below at n less differ))
]

-- ---- counts

is_standing : Standing → Standing → Bool
is_standing s o = eqb s.class o.class && (eqb s.first o.first && (eqb s.second o.second && eqb s.third o.third))

-- 1 of the standing itself, and 0 of any other
pub is_one : Standing → Standing → ℕ
is_one s o = cond (is_standing s o) 1 0

same_fields : (a b c d a' b' c' d' : ℕ) → a ≡ a' → b ≡ b' → c ≡ c' → d ≡ d' → standing a b c d ≡ standing a' b' c' d'
same_fields a b c d a' b' c' d' p q r s = cc

is_same : (s o : Standing) → is_standing s o ≡ true → s ≡ o
unfolding is_standing
is_same s o e =
    let first = and_parts (eqb s.class o.class) (eqb s.first o.first && (eqb s.second o.second && eqb s.third o.third)) e in
    let second = and_parts (eqb s.first o.first) (eqb s.second o.second && eqb s.third o.third) first.1 in
    let third = and_parts (eqb s.second o.second) (eqb s.third o.third) second.1 in
    same_fields s.class s.first s.second s.third o.class o.first o.second o.third (eqb-true s.class o.class first.0) (eqb-true s.first o.first second.0)
    (eqb-true s.second o.second third.0) (eqb-true s.third o.third third.1)

is_itself : (s : Standing) → is_standing s s ≡ true
unfolding is_standing
is_itself s = rw (eq-eqb s.class s.class refl, eq-eqb s.first s.first refl, eq-eqb s.second s.second refl, eq-eqb s.third s.third refl) refl

pub one_itself : (s : Standing) → is_one s s ≡ 1
unfolding is_one
one_itself s = ap (λ b. cond b 1 0) (is_itself s)

pub one_cases : (s o : Standing) → (s ≡ o) ⊎ (is_one s o ≡ 0)
unfolding is_one
one_cases s o = elim (cases_Bool (is_standing s o)) [
  | inl yes' ↦ inl (is_same s o yes')
  | inr no' ↦ inr (ap (λ b. cond b 1 0) no')
]

pub none_of_other : (s o : Standing) → (s ≡ o → ⊥) → is_one s o ≡ 0
none_of_other s o differ = elim (one_cases s o) [
  | inl same ↦ absurd (differ same)
  | inr none ↦ none
]

pub one_at_most : (s o : Standing) → is_one s o ≤ 1
one_at_most s o = elim (one_cases s o) [
  | inl same ↦ omega (arith, ap (is_one s) same, one_itself s)
  | inr none ↦ omega (arith, none)
]

-- how often it stands in a list
abbrev pub count_of : Standing → List Standing → ℕ
count_of s xs = total (is_one s) xs

none_there : (s : Standing) (xs : List Standing) → All (λ o. s ≢ o) xs → count_of s xs ≡ 0
unfolding total
none_there s [] away = refl
none_there s (x ∷ xs) away =
    omega (arith, none_of_other s x (All-head (λ o. s ≢ o) x xs away), none_there s xs (All-tail (λ o. s ≢ o) x xs away))

all_away : (s : Standing) (xs : List Standing) → count_of s xs ≡ 0 → All (λ o. s ≢ o) xs
unfolding total
all_away s [] none = All-nil (λ o. s ≢ o)
all_away s (x ∷ xs) none =
    All-cons (λ o. s ≢ o) x xs (λ (same : s ≡ x). omega (arith, none, ap (is_one s) same, one_itself s)) (all_away s xs (omega (arith, none)))

-- the standings of a list differ where each is there once at most
pub differ_once : (xs : List Standing) → ((s : Standing) → count_of s xs ≤ 1) → AllPairs (λ a b. a ≢ b) xs
unfolding total
differ_once [] once = pairs_none (λ a b. a ≢ b)
differ_once (x ∷ xs) once =
    AllPairs-cons (λ a b. a ≢ b) x xs (all_away x xs (omega (arith, once x, one_itself x)))
    (differ_once xs (λ s. omega (arith, once s)))

pub once_differ : (xs : List Standing) → AllPairs (λ a b. a ≢ b) xs → (s : Standing) → count_of s xs ≤ 1
unfolding total
once_differ [] differ s = omega arith
once_differ (x ∷ xs) differ s = elim (one_cases s x) [
  | inl same ↦ omega (arith, one_at_most s x, ap (λ o. count_of o xs) same, none_there x xs (pairs_head (λ a b. a ≢ b) x xs differ))
  | inr none ↦ omega (arith, none, once_differ xs (pairs_tail (λ a b. a ≢ b) x xs differ) s)
]

-- none was created later than all frames
pub none_later_than : (frames : ℕ) (xs : List Standing) → All (λ o. o.first ≤ frames) xs → (s : Standing) → frames < s.first → count_of s xs ≡ 0
unfolding total
none_later_than frames [] early s late = refl
none_later_than frames (x ∷ xs) early s late =
    let before : x.first ≤ frames = All-head (λ o. o.first ≤ frames) x xs early in
    omega (
      arith,
      none_of_other s x (λ (same : s ≡ x). omega (arith, late, before, ap (λ (o : Standing). o.first) same)),
      none_later_than frames xs (All-tail (λ o. o.first ≤ frames) x xs early) s late,
    )

pub early_from : (frames : ℕ) (xs : List Standing) → ((s : Standing) → frames < s.first → count_of s xs ≡ 0) → All (λ o. o.first ≤ frames) xs
unfolding total
early_from frames [] none = All-nil (λ o. o.first ≤ frames)
early_from frames (x ∷ xs) none =
    All-cons (λ o. o.first ≤ frames) x xs (elim (cases_lt frames x.first) [
      | inl late ↦ absurd (omega (arith, none x late, one_itself x))
      | inr early ↦ early
    ])
    (early_from frames xs (λ s late. omega (arith, none s late)))

-- ---- origins

-- 1 of what was created by this frame
pub is_of : ℕ → Standing → ℕ
is_of frame s = cond (eqb s.first frame) 1 0

pub of_itself : (frame : ℕ) (s : Standing) → s.first ≡ frame → is_of frame s ≡ 1
unfolding is_of
of_itself frame s same = ap (λ b. cond b 1 0) (eq-eqb s.first frame same)

pub of_other : (frame : ℕ) (s : Standing) → (s.first ≡ frame → ⊥) → is_of frame s ≡ 0
unfolding is_of
of_other frame s differ = ap (λ b. cond b 1 0) (ne_eqb s.first frame differ)

-- origins stay origins where none is there more often
pub fewer_origins : (frames : ℕ) (xs ys : List Standing) → ((s : Standing) → count_of s ys ≤ count_of s xs) → AreOrigins frames xs → AreOrigins frames ys
fewer_origins frames xs ys fewer are = record {
  differ = differ_once ys (λ s. omega (arith, fewer s, once_differ xs are.differ s));
  created = early_from frames ys (λ s late. omega (arith, fewer s, none_later_than frames xs are.created s late));
}

-- and where each of one frame more is there once more at most
pub more_origins : (frames : ℕ) (xs ys : List Standing) → ((s : Standing) → count_of s ys ≤ count_of s xs + is_of (frames + 1) s) → AreOrigins frames xs
    → AreOrigins (frames + 1) ys
more_origins frames xs ys more are = record { differ = differ_once ys once; created = early_from (frames + 1) ys early }
  where
    once : (s : Standing) → count_of s ys ≤ 1
    once s = elim (cases_eq s.first (frames + 1)) [
      | inl same ↦ omega (arith, more s, of_itself (frames + 1) s same, none_later_than frames xs are.created s (omega (arith, same)))
      | inr differ ↦ omega (arith, more s, of_other (frames + 1) s differ, once_differ xs are.differ s)
    ]

    early : (s : Standing) → frames + 1 < s.first → count_of s ys ≡ 0
    early s late =
        omega (
          arith,
          more s,
          none_later_than frames xs are.created s (omega (arith, late)),
          of_other (frames + 1) s (λ (same : s.first ≡ frames + 1). omega (arith, same, late)),
        )
