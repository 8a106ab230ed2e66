-- Lists of what numbers give.
use Rattle.std.proofs.Common.{◌≡◌, ◌∙◌, ℕ, zero, suc, ◌+◌, ◌<◌, ◌≤◌, length, take, get_or, refl, sym, ap, subst, arith, length-append, add-one, inl, inr}
use Rattle.std.specs.Prelude.{◌==◌, ◌⊎◌, ◌||◌, Bool, true, false, cond, List, [], ◌∷◌, ◌++◌, All, AllPairs, count_by, slice_get, Option, None, Some}
use Rattle.std.specs.List.{cons_option, filter_map}
use Rattle.std.specs.Option.{option_map_or, option_to_list}
use Rattle.std.proofs.lemmas.Bool.{cases_lt, cases_eq, cases_order, eq-eqb, ne_eqb}
use Rattle.std.proofs.lemmas.List.{append-nil, take_more}
use Rattle.std.proofs.lemmas.List.Elements.{All-append, All-cons, All-get_or, All-nil, All-weaker, filter_map-append}
use Rattle.std.proofs.lemmas.List.Quantifiers.{all_pairs_push}
use Rattle.std.proofs.lemmas.List.Sums.{sum_by-append, sum_by_more, sum_by-cons}
use Rattle.std.proofs.lemmas.Option.{slice_get_within, slice_get-get_or}
use Rattle.animation_names.specs.Numbered.{given_below}

pub given-more : {X : Type 0} (f : ℕ → Option X) (n : ℕ) → given_below f (n + 1) ≡ given_below f n ++ option_to_list (f n)
unfolding given_below
given-more f n = rw (add-one n) refl

-- what one more number gives
pub given-step : {X : Type 0} (f : ℕ → Option X) (i : ℕ) (so_far more : List X) (o : Option X) → so_far ≡ given_below f i → o ≡ f i → more ≡ so_far ++ option_to_list o
    → more ≡ given_below f (i + 1)
given-step f i so_far more o e here pushed =
    pushed ∙ ap (λ xs. xs ++ option_to_list o) e ∙ ap (λ x. given_below f i ++ option_to_list x) here ∙ sym (given-more f i)

pub given-same : {X : Type 0} (f g : ℕ → Option X) (n : ℕ) → ((i : ℕ) → i < n → f i ≡ g i) → given_below f n ≡ given_below g n
unfolding given_below
given-same f g zero same = refl
given-same f g (suc n) same =
    ap (λ xs. xs ++ option_to_list (f n)) (given-same f g n (λ i less. same i (omega arith))) ∙ ap (λ o. given_below g n ++ option_to_list o) (same n (omega arith))

pub given-none : {X : Type 0} (f : ℕ → Option X) (n : ℕ) → ((i : ℕ) → i < n → f i ≡ None) → given_below f n ≡ []
unfolding given_below
given-none f zero none = refl
given-none f (suc n) none =
    ap (λ xs. xs ++ option_to_list (f n)) (given-none f n (λ i less. none i (omega arith))) ∙ ap option_to_list (none n (omega arith))

-- ---- counting

count-option : {X : Type 0} (q : X → Bool) (o : Option X) → count_by q (option_to_list o) ≡ cond (option_map_or q o false) 1 0
count-option q None = refl
count-option q (Some x) = let e = sum_by-cons (λ y. cond (q y) 1 0) x [] in omega (arith, e)

pub count-given : {X Y : Type 0} (q : Y → Bool) (p : X → Bool) (f : ℕ → Option Y) (xs : List X)
    → ((i : ℕ) (x : X) → slice_get xs i ≡ Some x → option_map_or q (f i) false ≡ p x)
    → (n : ℕ) → n ≤ length xs → count_by q (given_below f n) ≡ count_by p (take n xs)
unfolding given_below
count-given q p f xs same zero within = refl
count-given q p f [] same (suc n) within = absurd (omega arith)
count-given {X} q p f (y ∷ ys) same (suc n) within =
    let xs : List X = y ∷ ys in
    let so_far = count-given q p f xs same n (omega arith) in
    let here : option_map_or q (f n) false ≡ p (get_or xs n y) = same n (get_or xs n y) (slice_get-get_or xs n y (omega arith)) in
    let step : count_by p (take (n + 1) xs) ≡ count_by p (take n xs) + cond (p (get_or xs n y)) 1 0 = sum_by_more (λ x. cond (p x) 1 0) xs n y (omega arith) in
    sum_by-append (λ x. cond (q x) 1 0) (given_below f n) (option_to_list (f n))
    ∙ ap (λ k. k + count_by q (option_to_list (f n))) so_far
    ∙ ap (λ k. count_by p (take n xs) + k) (count-option q (f n) ∙ ap (λ b. cond b 1 0) here)
    ∙ (sym step ∙ ap (λ k. count_by p (take k xs)) (add-one n))

pub count-none : {X : Type 0} (xs : List X) → count_by (λ (x : X). false) xs ≡ 0
count-none [] = refl
count-none {X} (x ∷ xs) = omega (arith, sum_by-cons (λ (y : X). 0) x xs, count-none xs)

-- ---- order

pub given-below_end : {X : Type 0} (key : X → ℕ) (f : ℕ → Option X) → ((i : ℕ) (x : X) → f i ≡ Some x → key x ≡ i) → (n : ℕ) → All (λ x. key x < n) (given_below f n)
unfolding given_below
given-below_end key f keyed zero = All-nil (λ x. key x < 0)
given-below_end {X} key f keyed (suc n) =
    All-append (λ x. key x < suc n) (given_below f n) (option_to_list (f n))
    (All-weaker (λ x. key x < n) (λ x. key x < suc n) (λ x less. omega arith) (given_below f n) (given-below_end key f keyed n)) (go (f n) refl) where
      go : (o : Option X) → f n ≡ o → All (λ x. key x < suc n) (option_to_list o)
      go None e = All-nil (λ x. key x < suc n)
      go (Some x) e = All-cons (λ y. key y < suc n) x [] (omega (arith, keyed n x e)) (All-nil (λ y. key y < suc n))

pub given-ascends : {X : Type 0} (key : X → ℕ) (f : ℕ → Option X) → ((i : ℕ) (x : X) → f i ≡ Some x → key x ≡ i) → (n : ℕ) → AllPairs (λ x y. key x < key y) (given_below f n)
unfolding given_below
given-ascends key f keyed zero = λ i j d less within. absurd (omega arith)
given-ascends {X} key f keyed (suc n) = go (given-ascends key f keyed n) (f n) refl where
  go : AllPairs (λ x y. key x < key y) (given_below f n) → (o : Option X) → f n ≡ o → AllPairs (λ x y. key x < key y) (given_below f n ++ option_to_list o)
  go so_far None e = subst (AllPairs (λ x y. key x < key y)) (sym (append-nil (given_below f n))) so_far
  go so_far (Some x) e =
      all_pairs_push (λ y z. key y < key z) (given_below f n) x so_far
      (λ k d within. omega (arith, keyed n x e, All-get_or (λ y. key y < n) (given_below f n) k d within (given-below_end key f keyed n)))

-- ---- places in the list

length-option : {X : Type 0} (o : Option X) → length (option_to_list o) ≤ 1
length-option None = omega arith
length-option (Some x) = omega arith

pub length-step : {X : Type 0} (f : ℕ → Option X) (n : ℕ) → length (given_below f (suc n)) ≡ length (given_below f n) + length (option_to_list (f n))
unfolding given_below
length-step f n = length-append (given_below f n) (option_to_list (f n))

pub length-grows : {X : Type 0} (f : ℕ → Option X) (k i : ℕ) → k ≤ i → length (given_below f k) ≤ length (given_below f i)
length-grows f k zero less = let same : k ≡ 0 = omega arith in omega (arith, ap (λ n. length (given_below f n)) same)
length-grows {X} f k (suc i) less = go (length-grows f k i) (cases_lt i k) where
  go : (k ≤ i → length (given_below f k) ≤ length (given_below f i)) → (i < k) ⊎ (k ≤ i) → length (given_below f k) ≤ length (given_below f (suc i))
  go rest (inl more) = let same : k ≡ suc i = omega arith in omega (arith, ap (λ n. length (given_below f n)) same)
  go rest (inr fewer) = omega (arith, rest fewer, length-step f i)

-- what a number gives counts
pub length-given : {X : Type 0} (f : ℕ → Option X) (i k : ℕ) (x : X) → i < k → f i ≡ Some x → length (given_below f i) < length (given_below f k)
length-given f i k x less e =
    let step : length (given_below f (suc i)) ≡ length (given_below f i) + 1 = length-step f i ∙ ap (λ o. length (given_below f i) + length (option_to_list o)) e in
    omega (arith, step, length-grows f (suc i) k (omega arith))

get_before : {X : Type 0} (xs ys : List X) (k : ℕ) → k < length xs → slice_get (xs ++ ys) k ≡ slice_get xs k
get_before [] ys k less = absurd (omega arith)
get_before (x ∷ xs) ys zero less = refl
get_before (x ∷ xs) ys (suc k) less = get_before xs ys k (omega arith)

get_seam : {X : Type 0} (xs ys : List X) → slice_get (xs ++ ys) (length xs) ≡ slice_get ys 0
get_seam [] ys = refl
get_seam (x ∷ xs) ys = get_seam xs ys

pub get-given : {X : Type 0} (f : ℕ → Option X) (i n : ℕ) (x : X) → i < n → f i ≡ Some x → slice_get (given_below f n) (length (given_below f i)) ≡ Some x
unfolding given_below
get-given f i zero x less e = absurd (omega arith)
get-given {X} f i (suc n) x less e = go (cases_lt i n) (get-given f i n x) where
  go : (i < n) ⊎ (n ≤ i) → (i < n → f i ≡ Some x → slice_get (given_below f n) (length (given_below f i)) ≡ Some x)
      → slice_get (given_below f n ++ option_to_list (f n)) (length (given_below f i)) ≡ Some x
  go (inl fewer) rest = get_before (given_below f n) (option_to_list (f n)) (length (given_below f i)) (length-given f i n x fewer e) ∙ rest fewer e
  go (inr more) rest =
      let same : i ≡ n = omega arith in
      let here : f n ≡ Some x = ap f (sym same) ∙ e in
      ap (λ k. slice_get (given_below f n ++ option_to_list (f n)) (length (given_below f k))) same
      ∙ get_seam (given_below f n) (option_to_list (f n)) ∙ ap (λ o. slice_get (option_to_list o) 0) here

-- what stands in the list is given by a number
pub record IsGivenAt {X : Type 0} (f : ℕ → Option X) (n m : ℕ) (x : X) : Type 0 where
  pub number : ℕ
  pub below : number < n
  pub gives : f number ≡ Some x
  pub place : length (given_below f number) ≡ m

pub given-get : {X : Type 0} (f : ℕ → Option X) (n m : ℕ) (x : X) → slice_get (given_below f n) m ≡ Some x → IsGivenAt f n m x
unfolding given_below
given-get f zero m x e = cc
given-get {X} f (suc n) m x e = go (cases_order m (length (given_below f n))) (given-get f n m x) where
  more : IsGivenAt f n m x → IsGivenAt f (suc n) m x
  more g = record { number = g.number; below = omega (arith, g.below); gives = g.gives; place = g.place }

  last : (o : Option X) → f n ≡ o → slice_get (option_to_list o) 0 ≡ Some x → f n ≡ Some x
  last None h e = cc
  last (Some y) h e = h ∙ e

  go : (m ≡ length (given_below f n)) ⊎ ((m < length (given_below f n)) ⊎ (length (given_below f n) < m))
      → (slice_get (given_below f n) m ≡ Some x → IsGivenAt f n m x) → IsGivenAt f (suc n) m x
  go (inl same) rest =
      let here : slice_get (option_to_list (f n)) 0 ≡ Some x =
      sym (get_seam (given_below f n) (option_to_list (f n))) ∙ ap (slice_get (given_below f n ++ option_to_list (f n))) (sym same) ∙ e in
      record { number = n; below = omega arith; gives = last (f n) refl here; place = sym same }
  go (inr (inl before)) rest = more (rest (sym (get_before (given_below f n) (option_to_list (f n)) m before) ∙ e))
  go (inr (inr after)) rest =
      absurd (omega (arith, slice_get_within (given_below f n ++ option_to_list (f n)) m x e, length-append (given_below f n) (option_to_list (f n)), length-option (f n)))

-- ---- numbers that pass a test

unfoldable pub passing_below : (ℕ → Bool) → ℕ → ℕ
passing_below t zero = 0
passing_below t (suc n) = passing_below t n + cond (t n) 1 0

pub passing-none : (n : ℕ) → passing_below (λ j. false) n ≡ 0
unfolding passing_below
passing-none zero = refl
passing-none (suc n) = omega (arith, passing-none n)

pub passing-either : (t a b : ℕ → Bool) → ((j : ℕ) → t j ≡ (a j || b j)) → ((j : ℕ) → a j ≡ true → b j ≡ true → ⊥) → (n : ℕ) → passing_below t n ≡ passing_below a n + passing_below b n
unfolding passing_below
passing-either t a b each apart zero = refl
passing-either t a b each apart (suc n) = go (passing-either t a b each apart n) (a n) refl (b n) refl where
  go : passing_below t n ≡ passing_below a n + passing_below b n → (x : Bool) → a n ≡ x → (y : Bool) → b n ≡ y
      → passing_below t n + cond (t n) 1 0 ≡ (passing_below a n + cond (a n) 1 0) + (passing_below b n + cond (b n) 1 0)
  go rest true e true f = absurd (apart n e f)
  go rest true e false f = let here : t n ≡ true = each n ∙ ap (λ z. z || b n) e in
      omega (arith, rest, ap {B = ℕ} (λ z. cond z 1 0) here, ap {B = ℕ} (λ z. cond z 1 0) e, ap {B = ℕ} (λ z. cond z 1 0) f)
  go rest false e y f = let here : t n ≡ y = each n ∙ (ap (λ z. z || b n) e ∙ f) in
      omega (arith, rest, ap {B = ℕ} (λ z. cond z 1 0) (here ∙ sym f), ap {B = ℕ} (λ z. cond z 1 0) e)

pub passing-one : (j n : ℕ) → j < n → passing_below (λ i. j == i) n ≡ 1
unfolding passing_below
passing-one j zero less = absurd (omega arith)
passing-one j (suc n) less = go (cases_eq j n) (passing-one j n) where
  past : (k : ℕ) → k ≤ j → passing_below (λ i. j == i) k ≡ 0
  past zero less = refl
  past (suc k) less = omega (arith, past k (omega arith), ap {B = ℕ} (λ z. cond z 1 0) (ne_eqb j k (λ same. omega arith)))

  go : (j ≡ n) ⊎ (j ≡ n → ⊥) → (j < n → passing_below (λ i. j == i) n ≡ 1) → passing_below (λ i. j == i) n + cond (j == n) 1 0 ≡ 1
  go (inl same) rest = omega (arith, past n (omega arith), ap {B = ℕ} (λ z. cond z 1 0) (eq-eqb j n same))
  go (inr unlike) rest = omega (arith, rest (omega arith), ap {B = ℕ} (λ z. cond z 1 0) (ne_eqb j n unlike))

-- ---- lists of what items give

option_to_cons : {X : Type 0} (o : Option X) → cons_option o [] ≡ option_to_list o
option_to_cons None = refl
option_to_cons (Some x) = refl

-- what one more item gives
pub filter_map-step : {X Y : Type 0} (f : X → Option Y) (xs : List X) (i : ℕ) (x : X) (so_far more : List Y) → i < length xs → x ≡ get_or xs i x
    → so_far ≡ filter_map f (take i xs) → more ≡ so_far ++ option_to_list (f x) → more ≡ filter_map f (take (i + 1) xs)
filter_map-step f xs i x so_far more within is e pushed =
    pushed ∙ ap (λ l. l ++ option_to_list (f x)) e
    ∙ (ap (λ l. filter_map f (take i xs) ++ l) (sym (option_to_cons (f x)) ∙ ap (λ y. cons_option (f y) []) is)
    ∙ (sym (filter_map-append f (take i xs) (get_or xs i x ∷ [])) ∙ ap (filter_map f) (sym (take_more xs i x within))))
