-- The last and the first of a list's items that pass.
use Rattle.std.proofs.Common.{◌≡◌, ◌∙◌, ℕ, ◌+◌, ◌<◌, length, take, get_or, refl, sym, ap}
use Rattle.std.specs.Prelude.{Bool, true, false, cond, not, ◌&&◌, ◌||◌, List, [], ◌∷◌, ◌++◌, map, filter, find, reverse, All, Option, None, Some, option_map, IfSome, if◌then◌else◌}
use Rattle.std.specs.List.{list_any}
use Rattle.std.specs.Option.{option_or}
use Rattle.std.proofs.lemmas.Bool.{false≢true}
use Rattle.std.proofs.lemmas.List.{reverse-append, take_more}
use Rattle.std.proofs.lemmas.List.Elements.{All-head, All-tail}
use Rattle.std.proofs.lemmas.List.Folds.{find-append}
use Rattle.keyframes.specs.Last.{last_given, last_passing}

-- ---- options

or_none : {T : Type 0} (o : Option T) → option_or o None ≡ o
or_none None = refl
or_none (Some x) = refl

or_assoc : {T : Type 0} (a b c : Option T) → option_or (option_or a b) c ≡ option_or a (option_or b c)
or_assoc None b c = refl
or_assoc (Some x) b c = refl

pub or_holds : {T : Type 0} (P : T → Type 0) (a b : Option T) → IfSome a P → IfSome b P → IfSome (option_or a b) P
or_holds P None b p q = q
or_holds P (Some x) b p q = p

map_or : {S T : Type 0} (f : S → T) (a b : Option S) → option_or (option_map f a) (option_map f b) ≡ option_map f (option_or a b)
map_or f None b = refl
map_or f (Some x) b = refl

-- ---- the last

pub last_given-append : {X Y : Type 0} (give : X → Option Y) (xs ys : List X) → last_given give (xs ++ ys) ≡ option_or (last_given give ys) (last_given give xs)
last_given-append give [] ys = sym (or_none (last_given give ys))
last_given-append give (x ∷ xs) ys =
    ap (λ o. option_or o (give x)) (last_given-append give xs ys) ∙ or_assoc (last_given give ys) (last_given give xs) (give x)

pub last_given-holds : {X Y : Type 0} (give : X → Option Y) (Q : X → Type 0) (P : Y → Type 0) → ((x : X) → Q x → IfSome (give x) P)
    → (xs : List X) → All Q xs → IfSome (last_given give xs) P
last_given-holds give Q P h [] all = tt
last_given-holds give Q P h (x ∷ xs) all =
    or_holds P (last_given give xs) (give x) (last_given-holds give Q P h xs (All-tail Q x xs all)) (h x (All-head Q x xs all))

abbrev passing : {X : Type 0} → (X → Bool) → X → Option X
passing test x = (if test x then Some x else None)

passing_map : {X Y : Type 0} (f : X → Y) (y : Y) (x : X) → y ≡ f x → (b : Bool) → (if b then Some y else None) ≡ option_map f (if b then Some x else None)
passing_map f y x e true = ap Some e
passing_map f y x e false = refl

pub last_passing-map : {X Y : Type 0} (test : Y → Bool) (f : X → Y) (xs : List X) → last_passing test (map f xs) ≡ option_map f (last_passing (λ x. test (f x)) xs)
last_passing-map test f [] = refl
last_passing-map test f (x ∷ xs) =
    ap (λ o. option_or o (passing test (f x))) (last_passing-map test f xs)
    ∙ ap (option_or (option_map f (last_passing (λ y. test (f y)) xs))) (passing_map f (f x) x refl (test (f x)))
    ∙ map_or f (last_passing (λ y. test (f y)) xs) (passing (λ y. test (f y)) x)

pub last_passing-filter : {X : Type 0} (keep test : X → Bool) (xs : List X) → last_passing test (filter keep xs) ≡ last_passing (λ x. keep x && test x) xs
last_passing-filter keep test [] = refl
last_passing-filter keep test (x ∷ xs) = go (keep x) (last_passing-filter keep test xs) where
  go : (b : Bool) → last_passing test (filter keep xs) ≡ last_passing (λ y. keep y && test y) xs
      → last_passing test (cond b (x ∷ filter keep xs) (filter keep xs)) ≡ option_or (last_passing (λ y. keep y && test y) xs) (if b && test x then Some x else None)
  go true rest = ap (λ o. option_or o (passing test x)) rest
  go false rest = rest ∙ sym (or_none (last_passing (λ y. keep y && test y) xs))

pub find-reverse : {X : Type 0} (test : X → Bool) (xs : List X) → find test (reverse xs) ≡ last_passing test xs
find-reverse test [] = refl
find-reverse test (x ∷ xs) =
    ap (find test) (reverse-append (x ∷ []) xs) ∙ find-append test (reverse xs) (x ∷ []) ∙ ap (λ o. option_or o (passing test x)) (find-reverse test xs)

-- what the last one that passes has
pub last_passing-passes : {X : Type 0} (test : X → Bool) (xs : List X) (x : X) → last_passing test xs ≡ Some x → test x ≡ true
last_passing-passes test [] x e = cc
last_passing-passes {X} test (y ∷ ys) x e = go (last_passing test ys) refl (test y) refl e (last_passing-passes test ys x) where
  go : (o : Option X) → last_passing test ys ≡ o → (b : Bool) → test y ≡ b → option_or o (if b then Some y else None) ≡ Some x
      → (last_passing test ys ≡ Some x → test x ≡ true) → test x ≡ true
  go (Some z) f b g e rest = rest (f ∙ e)
  go None f true g e rest = let same : y ≡ x = cc in ap test (sym same) ∙ g
  go None f false g e rest = cc

-- ---- the first

pub find-map : {X Y : Type 0} (test : Y → Bool) (f : X → Y) (xs : List X) → find test (map f xs) ≡ option_map f (find (λ x. test (f x)) xs)
find-map test f [] = refl
find-map test f (x ∷ xs) = go (test (f x)) (find-map test f xs) where
  go : (b : Bool) → find test (map f xs) ≡ option_map f (find (λ y. test (f y)) xs)
      → cond b (Some (f x)) (find test (map f xs)) ≡ option_map f (cond b (Some x) (find (λ y. test (f y)) xs))
  go true rest = refl
  go false rest = rest

pub find-filter : {X : Type 0} (keep test : X → Bool) (xs : List X) → find test (filter keep xs) ≡ find (λ x. keep x && test x) xs
find-filter keep test [] = refl
find-filter keep test (x ∷ xs) = go (keep x) (find-filter keep test xs) where
  go : (b : Bool) → find test (filter keep xs) ≡ find (λ y. keep y && test y) xs
      → find test (cond b (x ∷ filter keep xs) (filter keep xs)) ≡ cond (b && test x) (Some x) (find (λ y. keep y && test y) xs)
  go true rest = ap (cond (test x) (Some x)) rest
  go false rest = rest

pub find-holds : {X : Type 0} (test : X → Bool) (P : X → Type 0) (xs : List X) → All P xs → IfSome (find test xs) P
find-holds test P [] all = tt
find-holds test P (x ∷ xs) all = go (test x) (find-holds test P xs (All-tail P x xs all)) where
  go : (b : Bool) → IfSome (find test xs) P → IfSome (cond b (Some x) (find test xs)) P
  go true rest = All-head P x xs all
  go false rest = rest

pub last_passing-holds : {X : Type 0} (test : X → Bool) (P : X → Type 0) (xs : List X) → All P xs → IfSome (last_passing test xs) P
last_passing-holds {X} test P xs all = last_given-holds (passing test) P P (λ x p. go x (test x) p) xs all where
  go : (x : X) (b : Bool) → P x → IfSome (if b then Some x else None) P
  go x true p = p
  go x false p = tt

-- ---- where none passes

none_of_or : {T : Type 0} (a b : Option T) → option_or a b ≡ None → (a ≡ None) × (b ≡ None)
none_of_or None b e = (refl, e)
none_of_or (Some x) b e = cc

not_passing : {X : Type 0} (x : X) (b : Bool) → (if b then Some x else None) ≡ None → b ≡ false
not_passing x true e = cc
not_passing x false e = refl

pub last_passing-none : {X : Type 0} (test other : X → Bool) → ((x : X) → other x ≡ true → test x ≡ true) → (xs : List X)
    → last_passing test xs ≡ None → list_any other xs ≡ false
last_passing-none test other h [] e = refl
last_passing-none test other h (x ∷ xs) e =
    let parts = none_of_or (last_passing test xs) (passing test x) e in
    let fails = not_passing x (test x) parts.1 in
    go (other x) refl fails (last_passing-none test other h xs parts.0) where
      go : (b : Bool) → other x ≡ b → test x ≡ false → list_any other xs ≡ false → (b || list_any other xs) ≡ false
      go true f fails rest = absurd (false≢true (sym fails ∙ h x f))
      go false f fails rest = rest

pub find-none : {X : Type 0} (test other : X → Bool) → ((x : X) → other x ≡ true → test x ≡ true) → (xs : List X)
    → find test xs ≡ None → list_any other xs ≡ false
find-none test other h [] e = refl
find-none test other h (x ∷ xs) e = go (test x) refl (other x) refl e (find-none test other h xs) where
  go : (a : Bool) → test x ≡ a → (b : Bool) → other x ≡ b → cond a (Some x) (find test xs) ≡ None → (find test xs ≡ None → list_any other xs ≡ false)
      → (b || list_any other xs) ≡ false
  go true f b g e rest = cc
  go false f true g e rest = absurd (false≢true (sym f ∙ h x g))
  go false f false g e rest = rest e

-- where neither the test nor its opposite has an item, there is none
pub neither : {X : Type 0} (test : X → Bool) (xs : List X) → last_passing test xs ≡ None → find (λ x. not (test x)) xs ≡ None → xs ≡ []
neither test [] e f = refl
neither test (x ∷ xs) e f =
    let fails = not_passing x (test x) (none_of_or (last_passing test xs) (passing test x) e).1 in
    absurd (go (test x) fails f) where
      go : (b : Bool) → b ≡ false → cond (not b) (Some x) (find (λ y. not (test y)) xs) ≡ None → ⊥
      go true g f = false≢true (sym g)
      go false g f = cc

-- one more item
pub last_given-more : {X Y : Type 0} (give : X → Option Y) (xs : List X) (i : ℕ) (d : X) → i < length xs
    → last_given give (take (i + 1) xs) ≡ option_or (give (get_or xs i d)) (last_given give (take i xs))
last_given-more give xs i d h = ap (last_given give) (take_more xs i d h) ∙ last_given-append give (take i xs) (get_or xs i d ∷ [])
