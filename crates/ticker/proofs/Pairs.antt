-- What holds of each pair of a list that is made of lists.
use Rattle.std.proofs.Common.{suc, arith, get_or, map}
use Rattle.std.specs.Prelude.{All, AllPairs, List, [], ◌∷◌, ◌++◌}
use Rattle.std.specs.List.{flat_map}
use Rattle.std.proofs.lemmas.List.Elements.{All-append, All-cons, All-head, All-map, All-nil, All-tail, All-weaker}
use Rattle.std.proofs.lemmas.List.Kept.{AllPairs-cons}

pub pairs_none : {A : Type 0} (R : A → A → Type 0) → AllPairs R []
pairs_none R i j d less short = absurd (omega (arith, short))

pub pairs_head : {A : Type 0} (R : A → A → Type 0) (x : A) (xs : List A) → AllPairs R (x ∷ xs) → All (R x) xs
pairs_head R x xs all = λ i d l. all 0 (suc i) d (omega arith) (omega (arith, l))

pub pairs_tail : {A : Type 0} (R : A → A → Type 0) (x : A) (xs : List A) → AllPairs R (x ∷ xs) → AllPairs R xs
pairs_tail R x xs all i j d less short = all (suc i) (suc j) d (omega (arith, less)) (omega (arith, short))

pub pairs_append : {A : Type 0} (R : A → A → Type 0) (xs ys : List A) → AllPairs R xs → AllPairs R ys → All (λ x. All (R x) ys) xs → AllPairs R (xs ++ ys)
pairs_append R [] ys one two across = two
pairs_append R (x ∷ xs) ys one two across =
    AllPairs-cons R x (xs ++ ys) (All-append (R x) xs ys (pairs_head R x xs one) (All-head (λ a. All (R a) ys) x xs across))
    (pairs_append R xs ys (pairs_tail R x xs one) two (All-tail (λ a. All (R a) ys) x xs across))

pub all_flat_map : {A B : Type 0} (P : B → Type 0) (f : A → List B) (xs : List A) → All (λ x. All P (f x)) xs → All P (flat_map f xs)
all_flat_map P f [] all = All-nil P
all_flat_map P f (x ∷ xs) all =
    All-append P (f x) (flat_map f xs) (All-head (λ a. All P (f a)) x xs all) (all_flat_map P f xs (All-tail (λ a. All P (f a)) x xs all))

pub pairs_map : {A B : Type 0} (S : A → A → Type 0) (R : B → B → Type 0) (f : A → B) → ((x y : A) → S x y → R (f x) (f y)) → (xs : List A) → AllPairs S xs
    → AllPairs R (map f xs)
pairs_map S R f keeps [] all = pairs_none R
pairs_map S R f keeps (x ∷ xs) all =
    AllPairs-cons R (f x) (map f xs) (All-map (R (f x)) f xs (All-weaker (S x) (λ y. R (f x) (f y)) (λ y s. keeps x y s) xs (pairs_head S x xs all)))
    (pairs_map S R f keeps xs (pairs_tail S x xs all))

pub pairs_flat_map : {A B : Type 0} (S : A → A → Type 0) (R : B → B → Type 0) (f : A → List B) → ((x : A) → AllPairs R (f x))
    → ((x y : A) → S x y → All (λ a. All (R a) (f y)) (f x)) → (xs : List A) → AllPairs S xs → AllPairs R (flat_map f xs)
pairs_flat_map S R f inside across [] all = pairs_none R
pairs_flat_map S R f inside across (x ∷ xs) all =
    pairs_append R (f x) (flat_map f xs) (inside x) (pairs_flat_map S R f inside across xs (pairs_tail S x xs all))
    (λ i d l. all_flat_map (R (get_or (f x) i d)) f xs (λ j e k. across x (get_or xs j e) (pairs_head S x xs all j e k) i d l))

pub pairs_flat_map_each : {A B : Type 0} (S : A → A → Type 0) (R : B → B → Type 0) (f : A → List B) → ((x y : A) → S x y → All (λ a. All (R a) (f y)) (f x))
    → (xs : List A) → All (λ x. AllPairs R (f x)) xs → AllPairs S xs → AllPairs R (flat_map f xs)
pairs_flat_map_each S R f across [] inside all = pairs_none R
pairs_flat_map_each S R f across (x ∷ xs) inside all =
    pairs_append R (f x) (flat_map f xs) (All-head (λ x. AllPairs R (f x)) x xs inside)
    (pairs_flat_map_each S R f across xs (All-tail (λ x. AllPairs R (f x)) x xs inside) (pairs_tail S x xs all))
    (λ i d l. all_flat_map (R (get_or (f x) i d)) f xs (λ j e k. across x (get_or xs j e) (pairs_head S x xs all j e k) i d l))

-- ---- back from a list of lists

pub all_left : {A : Type 0} (P : A → Type 0) (xs ys : List A) → All P (xs ++ ys) → All P xs
all_left P [] ys all = All-nil P
all_left P (x ∷ xs) ys all = All-cons P x xs (All-head P x (xs ++ ys) all) (all_left P xs ys (All-tail P x (xs ++ ys) all))

pub all_right : {A : Type 0} (P : A → Type 0) (xs ys : List A) → All P (xs ++ ys) → All P ys
all_right P [] ys all = all
all_right P (x ∷ xs) ys all = all_right P xs ys (All-tail P x (xs ++ ys) all)

pub pairs_left : {A : Type 0} (R : A → A → Type 0) (xs ys : List A) → AllPairs R (xs ++ ys) → AllPairs R xs
pairs_left R [] ys all = pairs_none R
pairs_left R (x ∷ xs) ys all = AllPairs-cons R x xs (all_left (R x) xs ys (pairs_head R x (xs ++ ys) all)) (pairs_left R xs ys (pairs_tail R x (xs ++ ys) all))

pub pairs_right : {A : Type 0} (R : A → A → Type 0) (xs ys : List A) → AllPairs R (xs ++ ys) → AllPairs R ys
pairs_right R [] ys all = all
pairs_right R (x ∷ xs) ys all = pairs_right R xs ys (pairs_tail R x (xs ++ ys) all)

pub pairs_across : {A : Type 0} (R : A → A → Type 0) (xs ys : List A) → AllPairs R (xs ++ ys) → All (λ x. All (R x) ys) xs
pairs_across R [] ys all = All-nil (λ x. All (R x) ys)
pairs_across R (x ∷ xs) ys all =
    All-cons (λ x. All (R x) ys) x xs (all_right (R x) xs ys (pairs_head R x (xs ++ ys) all)) (pairs_across R xs ys (pairs_tail R x (xs ++ ys) all))

pub all_of_flat : {A B : Type 0} (P : B → Type 0) (f : A → List B) (xs : List A) → All P (flat_map f xs) → All (λ x. All P (f x)) xs
all_of_flat P f [] all = All-nil (λ x. All P (f x))
all_of_flat P f (x ∷ xs) all =
    All-cons (λ x. All P (f x)) x xs (all_left P (f x) (flat_map f xs) all) (all_of_flat P f xs (all_right P (f x) (flat_map f xs) all))

pub pairs_inside : {A B : Type 0} (R : B → B → Type 0) (f : A → List B) (xs : List A) → AllPairs R (flat_map f xs) → All (λ x. AllPairs R (f x)) xs
pairs_inside R f [] all = All-nil (λ x. AllPairs R (f x))
pairs_inside R f (x ∷ xs) all =
    All-cons (λ x. AllPairs R (f x)) x xs (pairs_left R (f x) (flat_map f xs) all) (pairs_inside R f xs (pairs_right R (f x) (flat_map f xs) all))

pub pairs_between : {A B : Type 0} (R : B → B → Type 0) (f : A → List B) (xs : List A) → AllPairs R (flat_map f xs)
    → AllPairs (λ x y. All (λ a. All (R a) (f y)) (f x)) xs
pairs_between R f [] all = pairs_none (λ x y. All (λ a. All (R a) (f y)) (f x))
pairs_between R f (x ∷ xs) all =
    AllPairs-cons (λ x y. All (λ a. All (R a) (f y)) (f x)) x xs
    (λ j e k i d l. all_of_flat (R (get_or (f x) i d)) f xs (pairs_across R (f x) (flat_map f xs) all i d l) j e k)
    (pairs_between R f xs (pairs_right R (f x) (flat_map f xs) all))

pub all_of_map : {A B : Type 0} (P : B → Type 0) (f : A → B) (xs : List A) → All P (map f xs) → All (λ x. P (f x)) xs
all_of_map P f [] all = All-nil (λ x. P (f x))
all_of_map P f (x ∷ xs) all = All-cons (λ x. P (f x)) x xs (All-head P (f x) (map f xs) all) (all_of_map P f xs (All-tail P (f x) (map f xs) all))

pub pairs_of_map : {A B : Type 0} (R : B → B → Type 0) (f : A → B) (xs : List A) → AllPairs R (map f xs) → AllPairs (λ x y. R (f x) (f y)) xs
pairs_of_map R f [] all = pairs_none (λ x y. R (f x) (f y))
pairs_of_map R f (x ∷ xs) all =
    AllPairs-cons (λ x y. R (f x) (f y)) x xs (all_of_map (R (f x)) f xs (pairs_head R (f x) (map f xs) all)) (pairs_of_map R f xs (pairs_tail R (f x) (map f xs) all))

pub pairs_both : {A : Type 0} (R S : A → A → Type 0) (xs : List A) → AllPairs R xs → AllPairs S xs → AllPairs (λ x y. R x y × S x y) xs
pairs_both R S xs one two i j d less short = (one i j d less short, two i j d less short)
