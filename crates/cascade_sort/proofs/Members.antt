-- What is in a list that is made of others.
use Rattle.std.proofs.Common.{◌≡◌, ◌⊎◌, inl, inr, ℕ, zero, suc, Bool, true, false, List, [], ◌∷◌, map, refl, ap, sym, ◌∙◌, subst, arith, cond, ⊎_elim}
use Rattle.std.specs.Prelude.{Contains, filter, flat_map, slice_get, Option, None, Some}
use Rattle.std.specs.Option.{option_map_or}
use Rattle.std.proofs.lemmas.List.Elements.{Contains-append_cases, Contains-append_left, Contains-append_right}
use Rattle.std.proofs.lemmas.Option.{get_or_from_slice_get, slice_get-get_or, slice_get_within}

pub member_first : {A : Type 0} (x : A) (xs : List A) → Contains (x ∷ xs) x
member_first x xs = (0, omega arith, refl)

pub member_after : {A : Type 0} (x : A) (xs : List A) (y : A) → Contains xs y → Contains (x ∷ xs) y
member_after x xs y (k, within, is) = (suc k, omega (arith, within), is)

pub member_cases : {A : Type 0} (x : A) (xs : List A) (y : A) → Contains (x ∷ xs) y → (x ≡ y) ⊎ Contains xs y
member_cases x xs y (zero, within, is) = inl is
member_cases x xs y (suc k, within, is) = inr (k, omega (arith, within), is)

pub no_member : {A X : Type 0} (y : A) → Contains [] y → X
no_member y (k, within, is) = absurd (omega (arith, within))

-- ---- by index

pub record HasIndex {A : Type 0} (xs : List A) (x : A) : Type 0 where
  pub i : ℕ
  pub stands : slice_get xs i ≡ Some x

pub index_of_member : {A : Type 0} (xs : List A) (x : A) → Contains xs x → HasIndex xs x
index_of_member xs x (k, within, is) = record { i = k; stands = slice_get-get_or xs k x within ∙ ap Some is }

pub member_at : {A : Type 0} (xs : List A) (i : ℕ) (x : A) → slice_get xs i ≡ Some x → Contains xs x
member_at xs i x stands = (i, slice_get_within xs i x stands, get_or_from_slice_get xs i x x stands)

-- ---- map

pub record IsImage {A B : Type 0} (f : A → B) (xs : List A) (y : B) : Type 0 where
  pub item : A
  pub among : Contains xs item
  pub is : f item ≡ y

pub member_of_map : {A B : Type 0} (f : A → B) (xs : List A) (y : B) → Contains (map f xs) y → IsImage f xs y
member_of_map f [] y h = no_member y h
member_of_map f (x ∷ xs) y h =
    ⊎_elim
    (λ (is : f x ≡ y). record { item = x; among = member_first x xs; is = is })
    (λ (rest : Contains (map f xs) y). let more = member_of_map f xs y rest in record { item = more.item; among = member_after x xs more.item more.among; is = more.is })
    (member_cases (f x) (map f xs) y h)

pub image_of_member : {A B : Type 0} (f : A → B) (xs : List A) (x : A) → Contains xs x → Contains (map f xs) (f x)
image_of_member f [] x h = no_member x h
image_of_member {A} {B} f (y ∷ ys) x h =
    ⊎_elim
    (λ (is : y ≡ x). subst (λ (z : B). Contains (map f (y ∷ ys)) z) (ap f is) (member_first (f y) (map f ys)))
    (λ (rest : Contains ys x). member_after (f y) (map f ys) (f x) (image_of_member f ys x rest))
    (member_cases y ys x h)

-- ---- filter

from_kept : {A : Type 0} (p : A → Bool) (y : A) (ys : List A) (x : A) (b : Bool) → p y ≡ b → (Contains (filter p ys) x → Contains ys x × (p x ≡ true))
    → Contains (cond b (y ∷ filter p ys) (filter p ys)) x → Contains (y ∷ ys) x × (p x ≡ true)
from_kept {A} p y ys x true is rest among =
    ⊎_elim
    (λ (same : y ≡ x). (subst (λ (z : A). Contains (y ∷ ys) z) same (member_first y ys), sym (ap p same) ∙ is))
    (λ (more : Contains (filter p ys) x). let (there, passes) = rest more in (member_after y ys x there, passes))
    (member_cases y (filter p ys) x among)
from_kept p y ys x false is rest among = let (there, passes) = rest among in (member_after y ys x there, passes)

pub member_of_filter : {A : Type 0} (p : A → Bool) (xs : List A) (x : A) → Contains (filter p xs) x → Contains xs x × (p x ≡ true)
member_of_filter p [] x h = no_member x h
member_of_filter p (y ∷ ys) x h = from_kept p y ys x (p y) refl (member_of_filter p ys x) h

in_kept : {A : Type 0} (p : A → Bool) (y : A) (ys : List A) (x : A) (b : Bool) → p y ≡ b → p x ≡ true → (y ≡ x) ⊎ Contains (filter p ys) x
    → Contains (cond b (y ∷ filter p ys) (filter p ys)) x
in_kept {A} p y ys x true is passes (inl same) = subst (λ (z : A). Contains (y ∷ filter p ys) z) same (member_first y (filter p ys))
in_kept p y ys x true is passes (inr rest) = member_after y (filter p ys) x rest
in_kept p y ys x false is passes (inl same) = absurd (let fails : p x ≡ false = sym (ap p same) ∙ is in cc)
in_kept p y ys x false is passes (inr rest) = rest

pub member_that_passes : {A : Type 0} (p : A → Bool) (xs : List A) (x : A) → Contains xs x → p x ≡ true → Contains (filter p xs) x
member_that_passes p [] x h passes = no_member x h
member_that_passes p (y ∷ ys) x h passes =
    in_kept p y ys x (p y) refl passes
    (⊎_elim
    (λ (same : y ≡ x). inl same)
    (λ (rest : Contains ys x). inr (member_that_passes p ys x rest passes))
    (member_cases y ys x h))

-- ---- flat_map

pub record IsPart {A B : Type 0} (f : A → List B) (xs : List A) (y : B) : Type 0 where
  pub item : A
  pub among : Contains xs item
  pub has : Contains (f item) y

pub member_of_parts : {A B : Type 0} (f : A → List B) (xs : List A) (y : B) → Contains (flat_map f xs) y → IsPart f xs y
member_of_parts f [] y h = no_member y h
member_of_parts f (x ∷ xs) y h =
    ⊎_elim
    (λ (here : Contains (f x) y). record { item = x; among = member_first x xs; has = here })
    (λ (rest : Contains (flat_map f xs) y). let more = member_of_parts f xs y rest in record { item = more.item; among = member_after x xs more.item more.among; has = more.has })
    (Contains-append_cases (f x) (flat_map f xs) y h)

pub part_of_member : {A B : Type 0} (f : A → List B) (xs : List A) (x : A) (y : B) → Contains xs x → Contains (f x) y → Contains (flat_map f xs) y
part_of_member f [] x y h has = no_member x h
part_of_member f (z ∷ zs) x y h has =
    ⊎_elim
    (λ (same : z ≡ x). Contains-append_left (f z) (flat_map f zs) y (subst (λ w. Contains (f w) y) (sym same) has))
    (λ (rest : Contains zs x). Contains-append_right (f z) (flat_map f zs) y (part_of_member f zs x y rest has))
    (member_cases z zs x h)

-- ---- what may be absent

pub record IsOfSome {A B : Type 0} (f : A → List B) (o : Option A) (y : B) : Type 0 where
  pub item : A
  pub is : o ≡ Some item
  pub has : Contains (f item) y

pub member_of_some : {A B : Type 0} (f : A → List B) (o : Option A) (y : B) → Contains (option_map_or f o []) y → IsOfSome f o y
member_of_some f None y h = no_member y h
member_of_some f (Some x) y h = record { item = x; is = refl; has = h }

pub some_has_member : {A B : Type 0} (f : A → List B) (o : Option A) (x : A) (y : B) → o ≡ Some x → Contains (f x) y → Contains (option_map_or f o []) y
some_has_member {A} {B} f o x y is has = subst (λ (p : Option A). Contains (option_map_or f p []) y) (sym is) has

pub member_where : {A : Type 0} (b : Bool) (xs : List A) (y : A) → Contains (cond b xs []) y → (b ≡ true) × Contains xs y
member_where true xs y h = (refl, h)
member_where false xs y h = no_member y h

pub where_has_member : {A : Type 0} (b : Bool) (xs : List A) (y : A) → b ≡ true → Contains xs y → Contains (cond b xs []) y
where_has_member {A} b xs y is h = subst (λ (c : Bool). Contains (cond c xs []) y) (sym is) h
