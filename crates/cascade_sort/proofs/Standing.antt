-- Where the declarations that apply to an element stand.
use Rattle.std.proofs.Common.{◌≡◌, ℕ, zero, suc, ◌+◌, List, [], ◌∷◌, refl, ap, sym, ◌∙◌, subst, arith, zero-add, ⊎_elim}
use Rattle.std.specs.Prelude.{Contains, slice_get, Some}
use Rattle.std.proofs.lemmas.List.Elements.{Contains-append_cases, Contains-append_left, Contains-append_right}
use Rattle.sheet_types.specs.declared.declaration.DeclarationParts.{DeclarationParts}
use Rattle.cascade_sort.specs.declared.precedence.Precedence.{Precedence}
use Rattle.cascade_sort.specs.Applying.{Applied, applied, applied_from, joined_from}
use Rattle.cascade_sort.specs.Precedences.{of_declaration}
use Rattle.cascade_sort.proofs.Members.{member_after, member_cases, member_first, no_member}

-- ---- a block

pub record StandsInBlock (block : Precedence) (at : ℕ) (ds : List DeclarationParts) (a : Applied) : Type 0 where
  pub i : ℕ
  pub parts : DeclarationParts
  pub stands : slice_get ds i ≡ Some parts
  pub is : a ≡ applied parts (of_declaration block (at + i))

pub from_block : (block : Precedence) (at : ℕ) (ds : List DeclarationParts) (a : Applied) → Contains (applied_from block at ds) a → StandsInBlock block at ds a
from_block block at [] a h = no_member a h
from_block block at (d ∷ ds) a h =
    ⊎_elim
    (λ (here : applied d (of_declaration block at) ≡ a).
    let same : at ≡ at + 0 = omega arith in
    record { i = 0; parts = d; stands = refl; is = sym here ∙ ap (λ n. applied d (of_declaration block n)) same })
    (λ (rest : Contains (applied_from block (at + 1) ds) a).
    let more = from_block block (at + 1) ds a rest in
    let next : at + 1 + more.i ≡ at + suc more.i = omega arith in
    record { i = suc more.i; parts = more.parts; stands = more.stands; is = more.is ∙ ap (λ n. applied more.parts (of_declaration block n)) next })
    (member_cases (applied d (of_declaration block at)) (applied_from block (at + 1) ds) a h)

pub in_block : (block : Precedence) (at i : ℕ) (ds : List DeclarationParts) (d : DeclarationParts) → slice_get ds i ≡ Some d
    → Contains (applied_from block at ds) (applied d (of_declaration block (at + i)))
in_block block at i [] d stands = absurd (cc)
in_block block at zero (e ∷ es) d stands =
    let same : e ≡ d = cc in
    let there : at ≡ at + 0 = omega arith in
    subst (λ (n : ℕ). Contains (applied e (of_declaration block at) ∷ applied_from block (at + 1) es) (applied d (of_declaration block n))) there
    (subst (λ (x : DeclarationParts). Contains (applied e (of_declaration block at) ∷ applied_from block (at + 1) es) (applied x (of_declaration block at))) same
    (member_first (applied e (of_declaration block at)) (applied_from block (at + 1) es)))
in_block block at (suc i) (e ∷ es) d stands =
    let next : at + 1 + i ≡ at + suc i = omega arith in
    subst (λ (n : ℕ). Contains (applied e (of_declaration block at) ∷ applied_from block (at + 1) es) (applied d (of_declaration block n))) next
    (member_after (applied e (of_declaration block at)) (applied_from block (at + 1) es) (applied d (of_declaration block (at + 1 + i))) (in_block block (at + 1) i es d stands))

-- and in a whole block
pub record StandsInWhole (block : Precedence) (ds : List DeclarationParts) (a : Applied) : Type 0 where
  pub i : ℕ
  pub parts : DeclarationParts
  pub stands : slice_get ds i ≡ Some parts
  pub is : a ≡ applied parts (of_declaration block i)

pub from_whole : (block : Precedence) (ds : List DeclarationParts) (a : Applied) → Contains (applied_from block 0 ds) a → StandsInWhole block ds a
from_whole block ds a h =
    let b = from_block block 0 ds a h in
    record { i = b.i; parts = b.parts; stands = b.stands; is = subst (λ (n : ℕ). a ≡ applied b.parts (of_declaration block n)) (zero-add b.i) b.is }

pub in_whole : (block : Precedence) (i : ℕ) (ds : List DeclarationParts) (d : DeclarationParts) (a : Applied) → slice_get ds i ≡ Some d → a ≡ applied d (of_declaration block i)
    → Contains (applied_from block 0 ds) a
in_whole block i ds d a stands is =
    subst (λ (x : Applied). Contains (applied_from block 0 ds) x) (sym is)
    (subst (λ (n : ℕ). Contains (applied_from block 0 ds) (applied d (of_declaration block n))) (zero-add i) (in_block block 0 i ds d stands))

-- ---- lists that count

-- the parts of a list whose items are counted from a number
pub record IsPartAt {A B : Type 0} (f : ℕ → A → List B) (at : ℕ) (xs : List A) (y : B) : Type 0 where
  pub i : ℕ
  pub item : A
  pub stands : slice_get xs i ≡ Some item
  pub has : Contains (f (at + i) item) y

pub from_joined : {A B : Type 0} (f : ℕ → A → List B) (at : ℕ) (xs : List A) (y : B) → Contains (joined_from f at xs) y → IsPartAt f at xs y
from_joined f at [] y h = no_member y h
from_joined f at (x ∷ xs) y h =
    ⊎_elim
    (λ (here : Contains (f at x) y).
    let same : at ≡ at + 0 = omega arith in
    record { i = 0; item = x; stands = refl; has = subst (λ (n : ℕ). Contains (f n x) y) same here })
    (λ (rest : Contains (joined_from f (at + 1) xs) y).
    let more = from_joined f (at + 1) xs y rest in
    let next : at + 1 + more.i ≡ at + suc more.i = omega arith in
    record { i = suc more.i; item = more.item; stands = more.stands; has = subst (λ (n : ℕ). Contains (f n more.item) y) next more.has })
    (Contains-append_cases (f at x) (joined_from f (at + 1) xs) y h)

pub in_joined : {A B : Type 0} (f : ℕ → A → List B) (at i : ℕ) (xs : List A) (x : A) (y : B) → slice_get xs i ≡ Some x → Contains (f (at + i) x) y → Contains (joined_from f at xs) y
in_joined f at i [] x y stands has = absurd (cc)
in_joined {A} f at zero (z ∷ zs) x y stands has =
    let same : x ≡ z = cc in
    let there : at + 0 ≡ at = omega arith in
    Contains-append_left (f at z) (joined_from f (at + 1) zs) y (subst (λ (n : ℕ). Contains (f n z) y) there (subst (λ (w : A). Contains (f (at + 0) w) y) same has))
in_joined f at (suc i) (z ∷ zs) x y stands has =
    let next : at + suc i ≡ at + 1 + i = omega arith in
    Contains-append_right (f at z) (joined_from f (at + 1) zs) y (in_joined f (at + 1) i zs x y stands (subst (λ (n : ℕ). Contains (f n x) y) next has))
