-- What several readings give together, one after the other.
use Rattle.std.proofs.Common.{◌≡◌, refl, ap, sym, subst, ◌∙◌, map, List, [], ◌∷◌, ◌++◌, append_assoc, append-nil, Option, Some, None, Result, Ok, Err}
use Rattle.std.specs.Prelude.{All, IfOk, ⊤}
use Rattle.std.proofs.lemmas.List.Elements.{All-cons, All-nil}
use Rattle.token_parts.specs.declared.fault.ValueFault.{ValueFault}
use Rattle.token_parts.specs.declared.fault.ValueFault.TheVariants.{Unsupported, BoundItems, Bound, NoMemory}
use Rattle.value_text.specs.Reading.{both}
use Rattle.shorthand_text.specs.Declaring.{Reads}
use Rattle.shorthand_text.specs.Outcomes.{all_given, outcome_map, outcome_then}

-- these in front of what was given
abbrev pub in_front : {A : Type 0} → List A → Result (List A) ValueFault → Result (List A) ValueFault
in_front front r = outcome_map (λ ys. front ++ ys) r

-- a fault that was met, unless there is another
abbrev pub or_fault : {A : Type 0} → Option ValueFault → Result A ValueFault → Result A ValueFault
or_fault None r = r
or_fault (Some e) (Ok x) = Err e
or_fault (Some e) (Err f) = Err f

-- what comes of what was given so far, of a fault that was met, and of the rest
abbrev pub ahead : {A : Type 0} → List A → Option ValueFault → Result (List A) ValueFault → Result (List A) ValueFault
ahead front fault r = or_fault fault (in_front front r)

pub ahead_nothing : {A : Type 0} (r : Result (List A) ValueFault) → ahead [] None r ≡ r
ahead_nothing (Ok ys) = refl
ahead_nothing (Err f) = refl

pub ahead_given : {A : Type 0} (front : List A) (fault : Option ValueFault) (x : A) (r whole : Result (List A) ValueFault)
    → ahead front fault (both ◌∷◌ (Ok x) r) ≡ whole → ahead (front ++ x ∷ []) fault r ≡ whole
ahead_given front None x (Ok ys) whole h = ap Ok (append_assoc front (x ∷ []) ys) ∙ h
ahead_given front (Some e) x (Ok ys) whole h = h
ahead_given front None x (Err f) whole h = h
ahead_given front (Some e) x (Err f) whole h = h

pub ahead_unsupported : {A : Type 0} (front : List A) (fault : Option ValueFault) (r whole : Result (List A) ValueFault)
    → ahead front fault (both ◌∷◌ (Err Unsupported) r) ≡ whole → whole ≡ Err Unsupported
ahead_unsupported front None (Ok ys) whole h = sym h
ahead_unsupported front (Some e) (Ok ys) whole h = sym h
ahead_unsupported front None (Err f) whole h = sym h
ahead_unsupported front (Some e) (Err f) whole h = sym h

-- a fault other than what is unsupported
abbrev pub IsBeyond : ValueFault → Type 0
IsBeyond Unsupported = ⊥
IsBeyond _ = ⊤

pub ahead_bound : {A : Type 0} (front : List A) (fault : Option ValueFault) (e : ValueFault) (r whole : Result (List A) ValueFault) → IsBeyond e
    → ahead front fault (both ◌∷◌ (Err e) r) ≡ whole → ahead front (Some e) r ≡ whole
ahead_bound front fault Unsupported r whole other h = absurd other
ahead_bound front None BoundItems (Ok ys) whole other h = h
ahead_bound front None Bound (Ok ys) whole other h = h
ahead_bound front None NoMemory (Ok ys) whole other h = h
ahead_bound front None BoundItems (Err f) whole other h = h
ahead_bound front None Bound (Err f) whole other h = h
ahead_bound front None NoMemory (Err f) whole other h = h
ahead_bound front (Some g) BoundItems (Ok ys) whole other h = h
ahead_bound front (Some g) Bound (Ok ys) whole other h = h
ahead_bound front (Some g) NoMemory (Ok ys) whole other h = h
ahead_bound front (Some g) BoundItems (Err f) whole other h = h
ahead_bound front (Some g) Bound (Err f) whole other h = h
ahead_bound front (Some g) NoMemory (Err f) whole other h = h

pub ahead_end : {A : Type 0} (front : List A) → ahead front None (Ok []) ≡ Ok front
ahead_end front = ap Ok (append-nil front)

-- a fault is that of the outcome
pub reads_fault : {X Y : Type 0} (view : X → Y) (e : ValueFault) (wanted : Result Y ValueFault) → wanted ≡ Err e → Reads view (Err e) wanted
reads_fault view Unsupported wanted h = h
reads_fault view BoundItems wanted h = h
reads_fault view Bound wanted h = h
reads_fault view NoMemory wanted h = tt

-- ---- what was given

pub map_given : {A B : Type 0} (f : A → B) (r : Result A ValueFault) (y : B) → outcome_map f r ≡ Ok y → (x : A) × (r ≡ Ok x) × (f x ≡ y)
map_given f (Ok x) y h = let e : f x ≡ y = cc in (x, refl, e)
map_given f (Err e) y h = absurd (cc)

pub then_given : {A B : Type 0} (r : Result A ValueFault) (f : A → Result B ValueFault) (y : B) → outcome_then r f ≡ Ok y → (x : A) × (r ≡ Ok x) × (f x ≡ Ok y)
then_given (Ok x) f y h = (x, refl, h)
then_given (Err e) f y h = absurd (cc)

both_given : {A B C : Type 0} (f : A → B → C) (r : Result A ValueFault) (s : Result B ValueFault) (z : C) → both f r s ≡ Ok z
    → (x : A) × (y : B) × (r ≡ Ok x) × (s ≡ Ok y) × (f x y ≡ z)
both_given f (Ok x) (Ok y) z h = let e : f x y ≡ z = cc in (x, y, refl, refl, e)
both_given f (Ok x) (Err e) z h = absurd (cc)
both_given f (Err e) (Ok y) z h = absurd (cc)
both_given f (Err Unsupported) (Err e) z h = absurd (cc)
both_given f (Err BoundItems) (Err e) z h = absurd (cc)
both_given f (Err Bound) (Err e) z h = absurd (cc)
both_given f (Err NoMemory) (Err e) z h = absurd (cc)

-- what each gives has what the reader promises
pub given_each : {A B : Type 0} (P : B → Type 0) (f : A → Result B ValueFault) → ((x : A) (y : B) → f x ≡ Ok y → P y)
    → (xs : List A) (ys : List B) → all_given (map f xs) ≡ Ok ys → All P ys
given_each P f each [] ys h = let e : [] ≡ ys = cc in subst (All P) e (All-nil P)
given_each P f each (x ∷ xs) ys h =
    let found = both_given ◌∷◌ (f x) (all_given (map f xs)) ys h in
    subst (All P) found.4 (All-cons P found.0 found.1 (each x found.0 found.2) (given_each P f each xs found.1 found.3))

-- what is read of a valid outcome is valid
pub reads_valid : {X Y : Type 0} (view : X → Y) (P : Y → Type 0) (r : Result X ValueFault) (wanted : Result Y ValueFault) → Reads view r wanted
    → ((y : Y) → wanted ≡ Ok y → P y) → IfOk r (λ x. P (view x))
reads_valid view P (Ok x) wanted h valid = valid (view x) h
reads_valid view P (Err e) wanted h valid = tt

-- what is said alike of what each gives and of what it is read from
pub given_map : {A B C : Type 0} (f : A → Result B ValueFault) (g : B → C) (h : A → C) → ((x : A) (y : B) → f x ≡ Ok y → g y ≡ h x)
    → (xs : List A) (ys : List B) → all_given (map f xs) ≡ Ok ys → map g ys ≡ map h xs
given_map f g h each [] ys is = let e : [] ≡ ys = cc in ap (map g) (sym e)
given_map f g h each (x ∷ xs) ys is =
    let found = both_given ◌∷◌ (f x) (all_given (map f xs)) ys is in
    let first : g found.0 ≡ h x = each x found.0 found.2 in
    let rest : map g found.1 ≡ map h xs = given_map f g h each xs found.1 found.3 in
    ap (map g) (sym found.4) ∙ ap (λ c. c ∷ map g found.1) first ∙ ap (λ l. h x ∷ l) rest
