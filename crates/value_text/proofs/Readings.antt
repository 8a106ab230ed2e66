-- Readings of relations, of which `true` holds numbers to their limits.
use Rattle.std.proofs.Common.{◌≡◌, refl, ap, sym, subst, ◌∙◌, Bool, true, false, Option, Some, None, Result, Ok, Err}
use Rattle.std.specs.Prelude.{if◌then◌else◌}
use Rattle.token_parts.specs.declared.fault.ValueFault.{ValueFault}
use Rattle.token_parts.specs.declared.fault.ValueFault.TheVariants.{Unsupported, BoundItems, Bound, NoMemory}
use Rattle.value_text.specs.Reading.{both, reading_map, or_unsupported}

-- the reading gives what is within its limits, tells what passes one, and finds all that is so
pub record IsReading {A : Type 0} (R : Bool → A → Type 0) (r : Result A ValueFault) : Type 0 where
  pub given : (a : A) → R true a → r ≡ Ok a
  pub found : (a : A) → r ≡ Ok a → R true a
  pub bound : r ≡ Err Bound → (a : A) × R false a
  pub some : (a : A) → R false a → r ≡ Err Unsupported → ⊥
  pub wider : (a : A) → R true a → R false a
  pub one : (a b : A) → R false a → R false b → a ≡ b
  pub no_items : r ≡ Err BoundItems → ⊥
  pub no_memory : r ≡ Err NoMemory → ⊥

-- nothing is so
pub nothing : {A : Type 0} (R : Bool → A → Type 0) → ((held : Bool) (a : A) → R held a → ⊥) → IsReading R (Err Unsupported)
nothing R none = record {
  given = λ a h. absurd (none true a h);
  found = λ a e. absurd (cc);
  bound = λ e. absurd (cc);
  some = λ a h e. none false a h;
  wider = λ a h. absurd (none true a h);
  one = λ a b h k. absurd (none false a h);
  no_items = λ e. cc;
  no_memory = λ e. cc;
}

-- a value that has no number with a limit
pub supported_is : {A : Type 0} (R : Bool → A → Type 0) (o : Option A)
    → ((held : Bool) (a : A) → R held a → o ≡ Some a) → ((held : Bool) (a : A) → o ≡ Some a → R held a) → IsReading R (or_unsupported o)
supported_is R None to from = nothing R (λ held a h. let e = to held a h in cc)
supported_is R (Some x) to from = record {
  given = λ a h. let e = to true a h in cc;
  found = λ a e. from true a (cc);
  bound = λ e. absurd (cc);
  some = λ a h e. cc;
  wider = λ a h. from false a (to true a h);
  one = λ a b h k. let e = to false a h in let d = to false b k in cc;
  no_items = λ e. cc;
  no_memory = λ e. cc;
}

-- seen otherwise
pub mapped_is : {A B : Type 0} (f : A → B) (R : Bool → A → Type 0) (S : Bool → B → Type 0) (r : Result A ValueFault) → IsReading R r
    → ((held : Bool) (a : A) → R held a → S held (f a)) → ((held : Bool) (b : B) → S held b → (a : A) × R held a × (f a ≡ b))
    → IsReading S (reading_map f r)
mapped_is f R S (Ok x) h to from = record {
  given = λ b s. let w = from true b s in let e = h.given w.0 w.1 in let d = w.2 in cc;
  found = λ b e. let x_is = to true x (h.found x refl) in let same : f x ≡ b = cc in subst (S true) same x_is;
  bound = λ e. absurd (cc);
  some = λ b s e. cc;
  wider = λ b s. let w = from true b s in subst (S false) w.2 (to false w.0 (h.wider w.0 w.1));
  one = λ b c s t. let v = from false b s in let w = from false c t in let e = h.one v.0 w.0 v.1 w.1 in sym v.2 ∙ ap f e ∙ w.2;
  no_items = λ e. cc;
  no_memory = λ e. cc;
}
mapped_is f R S (Err fault) h to from = record {
  given = λ b s. let w = from true b s in let e = h.given w.0 w.1 in absurd (cc);
  found = λ b e. absurd (cc);
  bound = λ e. let is : fault ≡ Bound = cc in let w = h.bound (ap Err is) in (f w.0, to false w.0 w.1);
  some = λ b s e. let w = from false b s in let is : fault ≡ Unsupported = cc in h.some w.0 w.1 (ap Err is);
  wider = λ b s. let w = from true b s in subst (S false) w.2 (to false w.0 (h.wider w.0 w.1));
  one = λ b c s t. let v = from false b s in let w = from false c t in let e = h.one v.0 w.0 v.1 w.1 in sym v.2 ∙ ap f e ∙ w.2;
  no_items = λ e. let is : fault ≡ BoundItems = cc in h.no_items (ap Err is);
  no_memory = λ e. let is : fault ≡ NoMemory = cc in h.no_memory (ap Err is);
}

-- the same relation, said otherwise
pub same_is : {A : Type 0} (R S : Bool → A → Type 0) (r : Result A ValueFault) → IsReading R r
    → ((held : Bool) (a : A) → R held a → S held a) → ((held : Bool) (a : A) → S held a → R held a) → IsReading S r
same_is R S r h to from = record {
  given = λ a s. h.given a (from true a s);
  found = λ a e. to true a (h.found a e);
  bound = λ e. let w = h.bound e in (w.0, to false w.0 w.1);
  some = λ a s e. h.some a (from false a s) e;
  wider = λ a s. to false a (h.wider a (from true a s));
  one = λ a b s t. h.one a b (from false a s) (from false b t);
  no_items = h.no_items;
  no_memory = h.no_memory;
}

-- one value, where a test holds
pub tested_is : {A : Type 0} (R : Bool → A → Type 0) (b : Bool) (v : A) → ((held : Bool) (a : A) → R held a → (b ≡ true) × (a ≡ v)) → ((held : Bool) → b ≡ true → R held v)
    → IsReading R (if b then Ok v else Err Unsupported)
tested_is R true v to from = record {
  given = λ a h. ap Ok (sym (to true a h).1);
  found = λ a e. let same : v ≡ a = cc in subst (R true) same (from true refl);
  bound = λ e. absurd (cc);
  some = λ a h e. cc;
  wider = λ a h. subst (R false) (sym (to true a h).1) (from false refl);
  one = λ a b h k. (to false a h).1 ∙ sym (to false b k).1;
  no_items = λ e. cc;
  no_memory = λ e. cc;
}
tested_is R false v to from = nothing R (λ held a h. let e = (to held a h).0 in cc)

-- what is held to limits is so without them too
unheld : {A : Type 0} (R : Bool → A → Type 0) (r : Result A ValueFault) → IsReading R r → (held : Bool) (a : A) → R held a → R false a
unheld R r h true a x = h.wider a x
unheld R r h false a x = x

-- ---- two readings

-- both are so
abbrev pub Both : {A B C : Type 0} → (A → B → C) → (Bool → A → Type 0) → (Bool → B → Type 0) → Bool → C → Type 0
Both {A = A} {B = B} f R S held c = (a : A) × (b : B) × R held a × S held b × (f a b ≡ c)

both_one : {A B C : Type 0} (f : A → B → C) (R : Bool → A → Type 0) (S : Bool → B → Type 0) (r : Result A ValueFault) (s : Result B ValueFault)
    → IsReading R r → IsReading S s → (c d : C) → Both f R S false c → Both f R S false d → c ≡ d
both_one f R S r s h k c d v w =
    let x = h.one v.0 w.0 v.2 w.2 in
    let y = k.one v.1 w.1 v.3 w.3 in
    let e = v.4 in let g = w.4 in cc

both_wider : {A B C : Type 0} (f : A → B → C) (R : Bool → A → Type 0) (S : Bool → B → Type 0) (r : Result A ValueFault) (s : Result B ValueFault)
    → IsReading R r → IsReading S s → (c : C) → Both f R S true c → Both f R S false c
both_wider f R S r s h k c v = (v.0, v.1, h.wider v.0 v.2, k.wider v.1 v.3, v.4)

pub both_is : {A B C : Type 0} (f : A → B → C) (R : Bool → A → Type 0) (S : Bool → B → Type 0) (r : Result A ValueFault) (s : Result B ValueFault)
    → IsReading R r → IsReading S s → IsReading (Both f R S) (both f r s)
both_is f R S (Ok x) (Ok y) h k = record {
  given = λ c v. let a = h.given v.0 v.2 in let b = k.given v.1 v.3 in let e = v.4 in cc;
  found = λ c e. let same : f x y ≡ c = cc in (x, y, h.found x refl, k.found y refl, same);
  bound = λ e. absurd (cc);
  some = λ c v e. cc;
  wider = both_wider f R S (Ok x) (Ok y) h k;
  one = both_one f R S (Ok x) (Ok y) h k;
  no_items = λ e. cc;
  no_memory = λ e. cc;
}
both_is f R S (Ok x) (Err fault) h k = record {
  given = λ c v. let b = k.given v.1 v.3 in absurd (cc);
  found = λ c e. absurd (cc);
  bound = λ e. let is : fault ≡ Bound = cc in let w = k.bound (ap Err is) in (f x w.0, (x, w.0, h.wider x (h.found x refl), w.1, refl));
  some = λ c v e. let is : fault ≡ Unsupported = cc in k.some v.1 v.3 (ap Err is);
  wider = both_wider f R S (Ok x) (Err fault) h k;
  one = both_one f R S (Ok x) (Err fault) h k;
  no_items = λ e. let is : fault ≡ BoundItems = cc in k.no_items (ap Err is);
  no_memory = λ e. let is : fault ≡ NoMemory = cc in k.no_memory (ap Err is);
}
both_is f R S (Err fault) (Ok y) h k = record {
  given = λ c v. let a = h.given v.0 v.2 in absurd (cc);
  found = λ c e. absurd (cc);
  bound = λ e. let is : fault ≡ Bound = cc in let w = h.bound (ap Err is) in (f w.0 y, (w.0, y, w.1, k.wider y (k.found y refl), refl));
  some = λ c v e. let is : fault ≡ Unsupported = cc in h.some v.0 v.2 (ap Err is);
  wider = both_wider f R S (Err fault) (Ok y) h k;
  one = both_one f R S (Err fault) (Ok y) h k;
  no_items = λ e. let is : fault ≡ BoundItems = cc in h.no_items (ap Err is);
  no_memory = λ e. let is : fault ≡ NoMemory = cc in h.no_memory (ap Err is);
}
both_is f R S (Err Unsupported) (Err fault) h k = nothing (Both f R S) (λ held c v. h.some v.0 (unheld R (Err Unsupported) h held v.0 v.2) refl)
both_is f R S (Err Bound) (Err fault) h k = record {
  given = λ c v. let a = h.given v.0 v.2 in absurd (cc);
  found = λ c e. absurd (cc);
  bound = λ e. let is : fault ≡ Bound = cc in let v = h.bound refl in let w = k.bound (ap Err is) in (f v.0 w.0, (v.0, w.0, v.1, w.1, refl));
  some = λ c v e. let is : fault ≡ Unsupported = cc in k.some v.1 v.3 (ap Err is);
  wider = both_wider f R S (Err Bound) (Err fault) h k;
  one = both_one f R S (Err Bound) (Err fault) h k;
  no_items = λ e. let is : fault ≡ BoundItems = cc in k.no_items (ap Err is);
  no_memory = λ e. let is : fault ≡ NoMemory = cc in k.no_memory (ap Err is);
}
both_is f R S (Err BoundItems) (Err fault) h k = absurd (h.no_items refl)
both_is f R S (Err NoMemory) (Err fault) h k = absurd (h.no_memory refl)
