-- What the slots keep is the strongest that was offered to them.
use Rattle.std.proofs.Common.{◌≡◌, ◌≢◌, inl, inr, ℕ, ◌<◌, Bool, true, false, List, [], ◌∷◌, ◌++◌, length, get_or, refl, sym, ◌∙◌, subst, cond, append_assoc, get_or-set_same, get_or-set_other, length-set}
use Rattle.std.specs.Prelude.{All, Contains, IsSomeAnd, fold, replicate, Option, None, Some}
use Rattle.std.proofs.lemmas.Bool.{cases_eq}
use Rattle.std.proofs.lemmas.List.{append-nil, get_or-replicate, length-replicate}
use Rattle.std.proofs.lemmas.List.Elements.{All-nil, All-push, All-weaker, Contains-append_left, Contains-push}
use Rattle.cascade_sort.specs.declared.precedence.Precedence.{Precedence}
use Rattle.cascade_sort.specs.Lexicographic.{is_at_most}
use Rattle.cascade_sort.specs.Precedences.{keys_of}
use Rattle.cascade_sort.specs.Finding.{Slots, stronger_of, with_offer}
use Rattle.cascade_sort.proofs.Orders.{at_most_itself, at_most_total, at_most_trans}

abbrev pub IsUpTo : Precedence → Precedence → Type 0
IsUpTo p q = is_at_most (keys_of p) (keys_of q) ≡ true

-- an item of the list, in this slot, of this precedence
pub record IsOffer {A : Type 0} (slot : A → ℕ) (key : A → Precedence) (xs : List A) (n : ℕ) (p : Precedence) : Type 0 where
  pub item : A
  pub among : Contains xs item
  pub stands : slot item ≡ n
  pub is : key item ≡ p

-- what is kept of a slot is of an item, and no item of the slot is of a greater precedence
pub record IsStrongest {A : Type 0} (slot : A → ℕ) (key : A → Precedence) (xs : List A) (n : ℕ) (o : Option Precedence) : Type 0 where
  pub offered : (p : Precedence) → o ≡ Some p → IsOffer slot key xs n p
  pub most : All (λ a. slot a ≡ n → IsSomeAnd o (IsUpTo (key a))) xs

offer_before : {A : Type 0} {slot : A → ℕ} {key : A → Precedence} {xs : List A} {n : ℕ} {p : Precedence} (a : A) → IsOffer slot key xs n p → IsOffer slot key (xs ++ a ∷ []) n p
offer_before {xs = xs} a f = record { item = f.item; among = Contains-append_left xs (a ∷ []) f.item f.among; stands = f.stands; is = f.is }

same_offer : {A : Type 0} (slot : A → ℕ) (key : A → Precedence) (xs : List A) (a : A) (p : Precedence) → Some (key a) ≡ Some p → IsOffer slot key (xs ++ a ∷ []) (slot a) p
same_offer slot key xs a p is = record { item = a; among = Contains-push xs a; stands = refl; is = (let e : key a ≡ p = cc in e) }

stronger : {A : Type 0} (slot : A → ℕ) (key : A → Precedence) (xs : List A) (a : A) (best : Precedence) (b : Bool) → is_at_most (keys_of best) (keys_of (key a)) ≡ b
    → IsStrongest slot key xs (slot a) (Some best) → IsStrongest slot key (xs ++ a ∷ []) (slot a) (Some (cond b (key a) best))
stronger slot key xs a best true is h = record {
  offered = same_offer slot key xs a;
  most = All-push (λ c. slot c ≡ slot a → IsUpTo (key c) (key a)) xs a
      (All-weaker (λ c. slot c ≡ slot a → IsUpTo (key c) best) (λ c. slot c ≡ slot a → IsUpTo (key c) (key a))
      (λ c below same. at_most_trans (keys_of (key c)) (keys_of best) (keys_of (key a)) (below same) is) xs h.most)
      (λ same. at_most_itself (keys_of (key a)));
}
stronger slot key xs a best false is h = record {
  offered = λ p e. offer_before a (h.offered p e);
  most = All-push (λ c. slot c ≡ slot a → IsUpTo (key c) best) xs a h.most
      (λ same. at_most_total (keys_of best) (keys_of (key a)) is);
}

-- the slot of an item that is offered
pub offered_here : {A : Type 0} (slot : A → ℕ) (key : A → Precedence) (xs : List A) (a : A) (o : Option Precedence)
    → IsStrongest slot key xs (slot a) o → IsStrongest slot key (xs ++ a ∷ []) (slot a) (Some (stronger_of o (key a)))
offered_here slot key xs a None h = record {
  offered = same_offer slot key xs a;
  most = All-push (λ c. slot c ≡ slot a → IsUpTo (key c) (key a)) xs a
      (All-weaker (λ c. slot c ≡ slot a → ⊥) (λ c. slot c ≡ slot a → IsUpTo (key c) (key a)) (λ c never same. absurd (never same)) xs h.most)
      (λ same. at_most_itself (keys_of (key a)));
}
offered_here slot key xs a (Some best) h = stronger slot key xs a best (is_at_most (keys_of best) (keys_of (key a))) refl h

-- any other slot
offered_elsewhere : {A : Type 0} (slot : A → ℕ) (key : A → Precedence) (xs : List A) (a : A) (n : ℕ) (o : Option Precedence)
    → n ≢ slot a → IsStrongest slot key xs n o → IsStrongest slot key (xs ++ a ∷ []) n o
offered_elsewhere slot key xs a n o other h = record {
  offered = λ p e. offer_before a (h.offered p e);
  most = All-push (λ c. slot c ≡ n → IsSomeAnd o (IsUpTo (key c))) xs a h.most (λ same. absurd (other (sym same)));
}

-- ---- all slots

-- each slot keeps the strongest
pub record AreStrongest {A : Type 0} (slot : A → ℕ) (key : A → Precedence) (xs : List A) (count : ℕ) (kept : Slots) : Type 0 where
  pub long : length kept ≡ count
  pub each : (n : ℕ) → n < count → IsStrongest slot key xs n (get_or kept n None)

pub offered_one : {A : Type 0} (slot : A → ℕ) (key : A → Precedence) (count : ℕ) → ((a : A) → slot a < count) → (xs : List A) (a : A) (kept : Slots)
    → AreStrongest slot key xs count kept → AreStrongest slot key (xs ++ a ∷ []) count (with_offer kept (slot a) (key a))
offered_one slot key count small xs a kept h = record {
  long = length-set kept (slot a) (Some (stronger_of (get_or kept (slot a) None) (key a))) ∙ h.long;
  each = λ n within. elim (cases_eq n (slot a)) [
    | inl same ↦ (
        let here : slot a < length kept = subst (λ (k : ℕ). slot a < k) (sym h.long) (small a) in
        let old : IsStrongest slot key xs (slot a) (get_or kept (slot a) None) = h.each (slot a) (small a) in
        subst (λ (k : ℕ). IsStrongest slot key (xs ++ a ∷ []) k (get_or (with_offer kept (slot a) (key a)) k None)) (sym same)
        (rw (get_or-set_same kept (slot a) (Some (stronger_of (get_or kept (slot a) None) (key a))) None here) (offered_here slot key xs a (get_or kept (slot a) None) old)))
    | inr other ↦
        rw (get_or-set_other kept (slot a) n (Some (stronger_of (get_or kept (slot a) None) (key a))) None other)
        (offered_elsewhere slot key xs a n (get_or kept n None) other (h.each n within))
  ];
}

pub none_offered : {A : Type 0} (slot : A → ℕ) (key : A → Precedence) (count : ℕ) → AreStrongest slot key [] count (replicate count None)
none_offered slot key count = record {
  long = length-replicate count None;
  each = λ n within. rw (get_or-replicate {A = Option Precedence} count n None None within) record {
    offered = λ p e. absurd (cc);
    most = All-nil (λ a. slot a ≡ n → ⊥);
  };
}

pub offered_all : {A : Type 0} (slot : A → ℕ) (key : A → Precedence) (count : ℕ) → ((a : A) → slot a < count) → (xs ys : List A) (kept : Slots)
    → AreStrongest slot key xs count kept → AreStrongest slot key (xs ++ ys) count (fold (λ k a. with_offer k (slot a) (key a)) kept ys)
offered_all slot key count small xs [] kept h = rw (append-nil xs) h
offered_all {A} slot key count small xs (y ∷ ys) kept h =
    subst (λ (zs : List A). AreStrongest slot key zs count (fold (λ k a. with_offer k (slot a) (key a)) (with_offer kept (slot y) (key y)) ys)) (append_assoc xs (y ∷ []) ys)
    (offered_all slot key count small (xs ++ y ∷ []) ys (with_offer kept (slot y) (key y)) (offered_one slot key count small xs y kept h))
