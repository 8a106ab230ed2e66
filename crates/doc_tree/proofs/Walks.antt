-- A step along the marks.
use Rattle.std.proofs.Common.{◌≡◌, ◌≢◌, ℕ, ◌+◌, ◌-◌, ◌/◌, ◌%◌, ◌<◌, ◌≤◌, Bool, true, false, eqb, cond, Some, List, [], ◌∷◌, ◌++◌, length, get_or, set, zero, suc, refl, sym, ap, ◌∙◌, inl, inr, arith, slice_get, append_assoc}
use Rattle.std.proofs.lemmas.Bool.{cases_Bool, eqb-true, eq-eqb, ne_eqb}
use Rattle.std.proofs.lemmas.List.{length-set}
use Rattle.doc_tree.specs.Marks.{marks_until, slots_of, with_order}

pub until-step : (next : List ℕ) (last most step m : ℕ) → step < most → m ≢ last → marks_until next last (most - step) m ≡ m ∷ marks_until next last (most - (step + 1)) (get_or next m 0)
until-step next last most step m h other =
    let one : most - step ≡ suc (most - (step + 1)) = omega arith in
    ap (λ (k : ℕ). marks_until next last k m) one ∙ rw (ne_eqb m last other) refl

pub until-end : (next : List ℕ) (last k m : ℕ) → m ≡ last → marks_until next last k m ≡ []
until-end next last zero m is = refl
until-end next last (suc k) m is = rw (eq-eqb m last is) refl

pub until-over : (next : List ℕ) (last most step m : ℕ) → most ≤ step → marks_until next last (most - step) m ≡ []
until-over next last most step m h =
    let none : most - step ≡ 0 = omega arith in
    ap (λ (k : ℕ). marks_until next last k m) none

pub slots-step : (m : ℕ) (ms : List ℕ) → slots_of (m ∷ ms) ≡ cond (eqb (m % 2) 0) ((m / 2 - 1) ∷ []) [] ++ slots_of ms
slots-step m ms = elim (cases_Bool (eqb (m % 2) 0)) [ inl is ↦ rw is refl | inr other ↦ rw other refl ]

pub count-step : (m : ℕ) (ms : List ℕ) → length (slots_of (m ∷ ms)) ≡ cond (eqb (m % 2) 0) 1 0 + length (slots_of ms)
count-step m ms = elim (cases_Bool (eqb (m % 2) 0)) [ inl is ↦ rw is (omega arith) | inr other ↦ rw other (omega arith) ]

pub order-step : (m : ℕ) (ms : List ℕ) (k : ℕ) (order : List ℕ) → with_order (m ∷ ms) k order ≡ with_order ms (cond (eqb (m % 2) 0) (k + 1) k) (cond (eqb (m % 2) 0) (set order k (m / 2 - 1)) order)
order-step m ms k order = elim (cases_Bool (eqb (m % 2) 0)) [ inl is ↦ rw is refl | inr other ↦ rw other refl ]

-- the slot at a place, a step further
pub place-here : (m : ℕ) (ms : List ℕ) → m % 2 ≡ 0 → slice_get (slots_of (m ∷ ms)) 0 ≡ Some (m / 2 - 1)
place-here m ms is = rw (eq-eqb (m % 2) 0 is) refl

pub place-step : (m : ℕ) (ms : List ℕ) (left rest : ℕ) → (m % 2 ≡ 0 → left ≢ 0) → rest ≡ left - cond (eqb (m % 2) 0) 1 0 → slice_get (slots_of (m ∷ ms)) left ≡ slice_get (slots_of ms) rest
place-step m ms left rest later is =
    elim (cases_Bool (eqb (m % 2) 0)) [
      | inl opens ↦
          (let positive : left ≢ 0 = later (eqb-true _ _ opens) in
          let one : rest ≡ left - 1 = is ∙ ap (λ (b : Bool). left - cond b 1 0) opens in
          let up : left ≡ suc rest = omega arith in
          rw opens (ap (slice_get ((m / 2 - 1) ∷ slots_of ms)) up))
      | inr closes ↦
          (let same : left ≡ rest = omega (arith, is ∙ ap (λ (b : Bool). left - cond b 1 0) closes) in
          rw closes (ap (slice_get (slots_of ms)) same))
    ]

pub collect-step : (next : List ℕ) (last most step m : ℕ) (xs ys whole : List ℕ) → step < most → m ≢ last → ys ≡ xs ++ cond (eqb (m % 2) 0) ((m / 2 - 1) ∷ []) [] → xs ++ slots_of (marks_until next last (most - step) m) ≡ whole
    → ys ++ slots_of (marks_until next last (most - (step + 1)) (get_or next m 0)) ≡ whole
collect-step next last most step m xs ys whole h other is told =
    let rest = marks_until next last (most - (step + 1)) (get_or next m 0) in
    ap (λ (zs : List ℕ). zs ++ slots_of rest) is ∙ (append_assoc xs (cond (eqb (m % 2) 0) ((m / 2 - 1) ∷ []) []) (slots_of rest)
    ∙ (ap (λ (zs : List ℕ). xs ++ zs) (sym (ap slots_of (until-step next last most step m h other) ∙ slots-step m rest)) ∙ told))

pub count-until : (next : List ℕ) (last most step m : ℕ) → step < most → m ≢ last
    → length (slots_of (marks_until next last (most - step) m)) ≡ cond (eqb (m % 2) 0) 1 0 + length (slots_of (marks_until next last (most - (step + 1)) (get_or next m 0)))
count-until next last most step m h other =
    ap (λ (ms : List ℕ). length (slots_of ms)) (until-step next last most step m h other) ∙ count-step m (marks_until next last (most - (step + 1)) (get_or next m 0))

pub next-rank : (m rank : ℕ) → cond (eqb (m % 2) 0) (rank + 1) rank ≡ rank + cond (eqb (m % 2) 0) 1 0
next-rank m rank = elim (cases_Bool (eqb (m % 2) 0)) [ inl is ↦ rw is refl | inr other ↦ rw other (omega arith) ]

pub opens-one : (m : ℕ) → m % 2 ≡ 0 → ◌≡◌ {A = ℕ} (cond (eqb (m % 2) 0) 1 0) 1
opens-one m is = ap (λ (b : Bool). cond b 1 0) (eq-eqb (m % 2) 0 is)

pub length-written : (b : Bool) (xs : List ℕ) (i v : ℕ) → length (cond b (set xs i v) xs) ≡ length xs
length-written true xs i v = length-set xs i v
length-written false xs i v = refl
