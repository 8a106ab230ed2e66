-- Places of a plan.
use Rattle.std.proofs.Common.{◌≡◌, ℕ, zero, suc, eqb, refl, ap, sym, ◌∙◌, List, ◌∷◌, [], Bool, true, false, not, ◌&&◌, Option, Some, None, eq-eqb}
use Rattle.std.specs.Prelude.{if◌then◌else◌, slice_get}
use Rattle.std.specs.List.{list_any}
use Rattle.std.proofs.lemmas.Bool.{eqb-true}
use Rattle.pass_core.specs.Plans.{differ, planned_place}
use Rattle.pass_core.specs.declared.plan.Place.{Place}

pub both_true : (a b : Bool) → (a && b) ≡ true → (a ≡ true) × (b ≡ true)
both_true true b is = (refl, is)
both_true false b is = absurd (cc)

pub some_none : {X : Type 0} (o : Option X) (x : X) → o ≡ Some x → o ≡ None → ⊥
some_none o x is none = let e : Some x ≡ None = sym is ∙ none in cc

pub planned_place-first : (p : Place) (ps : List Place) (e : ℕ) (b : Bool) → eqb p.element e ≡ b → planned_place (p ∷ ps) e ≡ (if b then Some p else planned_place ps e)
planned_place-first p ps e b is = rw is refl

pub planned_place-element : (ps : List Place) (e : ℕ) (p : Place) → planned_place ps e ≡ Some p → p.element ≡ e
planned_place-element [] e p is = absurd (cc)
planned_place-element (q ∷ ps) e p is = at_first (eqb q.element e) refl (planned_place-element ps e p)
  where
    at_first : (b : Bool) → eqb q.element e ≡ b → (planned_place ps e ≡ Some p → p.element ≡ e) → p.element ≡ e
    at_first true same rest =
        let here : Some q ≡ Some p = sym (planned_place-first q ps e true same) ∙ is in
        let q_is : q ≡ p = cc in ap (λ (r : Place). r.element) (sym q_is) ∙ eqb-true q.element e same
    at_first false same rest = rest (sym (planned_place-first q ps e false same) ∙ is)

any_from_place : (ps : List Place) (e : ℕ) (p : Place) → planned_place ps e ≡ Some p → list_any (λ q. eqb q.element e) ps ≡ true
any_from_place [] e p is = absurd (cc)
any_from_place (q ∷ ps) e p is = at_first (eqb q.element e) refl (any_from_place ps e p)
  where
    at_first : (b : Bool) → eqb q.element e ≡ b → (planned_place ps e ≡ Some p → list_any (λ q. eqb q.element e) ps ≡ true) → list_any (λ q. eqb q.element e) (q ∷ ps) ≡ true
    at_first true same rest = rw same refl
    at_first false same rest = rw same (rest (sym (planned_place-first q ps e false same) ∙ is))

not_true : (b : Bool) → not b ≡ true → b ≡ true → ⊥
not_true true a b = cc
not_true false a b = cc

-- a place of the plan is the place of its element
pub planned_place-slice_get : (ps : List Place) (i : ℕ) (q : Place) → differ ps ≡ true → slice_get ps i ≡ Some q → planned_place ps q.element ≡ Some q
planned_place-slice_get [] i q differs is = absurd (cc)
planned_place-slice_get (p ∷ ps) zero q differs is =
    let p_is : p ≡ q = cc in planned_place-first p ps q.element true (eq-eqb p.element q.element (ap (λ (r : Place). r.element) p_is)) ∙ ap Some p_is
planned_place-slice_get (p ∷ ps) (suc i) q differs is =
    let parts = both_true (not (list_any (λ r. eqb r.element p.element) ps)) (differ ps) differs in
    let rest = planned_place-slice_get ps i q parts.1 is in
    at_first (eqb p.element q.element) refl parts.0 rest
  where
    at_first : (b : Bool) → eqb p.element q.element ≡ b → not (list_any (λ r. eqb r.element p.element) ps) ≡ true → planned_place ps q.element ≡ Some q
        → planned_place (p ∷ ps) q.element ≡ Some q
    at_first true same none rest =
        let there = any_from_place ps q.element q rest in
        absurd (not_true (list_any (λ r. eqb r.element p.element) ps) none (ap (λ e. list_any (λ r. eqb r.element e) ps) (eqb-true p.element q.element same) ∙ there))
    at_first false same none rest = planned_place-first p ps q.element false same ∙ rest
