-- Marks that nest: splits, the stack of open slots, and the span of a slot.
use Rattle.std.proofs.Common.{◌≡◌, ℕ, ◌+◌, ◌*◌, ◌-◌, ◌/◌, ◌%◌, ◌<◌, true, false, eqb, Some, List, [], ◌∷◌, ◌++◌, map, length, refl, sym, ap, ◌∙◌, subst, inl, inr, arith, is_some, append_assoc}
use Rattle.std.specs.List.{list_all}
use Rattle.std.proofs.lemmas.Bool.{cases_Bool, and_from, and_parts, eqb-true, eq-eqb, ne_eqb, or_cases, or_parts, or_from, or_left, or_right, false≢true}
use Rattle.doc_tree.specs.Element.{Element}
use Rattle.doc_tree.specs.Marks.{Mark, Open, Close, code, opened, slots_of, has, number_above, AreDifferent, IsBelow, Nests}
use Rattle.doc_tree.proofs.Numbers.{has-self}

pub opened-append : (xs ys : List Mark) → opened (xs ++ ys) ≡ opened xs ++ opened ys
opened-append [] ys = refl
opened-append (Open s ∷ xs) ys = ap (λ (ss : List ℕ). s ∷ ss) (opened-append xs ys)
opened-append (Close s ∷ xs) ys = opened-append xs ys

-- which marks open, and which slot
pub even : (s : ℕ) → eqb ((2 * s + 2) % 2) 0 ≡ true
even s = eq-eqb _ _ (omega arith)

pub odd : (s : ℕ) → eqb ((2 * s + 3) % 2) 0 ≡ false
odd s = ne_eqb _ _ (λ same. omega arith)

pub half : (s : ℕ) → (2 * s + 2) / 2 - 1 ≡ s
half s = omega arith

-- the slots that marks open, had from their numbers
pub slots_of-codes : (ms : List Mark) → slots_of (map code ms) ≡ opened ms
slots_of-codes [] = refl
slots_of-codes (Open s ∷ ms) = rw (even s, half s) (ap (λ (ss : List ℕ). s ∷ ss) (slots_of-codes ms))
slots_of-codes (Close s ∷ ms) = rw (odd s) (slots_of-codes ms)

-- a slot that is opened among the codes
pub opened-code : (s : ℕ) (ms : List Mark) → has s (opened ms) ≡ true → has (2 * s + 2) (map code ms) ≡ true
opened-code s [] h = absurd (false≢true h)
opened-code s (Open q ∷ ms) h =
    elim (or_cases (eqb s q) _ h) [
      | inl same ↦ or_left _ _ (eq-eqb (2 * s + 2) (2 * q + 2) (omega (arith, eqb-true _ _ same)))
      | inr later ↦ or_right _ _ (opened-code s ms later)
    ]
opened-code s (Close q ∷ ms) h = or_right _ _ (opened-code s ms h)

pub code-opened : (s : ℕ) (ms : List Mark) → has (2 * s + 2) (map code ms) ≡ true → has s (opened ms) ≡ true
code-opened s [] h = absurd (false≢true h)
code-opened s (Open q ∷ ms) h =
    elim (or_cases (eqb (2 * s + 2) (2 * q + 2)) _ h) [
      | inl same ↦ or_left _ _ (eq-eqb s q (omega (arith, eqb-true _ _ same)))
      | inr later ↦ or_right _ _ (code-opened s ms later)
    ]
code-opened s (Close q ∷ ms) h =
    elim (or_cases (eqb (2 * s + 2) (2 * q + 3)) _ h) [
      | inl same ↦ absurd (omega (arith, eqb-true _ _ same))
      | inr later ↦ code-opened s ms later
    ]

-- the first and the last number are of no mark
pub no_code : (n : ℕ) (ms : List Mark) → n < 2 → has n (map code ms) ≡ false
no_code n [] h = refl
no_code n (Open s ∷ ms) h = or_from _ _ (ne_eqb n (2 * s + 2) (λ same. omega arith)) (no_code n ms h)
no_code n (Close s ∷ ms) h = or_from _ _ (ne_eqb n (2 * s + 3) (λ same. omega arith)) (no_code n ms h)

-- slots that open once, where the marks are different
pub different-opened : (ms : List Mark) → AreDifferent (map code ms) → AreDifferent (opened ms)
different-opened [] d = tt
different-opened (Open s ∷ ms) d =
    (elim (cases_Bool (has s (opened ms))) [ inl there ↦ absurd (false≢true (sym d.0 ∙ opened-code s ms there)) | inr none ↦ none ], different-opened ms d.1)
different-opened (Close s ∷ ms) d = different-opened ms d.1

module _ (el : ℕ → Element) (dep : ℕ → ℕ) where
  -- where the marks are split, the same slots are open at the end of the first and at the start of the second
  pub record IsSplit (xs ys : List Mark) (stack end : List ℕ) : Type 0 where
    pub middle : List ℕ
    pub front : Nests el dep xs stack middle
    pub back : Nests el dep ys middle end

  pub nests-split : (xs ys : List Mark) (stack end : List ℕ) → Nests el dep (xs ++ ys) stack end → IsSplit xs ys stack end
  nests-split [] ys stack end n = record { middle = stack; front = refl; back = n }
  nests-split (Open s ∷ xs) ys stack end n =
      let rest = nests-split xs ys (s ∷ stack) end n.1 in
      record { middle = rest.middle; front = (n.0, rest.front); back = rest.back }
  nests-split (Close s ∷ xs) ys [] end n = absurd n
  nests-split (Close s ∷ xs) ys (q ∷ stack) end n =
      let rest = nests-split xs ys stack end n.1 in
      record { middle = rest.middle; front = (n.0, rest.front); back = rest.back }

  pub nests-join : (xs ys : List Mark) (stack middle end : List ℕ) → Nests el dep xs stack middle → Nests el dep ys middle end → Nests el dep (xs ++ ys) stack end
  nests-join [] ys stack middle end f b = subst (λ (st : List ℕ). Nests el dep ys st end) (sym f) b
  nests-join (Open s ∷ xs) ys stack middle end f b = (f.0, nests-join xs ys (s ∷ stack) middle end f.1 b)
  nests-join (Close s ∷ xs) ys [] middle end f b = absurd f
  nests-join (Close s ∷ xs) ys (q ∷ stack) middle end f b = (f.0, nests-join xs ys stack middle end f.1 b)

  -- what is open was open before, or was opened
  pub open_from : (ms : List Mark) (stack end : List ℕ) (q : ℕ) → Nests el dep ms stack end → has q (opened ms) ≡ false → has q end ≡ true → has q stack ≡ true
  open_from [] stack end q n none there = subst (λ (st : List ℕ). has q st ≡ true) (sym n) there
  open_from (Open s ∷ ms) stack end q n none there =
      let parts = or_parts (eqb q s) _ none in
      elim (or_cases (eqb q s) (has q stack) (open_from ms (s ∷ stack) end q n.1 parts.1 there)) [
        | inl same ↦ absurd (false≢true (sym parts.0 ∙ same))
        | inr before ↦ before
      ]
  open_from (Close s ∷ ms) [] end q n none there = absurd n
  open_from (Close s ∷ ms) (c ∷ stack) end q n none there = or_right _ _ (open_from ms stack end q n.1 none there)

  pub open_was_opened : (ms : List Mark) (end : List ℕ) (q : ℕ) → Nests el dep ms [] end → has q end ≡ true → has q (opened ms) ≡ true
  open_was_opened ms end q n there =
      elim (cases_Bool (has q (opened ms))) [ inl is ↦ is | inr none ↦ absurd (false≢true (open_from ms [] end q n none there)) ]

  -- each open slot is below the one that was opened before it
  pub AllBelow : List ℕ → Type 0
  AllBelow [] = Unit {0}
  AllBelow (s ∷ stack) = IsBelow el dep stack s × AllBelow stack

  pub below-nests : (ms : List Mark) (stack end : List ℕ) → Nests el dep ms stack end → AllBelow stack → AllBelow end
  unfolding AllBelow
  below-nests [] stack end n all = subst AllBelow n all
  below-nests (Open s ∷ ms) stack end n all = below-nests ms (s ∷ stack) end n.1 (n.0, all)
  below-nests (Close s ∷ ms) [] end n all = absurd n
  below-nests (Close s ∷ ms) (q ∷ stack) end n all = below-nests ms stack end n.1 all.1

  pub none_below : AllBelow []
  unfolding AllBelow
  none_below = tt

  pub top_below : (s : ℕ) (stack : List ℕ) → AllBelow (s ∷ stack) → IsBelow el dep stack s
  unfolding AllBelow
  top_below s stack all = all.0

  -- there are twice as many marks as slots that they open
  pub count-nests : (ms : List Mark) (stack end : List ℕ) → Nests el dep ms stack end → length stack + (length (opened ms) + length (opened ms)) ≡ length ms + length end
  count-nests [] stack end n = omega (arith, ap length n)
  count-nests (Open s ∷ ms) stack end n = omega (arith, count-nests ms (s ∷ stack) end n.1)
  count-nests (Close s ∷ ms) [] end n = absurd n
  count-nests (Close s ∷ ms) (q ∷ stack) end n = omega (arith, count-nests ms stack end n.1)

  -- an open slot is closed
  pub record IsClosed (ms : List Mark) (stack : List ℕ) (s : ℕ) (under : List ℕ) : Type 0 where
    pub inner : List Mark
    pub rest : List Mark
    pub is : ms ≡ inner ++ Close s ∷ rest
    pub within : Nests el dep inner stack (s ∷ under)
    pub after : Nests el dep rest under []

  pub closes : (ms : List Mark) (top under : List ℕ) (s : ℕ) → Nests el dep ms (top ++ s ∷ under) [] → IsClosed ms (top ++ s ∷ under) s under
  closes [] [] under s n = absurd (let e : s ∷ under ≡ [] = n in cc)
  closes [] (t ∷ top) under s n = absurd (let e : t ∷ (top ++ s ∷ under) ≡ [] = n in cc)
  closes (Open q ∷ ms) top under s n =
      let c = closes ms (q ∷ top) under s n.1 in
      record { inner = Open q ∷ c.inner; rest = c.rest; is = ap (λ (xs : List Mark). Open q ∷ xs) c.is; within = (n.0, c.within); after = c.after }
  closes (Close q ∷ ms) [] under s n =
      record { inner = []; rest = ms; is = ap (λ (x : ℕ). Close x ∷ ms) (sym n.0); within = refl; after = n.1 }
  closes (Close q ∷ ms) (t ∷ top) under s n =
      let c = closes ms top under s n.1 in
      record { inner = Close q ∷ c.inner; rest = c.rest; is = ap (λ (xs : List Mark). Close q ∷ xs) c.is; within = (n.0, c.within); after = c.after }

  -- where the marks of a slot stand, and what is open there
  pub record IsSpan (ms : List Mark) (s : ℕ) : Type 0 where
    pub before : List Mark
    pub inner : List Mark
    pub after : List Mark
    pub under : List ℕ
    pub is : ms ≡ before ++ Open s ∷ inner ++ Close s ∷ after
    pub front : Nests el dep before [] under
    pub below : IsBelow el dep under s
    pub within : Nests el dep inner (s ∷ under) (s ∷ under)
    pub back : Nests el dep after under []

  -- the marks before a slot that is opened
  record IsOpened (ms : List Mark) (s : ℕ) : Type 0 where
    pub before : List Mark
    pub rest : List Mark
    pub is : ms ≡ before ++ Open s ∷ rest

  opened_there : (ms : List Mark) (s : ℕ) → has s (opened ms) ≡ true → IsOpened ms s
  opened_there [] s h = absurd (false≢true h)
  opened_there (Open q ∷ ms) s h =
      elim (or_cases (eqb s q) _ h) [
        | inl same ↦ record { before = []; rest = ms; is = ap (λ (x : ℕ). Open x ∷ ms) (sym (eqb-true _ _ same)) }
        | inr later ↦ (let o = opened_there ms s later in record { before = Open q ∷ o.before; rest = o.rest; is = ap (λ (xs : List Mark). Open q ∷ xs) o.is })
      ]
  opened_there (Close q ∷ ms) s h =
      let o = opened_there ms s h in
      record { before = Close q ∷ o.before; rest = o.rest; is = ap (λ (xs : List Mark). Close q ∷ xs) o.is }

  pub span : (ms : List Mark) (s : ℕ) → Nests el dep ms [] [] → has s (opened ms) ≡ true → IsSpan ms s
  span ms s n h =
      let o = opened_there ms s h in
      let parts = nests-split o.before (Open s ∷ o.rest) [] [] (subst (λ (xs : List Mark). Nests el dep xs [] []) o.is n) in
      let c = closes o.rest [] parts.middle s parts.back.1 in
      record {
        before = o.before;
        inner = c.inner;
        after = c.rest;
        under = parts.middle;
        is = o.is ∙ (ap (λ (xs : List Mark). o.before ++ Open s ∷ xs) c.is ∙ sym (append_assoc o.before (Open s ∷ c.inner) (Close s ∷ c.rest)));
        front = parts.front;
        below = parts.back.0;
        within = c.within;
        back = c.after;
      }

-- marks nest as before where the elements of their slots are the same
pub record IsSameAt (el el' : ℕ → Element) (dep dep' : ℕ → ℕ) (s : ℕ) : Type 0 where
  pub element : el' s ≡ el s
  pub depth : dep' s ≡ dep s

pub number_above-same : (el el' : ℕ → Element) (dep dep' : ℕ → ℕ) (stack : List ℕ) → ((t : ℕ) → has t stack ≡ true → IsSameAt el el' dep dep' t) → number_above el stack ≡ number_above el' stack
number_above-same el el' dep dep' [] same = refl
number_above-same el el' dep dep' (q ∷ stack) same = ap (λ (e : Element). Some e.number) (sym (same q (has-self q stack)).element)

pub below-same : (el el' : ℕ → Element) (dep dep' : ℕ → ℕ) (s : ℕ) (stack : List ℕ) → IsSameAt el el' dep dep' s → ((t : ℕ) → has t stack ≡ true → IsSameAt el el' dep dep' t) → IsBelow el dep stack s → IsBelow el' dep' stack s
below-same el el' dep dep' s stack own same below =
    record { parent = ap (λ (e : Element). e.parent) own.element ∙ (below.parent ∙ number_above-same el el' dep dep' stack same); depth = own.depth ∙ below.depth }

pub nests-same : (el el' : ℕ → Element) (dep dep' : ℕ → ℕ) (ms : List Mark) (stack end : List ℕ) → ((t : ℕ) → has t stack ≡ true → IsSameAt el el' dep dep' t) → ((t : ℕ) → has t (opened ms) ≡ true → IsSameAt el el' dep dep' t)
    → Nests el dep ms stack end → Nests el' dep' ms stack end
nests-same el el' dep dep' [] stack end under over n = n
nests-same el el' dep dep' (Open s ∷ ms) stack end under over n =
    let own = over s (has-self s (opened ms)) in (
      below-same el el' dep dep' s stack own under n.0,
      nests-same el el' dep dep' ms (s ∷ stack) end
          (λ t h. elim (or_cases (eqb t s) (has t stack) h) [ inl is ↦ subst (IsSameAt el el' dep dep') (sym (eqb-true _ _ is)) own | inr later ↦ under t later ])
          (λ t h. over t (or_right _ _ h)) n.1,
    )
nests-same el el' dep dep' (Close s ∷ ms) [] end under over n = absurd n
nests-same el el' dep dep' (Close s ∷ ms) (q ∷ stack) end under over n = (n.0, nests-same el el' dep dep' ms stack end (λ t h. under t (or_right _ _ h)) over n.1)

pub elements-same : (el el' : ℕ → Element) (dep dep' : ℕ → ℕ) (ss : List ℕ) → ((t : ℕ) → has t ss ≡ true → IsSameAt el el' dep dep' t) → map el' ss ≡ map el ss
elements-same el el' dep dep' [] same = refl
elements-same el el' dep dep' (s ∷ ss) same =
    let own = (same s (has-self s ss)).element in
    let rest = elements-same el el' dep dep' ss (λ t h. same t (or_right _ _ h)) in
    cc

pub rooted-same : (el el' : ℕ → Element) (dep dep' : ℕ → ℕ) (ss : List ℕ) → ((t : ℕ) → has t ss ≡ true → IsSameAt el el' dep dep' t) → list_all (λ s. is_some (el s).parent) ss ≡ true → list_all (λ s. is_some (el' s).parent) ss ≡ true
rooted-same el el' dep dep' [] same all = refl
rooted-same el el' dep dep' (s ∷ ss) same all =
    let parts = and_parts (is_some (el s).parent) _ all in
    and_from _ _ (ap (λ (e : Element). is_some e.parent) (same s (has-self s ss)).element ∙ parts.0) (rooted-same el el' dep dep' ss (λ t h. same t (or_right _ _ h)) parts.1)
