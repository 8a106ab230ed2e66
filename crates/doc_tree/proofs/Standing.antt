-- The elements of a tour: they are a tree in tree order, and the open slots are the ancestors.
use Rattle.std.proofs.Common.{◌≡◌, ℕ, ◌+◌, ◌*◌, ◌⊎◌, Bool, true, false, eqb, Option, List, [], ◌∷◌, ◌++◌, map, drop, refl, sym, ap, ◌∙◌, subst, inl, inr, arith, is_some, append_assoc}
use Rattle.std.specs.Prelude.{filter}
use Rattle.std.specs.Option.{option_map_or}
use Rattle.std.specs.List.{list_all}
use Rattle.std.proofs.lemmas.Bool.{cases_Bool, eqb-true, eq-eqb, ne_eqb, and_parts, or_cases, or_parts, or_from, or_left, or_right, false≢true}
use Rattle.std.proofs.lemmas.List.{map-append}
use Rattle.doc_tree.specs.Element.{Element, is_in, chain, reversed_onto, inclusive_ancestors, is_inclusive_descendant}
use Rattle.doc_tree.specs.Shape.{Follows, IsGrown}
use Rattle.doc_tree.specs.Marks.{Mark, Open, Close, code, opened, has, number_above, AreDifferent, IsBelow, Nests}
use Rattle.doc_tree.proofs.Numbers.{has-append, has-self, different-apart}
use Rattle.doc_tree.proofs.Chains.{Has, Ends, chain-here, chain-past, is_in-chain, has-end}
use Rattle.doc_tree.proofs.Growth.{onto-append, is_in-onto_none, grown-back, chain-stays}
use Rattle.doc_tree.proofs.Tours.{opened-append, different-opened, nests-join, open_was_opened}

module _ (el : ℕ → Element) (dep : ℕ → ℕ) where
  -- no two of the slots have elements of one number
  abbrev pub IsApart : List ℕ → Type 0
  IsApart ss = (a b : ℕ) → has a ss ≡ true → has b ss ≡ true → (el a).number ≡ (el b).number → a ≡ b

  -- is an element of a slot among those of others
  pub is_in-slots : (s : ℕ) (ss : List ℕ) → ((t : ℕ) → has t ss ≡ true → (el t).number ≡ (el s).number → t ≡ s) → is_in (el s).number (map el ss) ≡ has s ss
  is_in-slots s [] apart = refl
  is_in-slots s (t ∷ ss) apart =
      let rest = is_in-slots s ss (λ u there. apart u (or_right _ _ there)) in
      elim (cases_Bool (eqb s t)) [
        | inl same ↦ rw (same) (or_left _ _ (eq-eqb (el t).number (el s).number (ap (λ (x : ℕ). (el x).number) (sym (eqb-true _ _ same)))))
        | inr other ↦
            (let differs : eqb (el t).number (el s).number ≡ false = ne_eqb _ _ (λ same. false≢true (sym other ∙ eq-eqb s t (sym (apart t (has-self t ss) same)))) in
            rw (other, differs) rest)
      ]

  -- the chain of each open slot is the elements of it and those that were open before
  pub AllStand : List Element → List ℕ → Type 0
  AllStand r [] = Unit {0}
  AllStand r (q ∷ stack) = (chain r (el q).number ≡ map el (q ∷ stack)) × AllStand r stack

  -- the open slots end the chain of the last element
  pub EndsLast : List Element → List ℕ → Type 0
  EndsLast [] stack = stack ≡ []
  EndsLast (last ∷ r) stack = Ends (map el stack) (chain (last ∷ r) last.number)

  pub record IsStanding (r : List Element) (stack : List ℕ) : Type 0 where
    pub all : AllStand r stack
    pub last : EndsLast r stack

  stand-later : (e : Element) (r : List Element) (stack : List ℕ) → is_in e.number r ≡ false → AllStand r stack → AllStand (e ∷ r) stack
  unfolding AllStand
  stand-later e r [] fresh all = tt
  stand-later e r (q ∷ stack) fresh all =
      let has_self : Has (el q).number (chain r (el q).number) = subst (λ (c : List Element). Has (el q).number c) (sym all.0) (or_left _ _ (eq-eqb (el q).number (el q).number refl)) in
      let there : is_in (el q).number r ≡ true = is_in-chain r (el q).number (el q).number has_self in
      let other : eqb e.number (el q).number ≡ false = ne_eqb _ _ (λ same. false≢true (sym fresh ∙ subst (λ (x : ℕ). is_in x r ≡ true) (sym same) there)) in
      (chain-past e r (el q).number other ∙ all.0, stand-later e r stack fresh all.1)

  above-stands : (r : List Element) (stack : List ℕ) → AllStand r stack → option_map_or (chain r) (number_above el stack) [] ≡ map el stack
  unfolding AllStand
  above-stands r [] all = refl
  above-stands r (q ∷ stack) all = all.0

  -- the element of a slot that is opened stands before those that are open
  pub chain-opened : (s : ℕ) (r : List Element) (stack : List ℕ) → IsStanding r stack → IsBelow el dep stack s → chain (el s ∷ r) (el s).number ≡ map el (s ∷ stack)
  chain-opened s r stack st below =
      chain-here (el s) r (el s).number (eq-eqb (el s).number (el s).number refl) ∙ ap (λ (c : List Element). el s ∷ c) (ap (λ (o : Option ℕ). option_map_or (chain r) o []) below.parent ∙ above-stands r stack st.all)

  stand-opened : (s : ℕ) (r : List Element) (stack : List ℕ) → IsStanding r stack → IsBelow el dep stack s → is_in (el s).number r ≡ false → IsStanding (el s ∷ r) (s ∷ stack)
  unfolding AllStand EndsLast
  stand-opened s r stack st below fresh =
      let own = chain-opened s r stack st below in
      record { all = (own, stand-later (el s) r stack fresh st.all); last = record { front = []; is = own } }

  stand-closed : (q : ℕ) (r : List Element) (stack : List ℕ) → IsStanding r (q ∷ stack) → IsStanding r stack
  unfolding AllStand EndsLast
  stand-closed q [] stack st = absurd (let e : q ∷ stack ≡ [] = st.last in cc)
  stand-closed q (last ∷ r) stack st =
      record { all = st.all.1; last = record { front = st.last.front ++ el q ∷ []; is = st.last.is ∙ sym (append_assoc st.last.front (el q ∷ []) (map el stack)) } }

  -- an element whose slot is opened may follow
  follows-opened : (s : ℕ) (r : List Element) (stack : List ℕ) → IsStanding r stack → IsBelow el dep stack s → (r ≡ []) ⊎ (is_some (el s).parent ≡ true) → Follows r (el s).parent
  unfolding AllStand EndsLast
  follows-opened s [] stack st below rooted = below.parent ∙ ap (number_above el) st.last
  follows-opened s (last ∷ r) [] st below (inl empty) = absurd (let e : last ∷ r ≡ [] = empty in cc)
  follows-opened s (last ∷ r) [] st below (inr is) = absurd (false≢true (sym (ap (λ (o : Option ℕ). is_some o) below.parent) ∙ is))
  follows-opened s (last ∷ r) (q ∷ stack) st below rooted =
      subst (λ (o : Option ℕ). Follows (last ∷ r) o) (sym below.parent) (has-end (el q).number (map el (q ∷ stack)) (chain (last ∷ r) last.number) st.last (or_left _ _ (eq-eqb (el q).number (el q).number refl)))

  -- the elements of slots may follow as far as their numbers go
  pub AreFresh : List Element → List ℕ → Type 0
  AreFresh r [] = Unit {0}
  AreFresh r (s ∷ ss) = (is_in (el s).number r ≡ false) × AreFresh (el s ∷ r) ss

  -- a root comes first
  pub IsRooted : List Element → List ℕ → Type 0
  IsRooted r [] = Unit {0}
  IsRooted r (s ∷ ss) = ((r ≡ []) ⊎ (is_some (el s).parent ≡ true)) × IsRooted (el s ∷ r) ss

  -- after r, the elements that the marks open are in tree order, and the open slots stand
  pub record IsWalked (r : List Element) (ms : List Mark) (end : List ℕ) : Type 0 where
    pub grown : IsGrown r (map el (opened ms))
    pub standing : IsStanding (reversed_onto (map el (opened ms)) r) end

  pub walked : (ms : List Mark) (stack end : List ℕ) (r : List Element) → Nests el dep ms stack end → IsStanding r stack → AreFresh r (opened ms) → IsRooted r (opened ms) → IsWalked r ms end
  unfolding AreFresh IsRooted
  walked [] stack end r n st fresh rooted = record { grown = tt; standing = subst (λ (x : List ℕ). IsStanding r x) n st }
  walked (Open s ∷ ms) stack end r n st fresh rooted =
      let rest = walked ms (s ∷ stack) end (el s ∷ r) n.1 (stand-opened s r stack st n.0 fresh.0) fresh.1 rooted.1 in
      record { grown = (record { differs = fresh.0; follows = follows-opened s r stack st n.0 rooted.0 }, rest.grown); standing = rest.standing }
  walked (Close s ∷ ms) [] end r n st fresh rooted = absurd n
  walked (Close s ∷ ms) (q ∷ stack) end r n st fresh rooted =
      let rest = walked ms stack end r n.1 (stand-closed q r stack st) fresh rooted in
      record { grown = rest.grown; standing = rest.standing }

  pub standing_start : IsStanding [] []
  unfolding AllStand EndsLast
  standing_start = record { all = tt; last = refl }

  -- numbers that differ are fresh, one after another
  fresh-apart : (seen ss : List ℕ) → AreDifferent (seen ++ ss) → IsApart (seen ++ ss) → AreFresh (reversed_onto (map el seen) []) ss
  unfolding AreFresh
  fresh-apart seen [] d apart = tt
  fresh-apart seen (s ∷ ss) d apart =
      let before : has s seen ≡ false =
      elim (cases_Bool (has s seen)) [ inl there ↦ absurd (false≢true (sym (different-apart seen (s ∷ ss) s d there) ∙ has-self s ss)) | inr none ↦ none ] in
      let own_there : has s (seen ++ s ∷ ss) ≡ true = has-append s seen (s ∷ ss) ∙ or_right _ _ (has-self s ss) in
      let own : is_in (el s).number (map el seen) ≡ false =
      is_in-slots s seen (λ t there. apart t s (has-append t seen (s ∷ ss) ∙ or_left _ _ there) own_there) ∙ before in
      let regroup : (seen ++ s ∷ []) ++ ss ≡ seen ++ s ∷ ss = append_assoc seen (s ∷ []) ss in
      let rest = fresh-apart (seen ++ s ∷ []) ss (subst AreDifferent (sym regroup) d) (subst IsApart (sym regroup) apart) in
      let next : reversed_onto (map el (seen ++ s ∷ [])) [] ≡ el s ∷ reversed_onto (map el seen) [] =
      ap (λ (es : List Element). reversed_onto es []) (map-append el seen (s ∷ [])) ∙ onto-append (map el seen) (el s ∷ []) [] in
      (is_in-onto_none (el s).number (map el seen) [] own refl, subst (λ (r : List Element). AreFresh r ss) next rest)

  pub rooted-all : (r : List Element) (ss : List ℕ) → list_all (λ s. is_some (el s).parent) ss ≡ true → IsRooted r ss
  unfolding IsRooted
  rooted-all r [] all = tt
  rooted-all r (s ∷ ss) all =
      let parts = and_parts (is_some (el s).parent) _ all in
      (inr parts.0, rooted-all (el s ∷ r) ss parts.1)

  pub rooted-first : (ss : List ℕ) → list_all (λ s. is_some (el s).parent) (drop 1 ss) ≡ true → IsRooted [] ss
  unfolding IsRooted
  rooted-first [] all = tt
  rooted-first (s ∷ ss) all = (inl refl, rooted-all (el s ∷ []) ss all)

  -- a tour whose elements are those of a tree
  pub record IsProper (ms : List Mark) : Type 0 where
    pub nests : Nests el dep ms [] []
    pub different : AreDifferent (map code ms)
    pub rooted : list_all (λ s. is_some (el s).parent) (drop 1 (opened ms)) ≡ true
    pub apart : IsApart (opened ms)

  pub proper-walked : (ms : List Mark) → IsProper ms → IsWalked [] ms []
  proper-walked ms t =
      walked ms [] [] [] t.nests standing_start (fresh-apart [] (opened ms) (different-opened ms t.different) t.apart) (rooted-first (opened ms) t.rooted)

  -- the elements of a tour are in tree order
  pub proper-grown : (ms : List Mark) → IsProper ms → IsGrown [] (map el (opened ms))
  proper-grown ms t = (proper-walked ms t).grown

  fresh-front : (r : List Element) (xs ys : List ℕ) → AreFresh r (xs ++ ys) → AreFresh r xs
  unfolding AreFresh
  fresh-front r [] ys f = tt
  fresh-front r (x ∷ xs) ys f = (f.0, fresh-front (el x ∷ r) xs ys f.1)

  rooted-front : (r : List Element) (xs ys : List ℕ) → IsRooted r (xs ++ ys) → IsRooted r xs
  unfolding IsRooted
  rooted-front r [] ys f = tt
  rooted-front r (x ∷ xs) ys f = (f.0, rooted-front (el x ∷ r) xs ys f.1)

  -- the ancestors of an element are those of the slots that are open where its own opens
  pub ancestors-opened : (ms xs ys : List Mark) (s : ℕ) (stack : List ℕ) → IsProper ms → ms ≡ xs ++ Open s ∷ ys → Nests el dep xs [] stack → IsBelow el dep stack s → inclusive_ancestors (map el (opened ms)) (el s).number ≡ map el (s ∷ stack)
  ancestors-opened ms xs ys s stack t is front below =
      let split : opened ms ≡ opened xs ++ s ∷ opened ys = ap opened is ∙ opened-append xs (Open s ∷ ys) in
      let fresh = fresh-front [] (opened xs) (s ∷ opened ys) (subst (AreFresh []) split (fresh-apart [] (opened ms) (different-opened ms t.different) t.apart)) in
      let rooted = rooted-front [] (opened xs) (s ∷ opened ys) (subst (IsRooted []) split (rooted-first (opened ms) t.rooted)) in
      let before = walked xs [] stack [] front standing_start fresh rooted in
      let es : map el (opened ms) ≡ map el (opened xs) ++ el s ∷ map el (opened ys) = ap (map el) split ∙ map-append el (opened xs) (s ∷ opened ys) in
      let grown = grown-back [] (map el (opened xs)) (el s ∷ map el (opened ys)) (subst (IsGrown []) es (proper-grown ms t)) in
      ap (λ (xs : List Element). chain (reversed_onto xs []) (el s).number) es
      ∙ (ap (λ (r : List Element). chain r (el s).number) (onto-append (map el (opened xs)) (el s ∷ map el (opened ys)) [])
      ∙ (chain-stays (el s) (map el (opened ys)) (reversed_onto (map el (opened xs)) []) grown.1 ∙ chain-opened s (reversed_onto (map el (opened xs)) []) stack before.standing below))

  -- a property of each of the slots
  abbrev pub Each : (ℕ → Type 0) → List ℕ → Type 0
  Each P [] = Unit {0}
  Each P (s ∷ ss) = P s × Each P ss

  -- s is an inclusive ancestor of t, or isn't
  abbrev pub IsInside : List Mark → ℕ → Bool → ℕ → Type 0
  IsInside ms s yes_or_no t = is_inclusive_descendant (map el (opened ms)) (el s).number (el t).number ≡ yes_or_no

  pub inside-stack : (ms xs ys : List Mark) (s t : ℕ) (stack : List ℕ) → IsProper ms → has s (opened ms) ≡ true → ms ≡ xs ++ Open t ∷ ys → Nests el dep xs [] stack → IsBelow el dep stack t → IsInside ms s (has s (t ∷ stack)) t
  inside-stack ms xs ys s t stack p there is front below =
      let split : opened ms ≡ opened xs ++ t ∷ opened ys = ap opened is ∙ opened-append xs (Open t ∷ ys) in
      let among : (u : ℕ) → has u (t ∷ stack) ≡ true → has u (opened ms) ≡ true =
      λ u h. ap (has u) split ∙ (has-append u (opened xs) (t ∷ opened ys) ∙ elim (or_cases (eqb u t) (has u stack) h) [
        | inl own ↦ or_right (has u (opened xs)) _ (or_left _ _ own)
        | inr before ↦ or_left _ _ (open_was_opened el dep xs stack u front before)
      ]) in
      ap (is_in (el s).number) (ancestors-opened ms xs ys t stack p is front below) ∙ is_in-slots s (t ∷ stack) (λ u h. p.apart u s (among u h) there)

  -- what opens between the marks of s is inside
  pub each-inside : (ms pre zs rest : List Mark) (s : ℕ) (stack end : List ℕ) → IsProper ms → has s (opened ms) ≡ true → ms ≡ pre ++ (zs ++ rest) → Nests el dep pre [] stack → Nests el dep zs stack end
      → has s stack ≡ true → has (2 * s + 3) (map code zs) ≡ false → Each (IsInside ms s true) (opened zs)
  each-inside ms pre [] rest s stack end p there is front n inside closed = tt
  each-inside ms pre (Open t ∷ zs) rest s stack end p there is front n inside closed =
      let next : ms ≡ (pre ++ Open t ∷ []) ++ (zs ++ rest) = is ∙ sym (append_assoc pre (Open t ∷ []) (zs ++ rest)) in
      let front' = nests-join el dep pre (Open t ∷ []) [] stack (t ∷ stack) front (n.0, refl) in (
        subst (λ (b : Bool). IsInside ms s b t) (or_right (eqb s t) _ inside) (inside-stack ms pre (zs ++ rest) s t stack p there is front n.0),
        each-inside ms (pre ++ Open t ∷ []) zs rest s (t ∷ stack) end p there next front' n.1 (or_right _ _ inside) (or_parts _ _ closed).1,
      )
  each-inside ms pre (Close t ∷ zs) rest s [] end p there is front n inside closed = absurd n
  each-inside ms pre (Close t ∷ zs) rest s (q ∷ stack) end p there is front n inside closed =
      let next : ms ≡ (pre ++ Close t ∷ []) ++ (zs ++ rest) = is ∙ sym (append_assoc pre (Close t ∷ []) (zs ++ rest)) in
      let front' = nests-join el dep pre (Close t ∷ []) [] (q ∷ stack) stack front (n.0, refl) in
      let parts = or_parts _ _ closed in
      let still : has s stack ≡ true = elim (or_cases (eqb s q) (has s stack) inside) [
        | inl own ↦ absurd (false≢true (sym parts.0 ∙ eq-eqb (2 * s + 3) (2 * t + 3) (omega (arith, eqb-true _ _ own, n.0))))
        | inr later ↦ later
      ] in
      each-inside ms (pre ++ Close t ∷ []) zs rest s stack end p there next front' n.1 still parts.1

  -- what opens elsewhere is outside
  pub each-outside : (ms pre zs rest : List Mark) (s : ℕ) (stack end : List ℕ) → IsProper ms → has s (opened ms) ≡ true → ms ≡ pre ++ (zs ++ rest) → Nests el dep pre [] stack → Nests el dep zs stack end
      → has s stack ≡ false → has s (opened zs) ≡ false → Each (IsInside ms s false) (opened zs)
  each-outside ms pre [] rest s stack end p there is front n outside unopened = tt
  each-outside ms pre (Open t ∷ zs) rest s stack end p there is front n outside unopened =
      let next : ms ≡ (pre ++ Open t ∷ []) ++ (zs ++ rest) = is ∙ sym (append_assoc pre (Open t ∷ []) (zs ++ rest)) in
      let front' = nests-join el dep pre (Open t ∷ []) [] stack (t ∷ stack) front (n.0, refl) in
      let parts = or_parts (eqb s t) _ unopened in (
        subst (λ (b : Bool). IsInside ms s b t) (or_from (eqb s t) _ parts.0 outside) (inside-stack ms pre (zs ++ rest) s t stack p there is front n.0),
        each-outside ms (pre ++ Open t ∷ []) zs rest s (t ∷ stack) end p there next front' n.1 (or_from _ _ parts.0 outside) parts.1,
      )
  each-outside ms pre (Close t ∷ zs) rest s [] end p there is front n outside unopened = absurd n
  each-outside ms pre (Close t ∷ zs) rest s (q ∷ stack) end p there is front n outside unopened =
      let next : ms ≡ (pre ++ Close t ∷ []) ++ (zs ++ rest) = is ∙ sym (append_assoc pre (Close t ∷ []) (zs ++ rest)) in
      let front' = nests-join el dep pre (Close t ∷ []) [] (q ∷ stack) stack front (n.0, refl) in
      each-outside ms (pre ++ Close t ∷ []) zs rest s stack end p there next front' n.1 (or_parts _ _ outside).1 unopened

  -- a filter that all of them pass, and one that none passes
  pub filter-each : (p : Element → Bool) (ss : List ℕ) → Each (λ t. p (el t) ≡ true) ss → filter p (map el ss) ≡ map el ss
  filter-each p [] each = refl
  filter-each p (s ∷ ss) each = rw each.0 (ap (λ (es : List Element). el s ∷ es) (filter-each p ss each.1))

  pub filter-none : (p : Element → Bool) (ss : List ℕ) → Each (λ t. p (el t) ≡ false) ss → filter p (map el ss) ≡ []
  filter-none p [] each = refl
  filter-none p (s ∷ ss) each = rw each.0 (filter-none p ss each.1)

  pub each-then : (P Q : ℕ → Type 0) (ss : List ℕ) → ((t : ℕ) → P t → Q t) → Each P ss → Each Q ss
  each-then P Q [] f each = tt
  each-then P Q (s ∷ ss) f each = (f s each.0, each-then P Q ss f each.1)

  pub each-from : (P : ℕ → Type 0) (ss : List ℕ) → ((t : ℕ) → has t ss ≡ true → P t) → Each P ss
  each-from P [] f = tt
  each-from P (s ∷ ss) f = (f s (has-self s ss), each-from P ss (λ t there. f t (or_right _ _ there)))
