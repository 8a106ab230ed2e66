-- Elements in tree order: how a list of them splits, and where subtrees lie in it.
use Rattle.std.proofs.Common.{◌≡◌, ℕ, true, false, eqb, Option, Some, None, List, [], ◌∷◌, ◌++◌, refl, sym, ap, ◌∙◌, subst, inl, inr}
use Rattle.std.specs.Option.{option_map_or}
use Rattle.std.specs.List.{list_any}
use Rattle.std.proofs.lemmas.Bool.{cases_Bool, eq-eqb, ne_eqb, or_cases, or_parts, or_from, or_left, or_right, false_from_ne_true, false≢true}
use Rattle.doc_tree.specs.Element.{Element, is_in, chain, reversed_onto}
use Rattle.doc_tree.specs.Shape.{Follows, MayComeNext, IsGrown}
use Rattle.doc_tree.proofs.Chains.{Has, Differ, chain-here, chain-past_all, chain-ends, has-end}

pub onto-append : (xs ys r : List Element) → reversed_onto (xs ++ ys) r ≡ reversed_onto ys (reversed_onto xs r)
onto-append [] ys r = refl
onto-append (x ∷ xs) ys r = onto-append xs ys (x ∷ r)

pub is_in-onto_none : (n : ℕ) (es r : List Element) → is_in n es ≡ false → is_in n r ≡ false → is_in n (reversed_onto es r) ≡ false
is_in-onto_none n [] r h k = k
is_in-onto_none n (e ∷ es) r h k =
    let parts = or_parts (eqb e.number n) (is_in n es) h in
    is_in-onto_none n es (e ∷ r) parts.1 (or_from _ _ parts.0 k)

pub is_in-onto_kept : (n : ℕ) (es r : List Element) → is_in n r ≡ true → is_in n (reversed_onto es r) ≡ true
is_in-onto_kept n [] r k = k
is_in-onto_kept n (e ∷ es) r k = is_in-onto_kept n es (e ∷ r) (or_right _ _ k)

pub is_in-onto_front : (n : ℕ) (es r : List Element) → is_in n (reversed_onto es r) ≡ true → is_in n r ≡ false → is_in n es ≡ true
is_in-onto_front n es r h k =
    elim (cases_Bool (is_in n es)) [ inl there ↦ there | inr none ↦ absurd (false≢true (sym (is_in-onto_none n es r none k) ∙ h)) ]

pub is_in-onto_there : (n : ℕ) (es r : List Element) → is_in n es ≡ true → is_in n (reversed_onto es r) ≡ true
is_in-onto_there n [] r h = absurd (false≢true h)
is_in-onto_there n (e ∷ es) r h =
    elim (or_cases (eqb e.number n) (is_in n es) h) [ inl own ↦ is_in-onto_kept n es (e ∷ r) (or_left _ _ own) | inr later ↦ is_in-onto_there n es (e ∷ r) later ]

pub grown-front : (r xs ys : List Element) → IsGrown r (xs ++ ys) → IsGrown r xs
grown-front r [] ys g = tt
grown-front r (x ∷ xs) ys g = (g.0, grown-front (x ∷ r) xs ys g.1)

pub grown-back : (r xs ys : List Element) → IsGrown r (xs ++ ys) → IsGrown (reversed_onto xs r) ys
grown-back r [] ys g = g
grown-back r (x ∷ xs) ys g = grown-back (x ∷ r) xs ys g.1

pub grown-append : (r xs ys : List Element) → IsGrown r xs → IsGrown (reversed_onto xs r) ys → IsGrown r (xs ++ ys)
grown-append r [] ys f b = b
grown-append r (x ∷ xs) ys f b = (f.0, grown-append (x ∷ r) xs ys f.1 b)

-- an element that is there has another number than every later one
other_number : (e : Element) (r : List Element) (n : ℕ) → is_in e.number r ≡ false → is_in n r ≡ true → eqb e.number n ≡ false
other_number e r n fresh there =
    ne_eqb _ _ (λ same. false≢true (sym fresh ∙ subst (λ (x : ℕ). is_in x r ≡ true) (sym same) there))

pub later_differ : (n : ℕ) (es r : List Element) → IsGrown r es → is_in n r ≡ true → is_in n es ≡ false
later_differ n [] r g there = refl
later_differ n (e ∷ es) r g there =
    or_from _ _ (other_number e r n g.0.differs there) (later_differ n es (e ∷ r) g.1 (or_right _ _ there))

pub differ-onto : (es r : List Element) → IsGrown r es → Differ r → Differ (reversed_onto es r)
differ-onto [] r g d = d
differ-onto (e ∷ es) r g d = differ-onto es (e ∷ r) g.1 (g.0.differs, d)

-- an element is among those that end with it
pub there_itself : (e : Element) (r : List Element) → is_in e.number (e ∷ r) ≡ true
there_itself e r = or_left (eqb e.number e.number) (is_in e.number r) (eq-eqb e.number e.number refl)

-- an element's chain stays as later elements come
pub chain-stays : (e : Element) (es r : List Element) → IsGrown (e ∷ r) es → chain (reversed_onto es (e ∷ r)) e.number ≡ chain (e ∷ r) e.number
chain-stays e es r g =
    chain-past_all es (e ∷ r) e.number (later_differ e.number es (e ∷ r) g (there_itself e r))

-- the parent that an element after `last` names is in the chain of `last`
pub record HasParent (last : Element) (r : List Element) (parent : Option ℕ) : Type 0 where
  pub number : ℕ
  pub is : parent ≡ Some number
  pub above : Has number (chain (last ∷ r) last.number)

pub parent_there : (last : Element) (r : List Element) (parent : Option ℕ) → Follows (last ∷ r) parent → HasParent last r parent
parent_there last r None f = absurd f
parent_there last r (Some p) f = record { number = p; is = refl; above = f }

pub chain-child : (e : Element) (r : List Element) (q : ℕ) → e.parent ≡ Some q → chain (e ∷ r) e.number ≡ e ∷ chain r q
chain-child e r q is =
    chain-here e r e.number (eq-eqb e.number e.number refl) ∙ ap (λ (o : Option ℕ). e ∷ option_map_or (chain r) o []) is

-- the next element is outside a subtree where the last one is, or where it lies too high
outside_next : (p : ℕ) (last e : Element) (r : List Element) → MayComeNext (last ∷ r) e → is_in p (last ∷ r) ≡ true
    → ((q : ℕ) → Has q (chain (last ∷ r) last.number) → Has p (chain (last ∷ r) q) → e.parent ≡ Some q → ⊥)
    → is_in p (chain (e ∷ last ∷ r) e.number) ≡ false
outside_next p last e r next there barred =
    let above = parent_there last r e.parent next.follows in
    rw (chain-child e (last ∷ r) above.number above.is)
    (or_from _ _ (other_number e (last ∷ r) p next.differs there)
    (false_from_ne_true _ (λ h. barred above.number above.above h above.is)))

-- no element of es is in p's subtree, in the tree of the elements `all`, the last first
abbrev pub NoneWithin : ℕ → List Element → List Element → Type 0
NoneWithin p all es = list_any (λ e. is_in p (chain all e.number)) es ≡ false

-- once elements have left a subtree, none that follows is in it
pub outside_rest : (p : ℕ) (last : Element) (r es : List Element) → Differ (last ∷ r) → IsGrown (last ∷ r) es → is_in p (last ∷ r) ≡ true
    → is_in p (chain (last ∷ r) last.number) ≡ false → NoneWithin p (reversed_onto es (last ∷ r)) es
outside_rest p last r [] d g there out = refl
outside_rest p last r (e ∷ es) d g there out =
    let next = outside_next p last e r g.0 there (λ q hq hp is. false≢true (sym out ∙ has-end p _ _ (chain-ends (last ∷ r) q last.number d hq) hp)) in
    or_from _ _ (ap (is_in p) (chain-stays e es (last ∷ r) g.1) ∙ next)
    (outside_rest p e (last ∷ r) es (g.0.differs, d) g.1 (or_right _ _ there) next)
