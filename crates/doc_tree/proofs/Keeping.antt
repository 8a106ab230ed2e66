-- What edits keep of the elements that they don't name.
use Rattle.std.proofs.Common.{◌≡◌, ℕ, Bool, true, false, not, cond, eqb, Option, Some, None, List, [], ◌∷◌, ◌++◌, refl, sym, ap, ◌∙◌, subst, inl, inr, append_assoc}
use Rattle.std.specs.Prelude.{filter}
use Rattle.std.specs.Option.{option_map_or}
use Rattle.std.specs.List.{list_any, list_all}
use Rattle.std.proofs.lemmas.Bool.{cases_Bool, eqb-true, eq-eqb, ne_eqb, and_from, and_parts, or_cases, or_parts, or_from, or_left, or_right, false≢true}
use Rattle.std.proofs.lemmas.List.Folds.{list_any-append}
use Rattle.std.proofs.lemmas.List.Elements.{filter-append}
use Rattle.std.proofs.lemmas.List.{append-nil}
use Rattle.doc_tree.specs.Element.{Element, Document, is_in, is_used, chain, reversed_onto, inclusive_ancestors, is_inclusive_descendant, subtree_of}
use Rattle.doc_tree.specs.Shape.{IsTree, IsGrown}
use Rattle.doc_tree.specs.Change.{IsAdded, IsInserted, IsCut, without, new_element}
use Rattle.doc_tree.proofs.Chains.{chain-here, chain-past, chain-past_all, is_in-chain}
use Rattle.doc_tree.proofs.Growth.{onto-append, is_in-onto_front, grown-back, chain-stays}
use Rattle.doc_tree.proofs.Trees.{tree-differ, tree-parent, tree-ancestors, tree-together}

-- two lists of elements, the last first, have one chain of each number that isn't left out
record IsAgreed (out : ℕ → Bool) (old new : List Element) : Type 0 where
  chains : (m : ℕ) → out m ≡ false → chain new m ≡ chain old m

above-agreed : (out : ℕ → Bool) (old new : List Element) (o : Option ℕ) → IsAgreed out old new → ((q : ℕ) → o ≡ Some q → out q ≡ false) → option_map_or (chain new) o [] ≡ option_map_or (chain old) o []
above-agreed out old new None agreed outside = refl
above-agreed out old new (Some q) agreed outside = agreed.chains q (outside q refl)

agreed-next : (out : ℕ → Bool) (e : Element) (old new : List Element) → ((q : ℕ) → e.parent ≡ Some q → out q ≡ false) → IsAgreed out old new → IsAgreed out (e ∷ old) (e ∷ new)
agreed-next out e old new outside agreed =
    record {
      chains = λ m h. elim (cases_Bool (eqb e.number m)) [
        | inl same ↦ chain-here e new m same ∙ (ap (λ (c : List Element). e ∷ c) (above-agreed out old new e.parent agreed outside) ∙ sym (chain-here e old m same))
        | inr other ↦ chain-past e new m other ∙ (agreed.chains m h ∙ sym (chain-past e old m other))
      ];
    }

-- the parents of these elements aren't left out
AreOutside : (ℕ → Bool) → List Element → Type 0
AreOutside out [] = Unit {0}
AreOutside out (e ∷ es) = ((q : ℕ) → e.parent ≡ Some q → out q ≡ false) × AreOutside out es

agreed-all : (out : ℕ → Bool) (es old new : List Element) → AreOutside out es → IsAgreed out old new → IsAgreed out (reversed_onto es old) (reversed_onto es new)
unfolding AreOutside
agreed-all out [] old new outside agreed = agreed
agreed-all out (e ∷ es) old new outside agreed = agreed-all out es (e ∷ old) (e ∷ new) outside.1 (agreed-next out e old new outside.0 agreed)

-- the parents of all but the first are in the tree
parents-outside : (out : ℕ → Bool) (es before after : List Element) → IsGrown [] es → es ≡ before ++ after → ((q : ℕ) → is_in q es ≡ true → out q ≡ false) → AreOutside out after
unfolding AreOutside
parents-outside out es before [] g is f = tt
parents-outside out es before (e ∷ after) g is f = (
  λ q parent. f q (ap (is_in q) is ∙ (list_any-append (λ (x : Element). eqb x.number q) before (e ∷ after) ∙ or_left _ _ (tree-parent es before after e q g is parent))),
  parents-outside out es (before ++ e ∷ []) after g (is ∙ sym (append_assoc before (e ∷ []) after)) f,
)

put-agreed : (c : Element) (r : List Element) → IsAgreed (λ m. eqb c.number m) r (c ∷ r)
put-agreed c r = record { chains = λ m h. chain-past c r m h }

-- an element put anywhere leaves the ancestors of all others
pub ancestors-put : (before after : List Element) (c : Element) (m : ℕ) → IsGrown [] (before ++ after) → IsGrown [] (before ++ c ∷ after) → is_in m (before ++ after) ≡ true → inclusive_ancestors (before ++ c ∷ after) m ≡ inclusive_ancestors (before ++ after) m
ancestors-put before after c m old new there =
    let absent = tree-differ (before ++ c ∷ after) before after c new refl in
    let other : (q : ℕ) → is_in q (before ++ after) ≡ true → eqb c.number q ≡ false = λ q h. ne_eqb _ _ (λ same. false≢true (sym absent ∙ subst (λ (x : ℕ). is_in x (before ++ after) ≡ true) (sym same) h)) in
    let r = reversed_onto before [] in
    let agreed = agreed-all (λ (m : ℕ). eqb c.number m) after r (c ∷ r) (parents-outside (λ (m : ℕ). eqb c.number m) (before ++ after) before after old refl other) (put-agreed c r) in
    ap (λ (es : List Element). chain es m) (onto-append before (c ∷ after) []) ∙ (agreed.chains m (other m there) ∙ sym (ap (λ (es : List Element). chain es m) (onto-append before after [])))

pub ancestors-added : (old new : Document) (child : Element) (m : ℕ) → IsTree old → IsTree new → IsAdded old new child → is_in m old.elements ≡ true → inclusive_ancestors new.elements m ≡ inclusive_ancestors old.elements m
ancestors-added old new child m told tnew added there =
    ap (λ (es : List Element). inclusive_ancestors es m) added.is
    ∙ (ancestors-put added.before added.after child m (subst (IsGrown []) added.was told.order) (subst (IsGrown []) added.is tnew.order) (sym (ap (is_in m) added.was) ∙ there) ∙ sym (ap (λ (es : List Element). inclusive_ancestors es m) added.was))

pub ancestors-inserted : (old new : Document) (n sibling : ℕ) (tag : List ℕ) (m : ℕ) → IsTree old → IsTree new → IsInserted old new n sibling tag → is_in m old.elements ≡ true → inclusive_ancestors new.elements m ≡ inclusive_ancestors old.elements m
ancestors-inserted old new n sibling tag m told tnew put there =
    ap (λ (es : List Element). inclusive_ancestors es m) put.is
    ∙ (ancestors-put put.before (put.next ∷ put.after) (new_element n put.next.parent tag) m (subst (IsGrown []) put.was told.order) (subst (IsGrown []) put.is tnew.order) (sym (ap (is_in m) put.was) ∙ there) ∙ sym (ap (λ (es : List Element). inclusive_ancestors es m) put.was))

-- the elements around a subtree, which is one stretch
record IsStretch (es : List Element) (n : ℕ) : Type 0 where
  before : List Element
  middle : List Element
  after : List Element
  is : es ≡ before ++ (middle ++ after)
  none_before : list_any (λ e. is_inclusive_descendant es n e.number) before ≡ false
  all_within : list_all (λ e. is_inclusive_descendant es n e.number) middle ≡ true
  none_after : list_any (λ e. is_inclusive_descendant es n e.number) after ≡ false

-- the first elements that are within, after n
record IsRun (es : List Element) (n : ℕ) (rest : List Element) : Type 0 where
  inside : List Element
  after : List Element
  is : rest ≡ inside ++ after
  all_within : list_all (λ e. is_inclusive_descendant es n e.number) inside ≡ true
  none_after : list_any (λ e. is_inclusive_descendant es n e.number) after ≡ false

run_of : (es before rest : List Element) (n : ℕ) → IsGrown [] es → es ≡ before ++ rest → is_in n before ≡ true → IsRun es n rest
run_of es before [] n g is there = record { inside = []; after = []; is = refl; all_within = refl; none_after = refl }
run_of es before (e ∷ rest) n g is there =
    elim (cases_Bool (is_inclusive_descendant es n e.number)) [
      | inl within ↦
          (let more = run_of es (before ++ e ∷ []) rest n g (is ∙ sym (append_assoc before (e ∷ []) rest)) (list_any-append (λ (x : Element). eqb x.number n) before (e ∷ []) ∙ or_left _ _ there) in
          record { inside = e ∷ more.inside; after = more.after; is = ap (λ (xs : List Element). e ∷ xs) more.is; all_within = and_from _ _ within more.all_within; none_after = more.none_after })
      | inr out ↦ record { inside = []; after = e ∷ rest; is = refl; all_within = refl; none_after = or_from _ _ out (tree-together es before rest e n g is there out) }
    ]

-- before n itself none is within
none-front : (es before front rest : List Element) (n : ℕ) → IsGrown [] es → es ≡ before ++ (front ++ rest) → is_in n before ≡ false → is_in n front ≡ false → list_any (λ e. is_inclusive_descendant es n e.number) front ≡ false
none-front es before [] rest n g is absent none = refl
none-front es before (e ∷ front) rest n g is absent none =
    let parts = or_parts (eqb e.number n) (is_in n front) none in
    let r = reversed_onto before [] in
    let back = grown-back [] before (e ∷ (front ++ rest)) (subst (IsGrown []) is g) in
    let stays : inclusive_ancestors es e.number ≡ chain (e ∷ r) e.number =
    ap (λ (xs : List Element). chain (reversed_onto xs []) e.number) is ∙ (ap (λ (xs : List Element). chain xs e.number) (onto-append before (e ∷ (front ++ rest)) []) ∙ chain-stays e (front ++ rest) r back.1) in
    let out : is_inclusive_descendant es n e.number ≡ false =
    elim (cases_Bool (is_inclusive_descendant es n e.number)) [
      | inl h ↦
          (let among : is_in n (e ∷ r) ≡ true = is_in-chain (e ∷ r) n e.number (sym (ap (is_in n) stays) ∙ h) in
          elim (or_cases (eqb e.number n) (is_in n r) among) [
            | inl own ↦ absurd (false≢true (sym parts.0 ∙ own))
            | inr earlier ↦ absurd (false≢true (sym absent ∙ is_in-onto_front n before [] earlier refl))
          ])
      | inr no_more ↦ no_more
    ] in
    or_from _ _ out (none-front es (before ++ e ∷ []) front rest n g (is ∙ sym (append_assoc before (e ∷ []) (front ++ rest))) (list_any-append (λ (x : Element). eqb x.number n) before (e ∷ []) ∙ or_from _ _ absent (or_from _ _ parts.0 refl)) parts.1)

-- where a number first stands
record IsFirst (n : ℕ) (es : List Element) : Type 0 where
  before : List Element
  own : Element
  rest : List Element
  is : es ≡ before ++ own ∷ rest
  number : own.number ≡ n
  absent : is_in n before ≡ false

first_of : (n : ℕ) (es : List Element) → is_in n es ≡ true → IsFirst n es
first_of n [] h = absurd (false≢true h)
first_of n (e ∷ es) h =
    elim (cases_Bool (eqb e.number n)) [
      | inl same ↦ record { before = []; own = e; rest = es; is = refl; number = eqb-true _ _ same; absent = refl }
      | inr other ↦
          (let later = first_of n es (elim (or_cases (eqb e.number n) _ h) [ inl same ↦ absurd (false≢true (sym other ∙ same)) | inr is ↦ is ]) in
          record { before = e ∷ later.before; own = later.own; rest = later.rest; is = ap (λ (xs : List Element). e ∷ xs) later.is; number = later.number; absent = or_from _ _ other later.absent })
    ]

stretch_of : (d : Document) (n : ℕ) → IsTree d → is_in n d.elements ≡ true → IsStretch d.elements n
stretch_of d n tree there =
    let es = d.elements in
    let f = first_of n es there in
    let own_there : is_in n (f.before ++ f.own ∷ []) ≡ true =
    list_any-append (λ (x : Element). eqb x.number n) f.before (f.own ∷ []) ∙ or_right _ _ (or_left _ _ (eq-eqb _ _ f.number)) in
    let run = run_of es (f.before ++ f.own ∷ []) f.rest n tree.order (f.is ∙ sym (append_assoc f.before (f.own ∷ []) f.rest)) own_there in
    let itself : is_inclusive_descendant es n f.own.number ≡ true = ap (is_in n) (tree-ancestors es f.before f.rest f.own tree.order f.is) ∙ or_left _ _ (eq-eqb _ _ f.number) in
    record {
      before = f.before;
      middle = f.own ∷ run.inside;
      after = run.after;
      is = f.is ∙ ap (λ (xs : List Element). f.before ++ f.own ∷ xs) run.is;
      none_before = none-front es [] f.before (f.own ∷ f.rest) n tree.order f.is refl f.absent;
      all_within = and_from _ _ itself run.all_within;
      none_after = run.none_after;
    }

filter-all : (p : Element → Bool) (es : List Element) → list_all p es ≡ true → filter p es ≡ es
filter-all p [] all = refl
filter-all p (e ∷ es) all =
    let parts = and_parts (p e) _ all in
    rw parts.0 (ap (λ (xs : List Element). e ∷ xs) (filter-all p es parts.1))

filter-no : (p : Element → Bool) (es : List Element) → list_any p es ≡ false → filter p es ≡ []
filter-no p [] none = refl
filter-no p (e ∷ es) none =
    let parts = or_parts (p e) _ none in
    rw parts.0 (filter-no p es parts.1)

filter-not : (p : Element → Bool) (es : List Element) → list_any p es ≡ false → filter (λ e. not (p e)) es ≡ es
filter-not p [] none = refl
filter-not p (e ∷ es) none =
    let parts = or_parts (p e) _ none in
    rw parts.0 (ap (λ (xs : List Element). e ∷ xs) (filter-not p es parts.1))

filter-not-none : (p : Element → Bool) (es : List Element) → list_all p es ≡ true → filter (λ e. not (p e)) es ≡ []
filter-not-none p [] all = refl
filter-not-none p (e ∷ es) all =
    let parts = and_parts (p e) _ all in
    rw parts.0 (filter-not-none p es parts.1)

module _ (d : Document) (n : ℕ) (tree : IsTree d) (there : is_in n d.elements ≡ true) where
  abbrev st : IsStretch d.elements n
  st = stretch_of d n tree there

  abbrev within : Element → Bool
  within e = is_inclusive_descendant d.elements n e.number

  middle-is : subtree_of d.elements n ≡ st.middle
  middle-is =
      ap (filter within) st.is ∙ (filter-append within st.before (st.middle ++ st.after) ∙ (ap (λ (xs : List Element). xs ++ filter within (st.middle ++ st.after)) (filter-no within st.before st.none_before)
      ∙ (filter-append within st.middle st.after ∙ (ap (λ (xs : List Element). xs ++ filter within st.after) (filter-all within st.middle st.all_within) ∙ (ap (λ (xs : List Element). st.middle ++ xs) (filter-no within st.after st.none_after) ∙ append-nil st.middle)))))

  left-is : (without d n).elements ≡ st.before ++ st.after
  left-is =
      let p = (λ (e : Element). not (within e)) in
      ap (filter p) st.is ∙ (filter-append p st.before (st.middle ++ st.after) ∙ (ap (λ (xs : List Element). xs ++ filter p (st.middle ++ st.after)) (filter-not within st.before st.none_before)
      ∙ ap (λ (xs : List Element). st.before ++ xs) (filter-append p st.middle st.after ∙ (ap (λ (xs : List Element). xs ++ filter p st.after) (filter-not-none within st.middle st.all_within) ∙ filter-not within st.after st.none_after))))

  -- what is removed is one unbroken stretch
  pub cut-stretch : IsCut d (without d n) (subtree_of d.elements n)
  cut-stretch = record {
    before = st.before;
    after = st.after;
    was = st.is ∙ (sym (append_assoc st.before st.middle st.after) ∙ ap (λ (xs : List Element). st.before ++ xs ++ st.after) (sym middle-is));
    is = left-is;
  }

-- a number of an element that a test of numbers leaves in
left_in : (f : ℕ → Bool) (es : List Element) (m : ℕ) → is_in m (filter (λ e. not (f e.number)) es) ≡ true → f m ≡ false
left_in f [] m h = absurd (false≢true h)
left_in f (e ∷ es) m h =
    elim (cases_Bool (f e.number)) [
      | inl out ↦ left_in f es m (sym (ap (λ (b : Bool). is_in m (cond (not b) (e ∷ filter (λ e. not (f e.number)) es) (filter (λ e. not (f e.number)) es))) out) ∙ h)
      | inr kept ↦
          (elim (or_cases (eqb e.number m) (is_in m (filter (λ e. not (f e.number)) es)) (sym (ap (λ (b : Bool). is_in m (cond (not b) (e ∷ filter (λ e. not (f e.number)) es) (filter (λ e. not (f e.number)) es))) kept) ∙ h)) [
            | inl own ↦ subst (λ (x : ℕ). f x ≡ false) (eqb-true _ _ own) kept
            | inr later ↦ left_in f es m later
          ])
    ]

among_all : (f : ℕ → Bool) (es : List Element) (m : ℕ) → list_all (λ e. f e.number) es ≡ true → is_in m es ≡ true → f m ≡ true
among_all f [] m all h = absurd (false≢true h)
among_all f (e ∷ es) m all h =
    let parts = and_parts (f e.number) _ all in
    elim (or_cases (eqb e.number m) (is_in m es) h) [ inl own ↦ subst (λ (x : ℕ). f x ≡ true) (eqb-true _ _ own) parts.0 | inr later ↦ among_all f es m parts.1 later ]

-- the parent of an element that isn't within isn't either
after-outside : (es before after : List Element) (n : ℕ) → IsGrown [] es → es ≡ before ++ after → list_any (λ e. is_inclusive_descendant es n e.number) after ≡ false → AreOutside (is_inclusive_descendant es n) after
unfolding AreOutside
after-outside es before [] n g is none = tt
after-outside es before (e ∷ after) n g is none =
    let parts = or_parts (is_inclusive_descendant es n e.number) _ none in (
      λ q parent.
          let up : inclusive_ancestors es e.number ≡ e ∷ inclusive_ancestors es q = tree-ancestors es before after e g is ∙ ap (λ (o : Option ℕ). e ∷ option_map_or (inclusive_ancestors es) o []) parent in
          (or_parts _ _ (sym (ap (is_in n) up) ∙ parts.0)).1,
      after-outside es (before ++ e ∷ []) after n g (is ∙ sym (append_assoc before (e ∷ []) after)) parts.1,
    )

-- a removal leaves the ancestors of all that are left
pub ancestors-cut : (d : Document) (n m : ℕ) → IsTree d → is_in n d.elements ≡ true → is_in m (without d n).elements ≡ true → inclusive_ancestors (without d n).elements m ≡ inclusive_ancestors d.elements m
ancestors-cut d n m tree there h =
    let s = stretch_of d n tree there in
    let out = is_inclusive_descendant d.elements n in
    let r = reversed_onto s.before [] in
    let kept : out m ≡ false = left_in out d.elements m h in
    let absent : (q : ℕ) → out q ≡ false → is_in q s.middle ≡ false =
    λ q o. elim (cases_Bool (is_in q s.middle)) [ inl among ↦ absurd (false≢true (sym o ∙ among_all out s.middle q s.all_within among)) | inr none ↦ none ] in
    let start : IsAgreed out (reversed_onto s.middle r) r = record { chains = λ q o. sym (chain-past_all s.middle r q (absent q o)) } in
    let regroup : d.elements ≡ (s.before ++ s.middle) ++ s.after = s.is ∙ sym (append_assoc s.before s.middle s.after) in
    let agreed = agreed-all out s.after (reversed_onto s.middle r) r (after-outside d.elements (s.before ++ s.middle) s.after n tree.order regroup s.none_after) start in
    let old : inclusive_ancestors d.elements m ≡ chain (reversed_onto s.after (reversed_onto s.middle r)) m =
    ap (λ (es : List Element). chain (reversed_onto es []) m) s.is ∙ ap (λ (es : List Element). chain es m) (onto-append s.before (s.middle ++ s.after) [] ∙ onto-append s.middle s.after r) in
    let new : inclusive_ancestors (without d n).elements m ≡ chain (reversed_onto s.after r) m =
    ap (λ (es : List Element). chain (reversed_onto es []) m) (left-is d n tree there) ∙ ap (λ (es : List Element). chain es m) (onto-append s.before s.after []) in
    new ∙ (agreed.chains m kept ∙ sym old)

-- the number of a removed element stays used
pub used-cut : (d : Document) (n m : ℕ) → IsTree d → is_in m d.elements ≡ true → is_used m (without d n) ≡ true
used-cut d n m tree there = among_all (λ (q : ℕ). list_any (eqb q) d.used) d.elements m tree.numbers there
