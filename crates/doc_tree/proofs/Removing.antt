-- A slot is taken out of a tour, with those between its marks.
use Rattle.std.proofs.Common.{◌≡◌, ◌≢◌, ℕ, ◌+◌, ◌*◌, ◌<◌, ◌≤◌, ◌||◌, Bool, true, false, not, eqb, Option, None, List, [], ◌∷◌, ◌++◌, map, length, drop, get_or, set, zero, suc, refl, sym, ap, ◌∙◌, subst, inl, inr, arith, is_some, length-append, append_assoc}
use Rattle.std.specs.Prelude.{nat_lt, filter}
use Rattle.std.specs.Option.{option_map_or}
use Rattle.std.specs.List.{list_all}
use Rattle.std.proofs.lemmas.Bool.{cases_Bool, eqb-true, eq-eqb, lt-ltb, and_from, and_parts, or_cases, or_parts, or_from, or_left, or_right, false≢true}
use Rattle.std.proofs.lemmas.List.{length-map, length-set, map-append, get_or-set_other}
use Rattle.std.proofs.lemmas.List.Folds.{list_all-append}
use Rattle.doc_tree.specs.Element.{Element, is_inclusive_descendant, subtree_of, numbers_of}
use Rattle.doc_tree.specs.Shape.{is_bounded}
use Rattle.doc_tree.specs.Change.{without}
use Rattle.doc_tree.specs.declared.node.Node.{Node}
use Rattle.doc_tree.specs.declared.limits.TheConstants.{MAX_DEPTH}
use Rattle.doc_tree.specs.Marks.{Kept, Mark, Open, Close, code, opened, has, slots_of, slots_below, cleared, document_of, element_at, depth_at, is_live, no_element, without_slot, AreDifferent, IsAt, AreMarksOfTree, IsSized, IsFit, Nests, Leads}
use Rattle.doc_tree.proofs.Numbers.{has-append, has-self, below-at, below-set, different-back, different-apart, different-cut}
use Rattle.doc_tree.proofs.Links.{cut, leads-split, until-leads}
use Rattle.doc_tree.proofs.Tours.{opened-append, slots_of-codes, no_code, different-opened, nests-join, nests-same, count-nests, elements-same, rooted-same, open_was_opened, IsSameAt, IsSpan}
use Rattle.doc_tree.proofs.Spans.{slots-span, subtree-span, others-span, closed-once}
use Rattle.doc_tree.proofs.Sound.{opened-live, live-opened, elements-sound, proper, span-of}
use Rattle.doc_tree.proofs.Putting.{has-drop}

set_none : (slots : List (Option Node)) (s : ℕ) → get_or (set slots s None) s None ≡ None
set_none [] s = refl
set_none (x ∷ slots) zero = refl
set_none (x ∷ slots) (suc s) = set_none slots s

set_other : (slots : List (Option Node)) (s t : ℕ) → t ≢ s → get_or (set slots s None) t None ≡ get_or slots t None
set_other slots s t other = get_or-set_other slots s t None None other

-- which slots are empty then
pub cleared-kept : (ss : List ℕ) (slots : List (Option Node)) (t : ℕ) → has t ss ≡ false → get_or (cleared slots ss) t None ≡ get_or slots t None
cleared-kept [] slots t h = refl
cleared-kept (s ∷ ss) slots t h =
    let parts = or_parts (eqb t s) (has t ss) h in
    cleared-kept ss (set slots s None) t parts.1 ∙ set_other slots s t (λ same. false≢true (sym parts.0 ∙ eq-eqb t s same))

pub cleared-none : (ss : List ℕ) (slots : List (Option Node)) (t : ℕ) → has t ss ≡ true → get_or (cleared slots ss) t None ≡ None
cleared-none [] slots t h = absurd (false≢true h)
cleared-none (s ∷ ss) slots t h =
    elim (cases_Bool (has t ss)) [
      | inl later ↦ cleared-none ss (set slots s None) t later
      | inr none ↦
          (let own : t ≡ s = eqb-true _ _ (elim (or_cases (eqb t s) (has t ss) h) [ inl is ↦ is | inr later ↦ absurd (false≢true (sym none ∙ later)) ]) in
          cleared-kept ss (set slots s None) t none ∙ subst (λ (u : ℕ). get_or (set slots s None) u None ≡ None) (sym own) (set_none slots s))
    ]

pub length-cleared : (ss : List ℕ) (slots : List (Option Node)) → length (cleared slots ss) ≡ length slots
length-cleared [] slots = refl
length-cleared (s ∷ ss) slots = length-cleared ss (set slots s None) ∙ length-set slots s None

rooted-cut : (p : ℕ → Bool) (xs zs ys : List ℕ) → list_all p (drop 1 (xs ++ (zs ++ ys))) ≡ true → (xs ≡ [] → ys ≡ []) → list_all p (drop 1 (xs ++ ys)) ≡ true
rooted-cut p [] zs ys all none = rw (none refl) refl
rooted-cut p (x ∷ xs) zs ys all none =
    let parts = and_parts (list_all p xs) (list_all p (zs ++ ys)) (sym (list_all-append p xs (zs ++ ys)) ∙ all) in
    let later = and_parts (list_all p zs) (list_all p ys) (sym (list_all-append p zs ys) ∙ parts.1) in
    list_all-append p xs ys ∙ and_from _ _ parts.0 later.1

module _ (el : ℕ → Element) (dep : ℕ → ℕ) where
  no_opened : (ms : List Mark) (end : List ℕ) → Nests el dep ms [] end → opened ms ≡ [] → end ≡ []
  no_opened [] end n none = sym n
  no_opened (Open s ∷ ms) end n none = absurd (let h : s ∷ opened ms ≡ [] = none in cc)
  no_opened (Close s ∷ ms) end n none = absurd n

  no_second_root : (ms : List Mark) → Nests el dep ms [] [] → list_all (λ s. is_some (el s).parent) (opened ms) ≡ true → opened ms ≡ []
  no_second_root [] n all = refl
  no_second_root (Open s ∷ ms) n all =
      absurd (false≢true (sym (ap (λ (o : Option ℕ). is_some o) n.0.parent) ∙ (and_parts (is_some (el s).parent) _ all).0))
  no_second_root (Close s ∷ ms) n all = absurd n

module _ (k : Kept) (sound : AreMarksOfTree k) (s : ℕ) (live : is_live k.slots s ≡ true) where
  abbrev el : ℕ → Element
  el = element_at k.slots

  abbrev dep : ℕ → ℕ
  dep = depth_at k.slots

  abbrev sp : IsSpan el dep sound.marks s
  sp = span-of k sound s live

  abbrev gone : List ℕ
  gone = s ∷ opened sp.inner

  codes-span : map code sound.marks ≡ map code sp.before ++ (2 * s + 2) ∷ (map code sp.inner ++ (2 * s + 3) ∷ map code sp.after)
  codes-span =
      ap (map code) sp.is ∙ (map-append code (sp.before ++ Open s ∷ sp.inner) (Close s ∷ sp.after) ∙ (ap (λ (zs : List ℕ). zs ++ (2 * s + 3) ∷ map code sp.after) (map-append code sp.before (Open s ∷ sp.inner))
      ∙ append_assoc (map code sp.before) ((2 * s + 2) ∷ map code sp.inner) ((2 * s + 3) ∷ map code sp.after)))

  linked : Leads k.next k.previous 0 (map code sp.before ++ (2 * s + 2) ∷ (map code sp.inner ++ (2 * s + 3) ∷ map code sp.after)) 1
  linked = subst (λ (zs : List ℕ). Leads k.next k.previous 0 zs 1) codes-span sound.tour.linked

  count-inner : length sp.inner ≡ length (opened sp.inner) + length (opened sp.inner)
  count-inner = omega (arith, count-nests el dep sp.inner (s ∷ sp.under) (s ∷ sp.under) sp.within)

  count-all : length sp.before + (length sp.inner + (length sp.after + 2)) ≡ 2 * k.len
  count-all = omega (arith, ap length sp.is, length-append (sp.before ++ Open s ∷ sp.inner) (Close s ∷ sp.after), length-append sp.before (Open s ∷ sp.inner), sound.tour.many)

  -- the slots of the subtree are had by following the links
  pub below-sound : slots_below k s ≡ gone
  below-sound =
      let front = leads-split k.next k.previous 0 (map code sp.before) (2 * s + 2) (map code sp.inner ++ (2 * s + 3) ∷ map code sp.after) 1 linked in
      let middle = leads-split k.next k.previous (2 * s + 2) (map code sp.inner) (2 * s + 3) (map code sp.after) 1 front.1 in
      let once = closed-once el dep sound.marks s (proper k sound) (live-opened k sound s live) sp in
      ap (λ (ss : List ℕ). s ∷ ss) (ap slots_of (until-leads k.next k.previous (2 * s + 2) (map code sp.inner) (2 * s + 3) (2 * k.len) middle.0 once (omega (arith, length-map sp.inner code, count-all))) ∙ slots_of-codes sp.inner)

  abbrev k' : Kept
  k' = without_slot k s

  abbrev el' : ℕ → Element
  el' = element_at k'.slots

  abbrev dep' : ℕ → ℕ
  dep' = depth_at k'.slots

  slots-are : k'.slots ≡ cleared k.slots gone
  slots-are = ap (cleared k.slots) below-sound

  kept-slot : (t : ℕ) → has t gone ≡ false → get_or k'.slots t None ≡ get_or k.slots t None
  kept-slot t h = ap (λ (xs : List (Option Node)). get_or xs t None) slots-are ∙ cleared-kept gone k.slots t h

  gone-slot : (t : ℕ) → has t gone ≡ true → get_or k'.slots t None ≡ None
  gone-slot t h = ap (λ (xs : List (Option Node)). get_or xs t None) slots-are ∙ cleared-none gone k.slots t h

  same-kept : (t : ℕ) → has t gone ≡ false → IsSameAt el el' dep dep' t
  same-kept t h =
      record { element = ap (λ (o : Option Node). option_map_or (λ x. x.element) o no_element) (kept-slot t h); depth = ap (λ (o : Option Node). option_map_or (λ x. x.depth) o 0) (kept-slot t h) }

  opened-span : opened sound.marks ≡ opened sp.before ++ (gone ++ opened sp.after)
  opened-span = slots-span el dep sound.marks s (proper k sound) (live-opened k sound s live) sp

  different-span : AreDifferent (opened sp.before ++ (gone ++ opened sp.after))
  different-span = subst AreDifferent opened-span (different-opened sound.marks sound.tour.different)

  not-before : (t : ℕ) → has t gone ≡ true → has t (opened sp.before) ≡ false
  not-before t h =
      elim (cases_Bool (has t (opened sp.before))) [
        | inl there ↦ absurd (false≢true (sym (different-apart (opened sp.before) (gone ++ opened sp.after) t different-span there) ∙ (has-append t gone (opened sp.after) ∙ or_left _ _ h)))
        | inr none ↦ none
      ]

  not-after : (t : ℕ) → has t gone ≡ true → has t (opened sp.after) ≡ false
  not-after t h = different-apart gone (opened sp.after) t (different-back (opened sp.before) (gone ++ opened sp.after) different-span) h

  same-before : (t : ℕ) → has t (opened sp.before) ≡ true → IsSameAt el el' dep dep' t
  same-before t there =
      same-kept t (elim (cases_Bool (has t gone)) [ inl h ↦ absurd (false≢true (sym (not-before t h) ∙ there)) | inr none ↦ none ])

  same-after : (t : ℕ) → has t (opened sp.after) ≡ true → IsSameAt el el' dep dep' t
  same-after t there =
      same-kept t (elim (cases_Bool (has t gone)) [ inl h ↦ absurd (false≢true (sym (not-after t h) ∙ there)) | inr none ↦ none ])

  nests-cut : Nests el' dep' (sp.before ++ sp.after) [] []
  nests-cut =
      nests-join el' dep' sp.before sp.after [] sp.under [] (nests-same el el' dep dep' sp.before [] sp.under (λ t h. absurd (false≢true h)) same-before sp.front)
      (nests-same el el' dep dep' sp.after sp.under [] (λ t h. same-before t (open_was_opened el dep sp.before sp.under t sp.front h)) same-after sp.back)

  opened-cut : opened (sp.before ++ sp.after) ≡ opened sp.before ++ opened sp.after
  opened-cut = opened-append sp.before sp.after

  different-codes : AreDifferent (map code sp.before ++ (2 * s + 2) ∷ (map code sp.inner ++ (2 * s + 3) ∷ map code sp.after))
  different-codes = subst AreDifferent codes-span sound.tour.different

  different-cut-codes : AreDifferent (map code (sp.before ++ sp.after))
  different-cut-codes =
      subst AreDifferent (sym (map-append code sp.before sp.after))
      (different-cut (map code sp.before) ((2 * s + 2) ∷ (map code sp.inner ++ (2 * s + 3) ∷ [])) (map code sp.after)
      (subst (λ (zs : List ℕ). AreDifferent (map code sp.before ++ (2 * s + 2) ∷ zs)) (sym (append_assoc (map code sp.inner) ((2 * s + 3) ∷ []) (map code sp.after))) different-codes))

  linked-cut : Leads k'.next k'.previous 0 (map code (sp.before ++ sp.after)) 1
  linked-cut =
      let no_end = sym (ap (has 1) codes-span) ∙ no_code 1 sound.marks (omega arith) in
      let no_start = sym (ap (has 0) codes-span) ∙ no_code 0 sound.marks (omega arith) in
      subst (λ (zs : List ℕ). Leads k'.next k'.previous 0 zs 1) (sym (map-append code sp.before sp.after))
      (cut k.next k.previous (map code sp.before) (map code sp.inner) (map code sp.after) (2 * s + 2) (2 * s + 3) linked (no_start, different-codes) no_end)

  live-cut : (t : ℕ) → has t (opened (sp.before ++ sp.after)) ≡ is_live k'.slots t
  live-cut t =
      let left : has t (opened (sp.before ++ sp.after)) ≡ (has t (opened sp.before) || has t (opened sp.after)) = ap (has t) opened-cut ∙ has-append t (opened sp.before) (opened sp.after) in
      elim (cases_Bool (has t gone)) [
        | inl h ↦ left ∙ (or_from _ _ (not-before t h) (not-after t h) ∙ sym (ap (λ (o : Option Node). is_some o) (gone-slot t h)))
        | inr none ↦
            (let old : has t (opened sound.marks) ≡ (has t (opened sp.before) || (has t gone || has t (opened sp.after))) =
            ap (has t) opened-span ∙ (has-append t (opened sp.before) (gone ++ opened sp.after) ∙ ap (λ (b : Bool). has t (opened sp.before) || b) (has-append t gone (opened sp.after))) in
            left ∙ (sym (old ∙ ap (λ (b : Bool). has t (opened sp.before) || (b || has t (opened sp.after))) none) ∙ (sound.tour.live t ∙ sym (ap (λ (o : Option Node). is_some o) (kept-slot t none)))))
      ]

  rooted-all : list_all (λ t. is_some (el t).parent) (drop 1 (opened sp.before ++ opened sp.after)) ≡ true
  rooted-all =
      let whole = subst (λ (ss : List ℕ). list_all (λ t. is_some (el t).parent) (drop 1 ss) ≡ true) opened-span sound.tour.rooted in
      rooted-cut (λ (t : ℕ). is_some (el t).parent) (opened sp.before) gone (opened sp.after) whole
      (λ none.
      let under : sp.under ≡ [] = no_opened el dep sp.before sp.under sp.front none in
      let rest = subst (λ (ss : List ℕ). list_all (λ t. is_some (el t).parent) (drop 1 (ss ++ (gone ++ opened sp.after))) ≡ true) none whole in
      let parts = and_parts (list_all (λ t. is_some (el t).parent) (opened sp.inner)) _ (sym (list_all-append (λ (t : ℕ). is_some (el t).parent) (opened sp.inner) (opened sp.after)) ∙ rest) in
      no_second_root el dep sp.after (subst (λ (st : List ℕ). Nests el dep sp.after st []) under sp.back) parts.1)

  rooted-new : list_all (λ t. is_some (el' t).parent) (drop 1 (opened (sp.before ++ sp.after))) ≡ true
  rooted-new =
      subst (λ (ss : List ℕ). list_all (λ t. is_some (el' t).parent) (drop 1 ss) ≡ true) (sym opened-cut)
      (rooted-same el el' dep dep' (drop 1 (opened sp.before ++ opened sp.after))
      (λ t h.
      elim (or_cases _ _ (sym (has-append t (opened sp.before) (opened sp.after)) ∙ has-drop t (opened sp.before ++ opened sp.after) h)) [ inl there ↦ same-before t there | inr there ↦ same-after t there ]) rooted-all)

  within-s : s < length k.keys
  within-s = (sound.fit s live).key.within

  sized-cut : IsSized k'
  sized-cut =
      let before = get_or k.previous (2 * s + 2) 0 in
      let after = get_or k.next (2 * s + 3) 0 in
      let low_before : before < length k.next = below-at k.previous (2 * s + 2) (length k.next) (omega (arith, within-s, sound.sized.previous)) sound.sized.back_links in
      let low_after : after < length k.next = below-at k.next (2 * s + 3) (length k.next) (omega (arith, within-s, sound.sized.next)) sound.sized.links in
      let same : length k'.next ≡ length k.next = length-set k.next before after in
      record {
        few = sound.sized.few;
        slots = length-cleared (slots_below k s) k.slots ∙ sound.sized.slots;
        next = same ∙ sound.sized.next;
        previous = length-set k.previous after before ∙ sound.sized.previous;
        ranks = sound.sized.ranks;
        order = sound.sized.order;
        links = subst (λ (n : ℕ). list_all (λ m. nat_lt m n) k'.next ≡ true) (sym same) (below-set k.next before after (length k.next) low_after sound.sized.links);
        back_links = subst (λ (n : ℕ). list_all (λ m. nat_lt m n) k'.previous ≡ true) (sym same) (below-set k.previous after before (length k.next) low_before sound.sized.back_links);
      }

  fit-cut : (t : ℕ) → is_live k'.slots t ≡ true → IsFit k' t
  fit-cut t is =
      let none : has t gone ≡ false = elim (cases_Bool (has t gone)) [ inl h ↦ absurd (false≢true (sym (ap (λ (o : Option Node). is_some o) (gone-slot t h)) ∙ is)) | inr none ↦ none ] in
      let same = same-kept t none in
      let fit = sound.fit t (sym (ap (λ (o : Option Node). is_some o) (kept-slot t none)) ∙ is) in
      record {
        key = subst (λ (e : Element). IsAt k.keys t e.number) (sym same.element) fit.key;
        depth = subst (λ (d : ℕ). d ≤ MAX_DEPTH) (sym same.depth) fit.depth;
        bounded = subst (λ (e : Element). is_bounded e ≡ true) (sym same.element) fit.bounded;
      }

  -- what is kept without them is sound
  pub cut-sound : AreMarksOfTree k'
  cut-sound = record {
    marks = sp.before ++ sp.after;
    tour = record {
      linked = linked-cut;
      many = omega (arith, length-append sp.before sp.after, count-all, count-inner, ap length below-sound);
      nests = nests-cut;
      different = different-cut-codes;
      rooted = rooted-new;
      live = live-cut;
      counted = λ fresh. absurd (false≢true fresh);
    };
    sized = sized-cut;
    fit = fit-cut;
    different = sound.different;
    limit = omega (arith, sound.limit);
  }

  -- and stands for the document without them
  pub document-cut : document_of k' ≡ without (document_of k) (el s).number
  unfolding cut-sound
  document-cut =
      let others = others-span el dep sound.marks s (proper k sound) (live-opened k sound s live) sp in
      let elements : (document_of k').elements ≡ map el (opened sp.before ++ opened sp.after) =
      elements-sound k' cut-sound ∙ (ap (map el') opened-cut ∙ elements-same el el' dep dep' (opened sp.before ++ opened sp.after)
      (λ t h. elim (or_cases _ _ (sym (has-append t (opened sp.before) (opened sp.after)) ∙ h)) [ inl there ↦ same-before t there | inr there ↦ same-after t there ])) in
      let filtered : filter (λ e. not (is_inclusive_descendant (document_of k).elements (el s).number e.number)) (document_of k).elements ≡ map el (opened sp.before ++ opened sp.after) =
      ap (λ (es : List Element). filter (λ e. not (is_inclusive_descendant es (el s).number e.number)) es) (elements-sound k sound) ∙ others in
      ap (λ (es : List Element). record { elements = es; used = k.keys }) (elements ∙ sym filtered)

  -- the numbers of what is gone
  pub numbers-gone : numbers_of (subtree_of (document_of k).elements (el s).number) ≡ map (λ t. get_or k.keys t 0) (slots_below k s)
  numbers-gone =
      let sub = subtree-span el dep sound.marks s (proper k sound) (live-opened k sound s live) sp in
      ap (λ (es : List Element). numbers_of (subtree_of es (el s).number)) (elements-sound k sound) ∙ (ap numbers_of sub ∙ (keys-of gone (λ t h. there t h) ∙ ap (map (λ (t : ℕ). get_or k.keys t 0)) (sym below-sound)))
    where
      there : (t : ℕ) → has t gone ≡ true → get_or k.keys t 0 ≡ (el t).number
      there t h = (sound.fit t (opened-live k sound t (ap (has t) opened-span ∙ (has-append t (opened sp.before) (gone ++ opened sp.after) ∙ or_right _ _ (has-append t gone (opened sp.after) ∙ or_left _ _ h))))).key.is

      keys-of : (ss : List ℕ) → ((t : ℕ) → has t ss ≡ true → get_or k.keys t 0 ≡ (el t).number) → numbers_of (map el ss) ≡ map (λ t. get_or k.keys t 0) ss
      keys-of [] f = refl
      keys-of (t ∷ ss) f =
          let own = f t (has-self t ss) in
          let rest = keys-of ss (λ u h. f u (or_right _ _ h)) in
          cc

  -- all of them have slots
  pub below-within : list_all (λ t. nat_lt t (length k.keys)) (slots_below k s) ≡ true
  below-within = ap (list_all (λ (t : ℕ). nat_lt t (length k.keys))) below-sound ∙ all gone (λ t h. h)
    where
      all : (ss : List ℕ) → ((t : ℕ) → has t ss ≡ true → has t gone ≡ true) → list_all (λ t. nat_lt t (length k.keys)) ss ≡ true
      all [] f = refl
      all (t ∷ ss) f =
          let alive = opened-live k sound t (ap (has t) opened-span ∙ (has-append t (opened sp.before) (gone ++ opened sp.after) ∙ or_right (has t (opened sp.before)) _ (has-append t gone (opened sp.after) ∙ or_left _ _ (f t (has-self t ss))))) in
          and_from _ _ (lt-ltb t (length k.keys) (sound.fit t alive).key.within) (all ss (λ u h. f u (or_right _ _ h)))

  pub below-many : length (slots_below k s) ≤ k.len
  below-many = omega (arith, ap length below-sound, count-all, count-inner)
