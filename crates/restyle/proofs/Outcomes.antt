-- The outcome of a pass over the whole document is its style change event.
use Rattle.std.proofs.Common.{◌≡◌, ℕ, refl, ap, sym, ◌∙◌, subst, eqb, inl, inr, Bool, true, false, not, ◌&&◌, ◌||◌, List, [], ◌∷◌, ◌++◌, map, Option, Some, None}
use Rattle.std.specs.Prelude.{is_some, option_map, unwrap_or, if◌then◌else◌}
use Rattle.std.specs.List.{find, list_all, list_any}
use Rattle.std.proofs.lemmas.Bool.{cases_Bool, eq-eqb, eqb-true, or_parts, or_left, and_from}
use Rattle.doc_tree.specs.Element.{Document, Element, is_in, numbers_of}
use Rattle.doc_tree.specs.Shape.{IsTree}
use Rattle.element_step.specs.Works.{DocumentEvent}
use Rattle.pass_core.specs.Passes.{IsPassOutcome, IsResult, are_distinct, have_entries, value_for}
use Rattle.pass_core.specs.Plans.{planned_place}
use Rattle.pass_core.specs.Work.{Meaning, entry_after}
use Rattle.pass_core.specs.declared.plan.Place.{Place}
use Rattle.pass_core.specs.declared.step.Step.{Step}
use Rattle.style_data.specs.Entries.{EntryParts, fresh_entry}
use Rattle.restyle.specs.StyleChanges.{entry_after_event, entry_for}
use Rattle.restyle.specs.TreePlans.{element_place, places_of}
use Rattle.restyle.proofs.AncestorChains.{found, there}
use Rattle.restyle.proofs.ProperPlans.{TreeLaws, absent, next_split, split_at}

-- ---- lists by element

value_here : {X : Type 0} (x : ℕ × X) (xs : List (ℕ × X)) (e : ℕ) (b : Bool) → eqb x.0 e ≡ b → value_for (x ∷ xs) e ≡ (if b then Some x.1 else value_for xs e)
value_here x xs e b is = rw is refl

-- whether there is a value, and whether elements differ, the elements alone tell
some_alike : {X Y : Type 0} (xs : List (ℕ × X)) (ys : List (ℕ × Y)) → map (λ x. x.0) xs ≡ map (λ y. y.0) ys → (e : ℕ) → is_some (value_for xs e) ≡ is_some (value_for ys e)
some_alike [] [] same e = refl
some_alike [] (y ∷ ys) same e = absurd (cc)
some_alike (x ∷ xs) [] same e = absurd (cc)
some_alike (x ∷ xs) (y ∷ ys) same e =
    let first : x.0 ≡ y.0 = cc in
    let rest : map (λ x. x.0) xs ≡ map (λ y. y.0) ys = cc in
    at (eqb x.0 e) refl first (some_alike xs ys rest e)
  where
    at : (b : Bool) → eqb x.0 e ≡ b → x.0 ≡ y.0 → is_some (value_for xs e) ≡ is_some (value_for ys e) → is_some (value_for (x ∷ xs) e) ≡ is_some (value_for (y ∷ ys) e)
    at true here first rest = ap is_some (value_here x xs e true here) ∙ sym (ap is_some (value_here y ys e true (ap (λ n. eqb n e) (sym first) ∙ here)))
    at false other first rest = ap is_some (value_here x xs e false other) ∙ rest ∙ sym (ap is_some (value_here y ys e false (ap (λ n. eqb n e) (sym first) ∙ other)))

distinct_alike : {X Y : Type 0} (xs : List (ℕ × X)) (ys : List (ℕ × Y)) → map (λ x. x.0) xs ≡ map (λ y. y.0) ys → are_distinct xs ≡ are_distinct ys
distinct_alike [] [] same = refl
distinct_alike [] (y ∷ ys) same = absurd (cc)
distinct_alike (x ∷ xs) [] same = absurd (cc)
distinct_alike (x ∷ xs) (y ∷ ys) same =
    let first : x.0 ≡ y.0 = cc in
    let rest : map (λ x. x.0) xs ≡ map (λ y. y.0) ys = cc in
    ap (λ b. not b && are_distinct xs) (some_alike xs ys rest x.0) ∙ ap (λ n. not (is_some (value_for ys n)) && are_distinct xs) first
    ∙ ap (λ b. not (is_some (value_for ys y.0)) && b) (distinct_alike xs ys rest)

none_from : {X : Type 0} (o : Option X) → is_some o ≡ false → o ≡ None
none_from None is = refl
none_from (Some x) is = absurd (cc)

no_some : {X : Type 0} (o : Option X) → not (is_some o) ≡ true → is_some o ≡ false
no_some None is = refl
no_some (Some x) is = absurd (cc)

both_parts : (a b : Bool) → (a && b) ≡ true → (a ≡ true) × (b ≡ true)
both_parts true b is = (refl, is)
both_parts false b is = absurd (cc)

-- lists of the same elements, each once, with the same values are the same
same_lists : {X : Type 0} (xs ys : List (ℕ × X)) → map (λ x. x.0) xs ≡ map (λ y. y.0) ys → are_distinct xs ≡ true
    → ((e : ℕ) → value_for xs e ≡ value_for ys e) → xs ≡ ys
same_lists [] [] same once alike = refl
same_lists [] (y ∷ ys) same once alike = absurd (cc)
same_lists (x ∷ xs) [] same once alike = absurd (cc)
same_lists {X} (x ∷ xs) (y ∷ ys) same once alike =
    let first : x.0 ≡ y.0 = cc in
    let rest : map (λ x. x.0) xs ≡ map (λ y. y.0) ys = cc in
    let parts = both_parts (not (is_some (value_for xs x.0))) (are_distinct xs) once in
    let here : Some x.1 ≡ Some y.1 =
    sym (value_here x xs x.0 true (eq-eqb x.0 x.0 refl)) ∙ alike x.0 ∙ value_here y ys x.0 true (eq-eqb y.0 x.0 (sym first)) in
    let value : x.1 ≡ y.1 = cc in
    let pair : (x.0, x.1) ≡ (y.0, y.1) = ap (λ n. (n, x.1)) first ∙ ap (λ v. (y.0, v)) value in
    ap (λ z. z ∷ xs) pair ∙ ap (λ zs. y ∷ zs) (same_lists xs ys rest parts.1 (λ e. later (eqb x.0 e) e refl first (no_some (value_for xs x.0) parts.0) (some_alike xs ys rest e) (alike e)))
  where
    later : (b : Bool) (e : ℕ) → eqb x.0 e ≡ b → x.0 ≡ y.0 → is_some (value_for xs x.0) ≡ false → is_some (value_for xs e) ≡ is_some (value_for ys e)
        → value_for (x ∷ xs) e ≡ value_for (y ∷ ys) e → value_for xs e ≡ value_for ys e
    later true e same first none some alike =
        let gone : is_some (value_for xs e) ≡ false = ap (λ n. is_some (value_for xs n)) (sym (eqb-true x.0 e same)) ∙ none in
        none_from (value_for xs e) gone ∙ sym (none_from (value_for ys e) (sym some ∙ gone))
    later false e other first none some alike =
        sym (value_here x xs e false other) ∙ alike ∙ value_here y ys e false (ap (λ n. eqb n e) (sym first) ∙ other)

-- the values that a function gives
pub value_for-map : {X : Type 0} (f : ℕ → X) (xs : List (ℕ × X)) (e : ℕ) → value_for (map (λ x. (x.0, f x.0)) xs) e ≡ option_map (λ _. f e) (value_for xs e)
value_for-map f [] e = refl
value_for-map f (x ∷ xs) e =
    elim (cases_Bool (eqb x.0 e)) [
      | inl same ↦ rw same (ap (λ n. Some (f n)) (eqb-true x.0 e same))
      | inr other ↦ rw other (value_for-map f xs e)
    ]

elements_kept : {X Y : Type 0} (f : ℕ → Y) (xs : List (ℕ × X)) → map (λ (y : ℕ × Y). y.0) (map (λ (x : ℕ × X). (x.0, f x.0)) xs) ≡ map (λ (x : ℕ × X). x.0) xs
elements_kept f [] = refl
elements_kept f (x ∷ xs) = ap (λ ns. x.0 ∷ ns) (elements_kept f xs)

-- an element has a value where its number is one of the list's
pub value_there : {X : Type 0} (xs : List (ℕ × X)) (es : List Element) → map (λ x. x.0) xs ≡ numbers_of es → (n : ℕ) → is_some (value_for xs n) ≡ is_in n es
value_there [] [] same n = refl
value_there [] (e ∷ es) same n = absurd (cc)
value_there (x ∷ xs) [] same n = absurd (cc)
value_there (x ∷ xs) (e ∷ es) same n =
    let first : x.0 ≡ e.number = cc in
    let rest : map (λ x. x.0) xs ≡ numbers_of es = cc in
    at (eqb x.0 n) refl first (value_there xs es rest n)
  where
    at : (b : Bool) → eqb x.0 n ≡ b → x.0 ≡ e.number → is_some (value_for xs n) ≡ is_in n es → is_some (value_for (x ∷ xs) n) ≡ is_in n (e ∷ es)
    at true here first rest = ap is_some (value_here x xs n true here) ∙ sym (or_left _ _ (ap (λ m. eqb m n) (sym first) ∙ here))
    at false other first rest =
        ap is_some (value_here x xs n false other) ∙ rest ∙ sym (ap (λ b. b || is_in n es) (ap (λ m. eqb m n) (sym first) ∙ other))

find_none : {X : Type 0} (p : X → Bool) (xs : List X) → list_any p xs ≡ false → find p xs ≡ None
find_none p [] none = refl
find_none p (x ∷ xs) none =
    let parts = or_parts (p x) (list_any p xs) none in
    rw parts.0 (find_none p xs parts.1)

find-map : {X Y : Type 0} (p : Y → Bool) (f : X → Y) (xs : List X) → find p (map f xs) ≡ option_map f (find (λ x. p (f x)) xs)
find-map p f [] = refl
find-map p f (x ∷ xs) =
    elim (cases_Bool (p (f x))) [
      | inl passes ↦ rw passes refl
      | inr other ↦ rw other (find-map p f xs)
    ]

-- ---- the outcome of a pass

map_value : (f : EntryParts → EntryParts) (y : EntryParts) (o : Option EntryParts) → f (unwrap_or o fresh_entry) ≡ y → option_map f o ≡ option_map (λ _. y) o
map_value f y None is = refl
map_value f y (Some x) is = ap Some is

module _ (w : DocumentEvent) (tree : IsTree w.document) (laws : TreeLaws) (entries : List (ℕ × EntryParts)) where
  abbrev d : Document
  d = w.document

  planned : (before after : List Element) (e : Element) → d.elements ≡ before ++ e ∷ after → planned_place (places_of d) e.number ≡ Some (element_place d e)
  planned before after e is =
      find-map (λ (p : Place). eqb p.element e.number) (element_place d) d.elements ∙ ap (option_map (element_place d)) (found d tree laws before after e is)

  -- each element's result leaves its entry after the event
  abbrev pub AreAfterEvent : {D : Type 0} → Meaning EntryParts D → Type 0
  AreAfterEvent {D} m = (before after : List Element) (e : Element) (s : Step EntryParts D) → d.elements ≡ before ++ e ∷ after
      → IsResult m (places_of d) entries (element_place d e) s → entry_after s (entry_for entries e.number) ≡ entry_after_event w entries e.number

  -- so the entries after the pass are those after the event
  pub whole_event : {D : Type 0} (m : Meaning EntryParts D) (closing : List (ℕ × EntryParts)) → AreAfterEvent m → map (λ x. x.0) entries ≡ numbers_of d.elements
      → are_distinct entries ≡ true → IsPassOutcome m (places_of d) entries closing → closing ≡ map (λ x. (x.0, entry_after_event w entries x.0)) entries
  whole_event {D} m closing each numbers once outcome =
      same_lists closing (map (λ x. (x.0, entry_after_event w entries x.0)) entries) (outcome.elements ∙ sym (elements_kept (entry_after_event w entries) entries))
      (distinct_alike closing entries outcome.elements ∙ once) alike
    where
      alike : (n : ℕ) → value_for closing n ≡ value_for (map (λ x. (x.0, entry_after_event w entries x.0)) entries) n
      alike n =
          elim (cases_Bool (is_in n d.elements)) [
            | inl within ↦
                (let s = split_at n d.elements within in
                let plan : planned_place (places_of d) n ≡ Some (element_place d s.item) = ap (planned_place (places_of d)) (sym s.number) ∙ planned s.before s.after s.item s.is in
                let own = outcome.planned n (element_place d s.item) plan in
                let step : entry_after own.0 (entry_for entries n) ≡ entry_after_event w entries n =
                subst (λ m. entry_after own.0 (entry_for entries m) ≡ entry_after_event w entries m) s.number (each s.before s.after s.item own.0 s.is own.1) in
                own.2 ∙ map_value (entry_after own.0) (entry_after_event w entries n) (value_for entries n) step ∙ sym (value_for-map (entry_after_event w entries) entries n))
            | inr without ↦
                (let gone : value_for entries n ≡ None = none_from (value_for entries n) (value_there entries d.elements numbers n ∙ without) in
                let plan : planned_place (places_of d) n ≡ None =
                find-map (λ (p : Place). eqb p.element n) (element_place d) d.elements ∙ ap (option_map (element_place d)) (find_none (λ (x : Element). eqb x.number n) d.elements without) in
                outcome.others n plan ∙ gone
                ∙ sym (value_for-map (entry_after_event w entries) entries n ∙ ap (option_map (λ _. entry_after_event w entries n)) gone))
          ]

  -- ---- what the pass wants

  distinct_from : (before rest : List Element) (xs : List (ℕ × EntryParts)) → d.elements ≡ before ++ rest → map (λ x. x.0) xs ≡ numbers_of rest → are_distinct xs ≡ true
  distinct_from before [] [] is same = refl
  distinct_from before [] (x ∷ xs) is same = absurd (cc)
  distinct_from before (e ∷ rest) [] is same = absurd (cc)
  distinct_from before (e ∷ rest) (x ∷ xs) is same =
      let first : x.0 ≡ e.number = cc in
      let others : map (λ x. x.0) xs ≡ numbers_of rest = cc in
      let none : is_some (value_for xs x.0) ≡ false = value_there xs rest others x.0 ∙ ap (λ n. is_in n rest) first ∙ (absent d tree laws before rest e is).1 in
      ap (λ b. not b && are_distinct xs) none ∙ distinct_from (before ++ e ∷ []) rest xs (next_split d tree laws before rest e is) others

  pub entries_distinct : map (λ x. x.0) entries ≡ numbers_of d.elements → are_distinct entries ≡ true
  entries_distinct numbers = distinct_from [] d.elements entries refl numbers

  have_from : (numbers : map (λ x. x.0) entries ≡ numbers_of d.elements) (before rest : List Element) → d.elements ≡ before ++ rest
      → list_all (λ (p : Place). is_some (value_for entries p.element)) (map (element_place d) rest) ≡ true
  have_from numbers before [] is = refl
  have_from numbers before (e ∷ rest) is =
      and_from _ _ (value_there entries d.elements numbers e.number ∙ there d tree laws before rest e is) (have_from numbers (before ++ e ∷ []) rest (next_split d tree laws before rest e is))

  pub entries_had : map (λ x. x.0) entries ≡ numbers_of d.elements → have_entries (places_of d) entries ≡ true
  entries_had numbers = have_from numbers [] d.elements refl
