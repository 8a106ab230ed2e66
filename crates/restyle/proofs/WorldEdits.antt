-- What edits leave of the state of a world.
use Rattle.std.proofs.Common.{◌≡◌, ℕ, refl, ap, sym, ◌∙◌, subst, inl, inr, arith, eqb, get_or, Bool, true, false, not, ◌||◌, Option, Some, None, List, [], ◌∷◌, ◌++◌, append-nil, append_assoc, filter, map}
use Rattle.std.specs.Prelude.{All, Ok, is_none, if◌then◌else◌, nat_eq, option_map}
use Rattle.std.specs.List.{flat_map, list_all, list_any}
use Rattle.std.proofs.lemmas.Bool.{and_parts, cases_Bool, cases_lt, or_left, or_right}
use Rattle.std.proofs.lemmas.List.{map-append}
use Rattle.std.proofs.lemmas.List.Folds.{list_all-append, list_any-append}
use Rattle.std.proofs.lemmas.List.Elements.{All-append}
use Rattle.doc_tree.specs.Change.{IsAdded, IsInserted, new_element, with_change, without}
use Rattle.doc_tree.specs.Element.{Document, Element, inclusive_ancestors, is_in, is_inclusive_descendant, is_used, numbers_of, parent_of, subtree_of}
use Rattle.doc_tree.specs.Fault.{Answers, fault_of_add, fault_of_change, fault_of_insert, fault_of_new, has_parent}
use Rattle.doc_tree.specs.Shape.{IsTree}
use Rattle.doc_tree.specs.declared.fault.TreeFault.{TreeFault}
use Rattle.doc_tree.specs.declared.fault.TreeFault.TheVariants as tree
use Rattle.indexmap.specs.IndexSet.{insert_key}
use Rattle.script_text.specs.declared.command.Command.{Command}
use Rattle.script_text.specs.declared.command.Command.TheVariants.{Add, Insert, Remove}
use Rattle.fix_num.specs.declared.units.Micros.{Micros}
use Rattle.sheet_types.specs.Sheets.{SheetRules}
use Rattle.style_data.specs.Entries.{EntryParts}
use Rattle.style_data.specs.Transitions.{IsMoment}
use Rattle.style_data.specs.declared.gone.Gone.{Gone}
use Rattle.restyle.specs.Distinct.{IsDistinct, IsWorld}
use Rattle.restyle.specs.Edits.{edited, refusal_of, refusal_of_tree, without_element}
use Rattle.restyle.specs.Quiet.{IsLeftByFrame}
use Rattle.restyle.specs.States.{IsKeptState, IsTouched, departed_in, world_of}
use Rattle.restyle.specs.Worlds.{WorldParts, all_departed_of, entries_of, with_document, world_parts}
use Rattle.restyle.specs.declared.state.Removed.{Removed}
use Rattle.restyle.specs.declared.state.WorldState.{WorldState}
use Rattle.restyle.proofs.NewElements.{added_is, inserted_is}
use Rattle.restyle.proofs.Numbers.{all_known, among_themselves, by_numbers, departed_again, entries_again, entries_at, is_among, is_known, order_of_entries, unused_absent}
use Rattle.restyle.proofs.Untouched.{WereUntouched, left_alike, left_with_document, untouched_added, untouched_changed, untouched_inserted, untouched_without}

-- what holds of every edit
abbrev pub EditLaw : Type 0
EditLaw = (w : WorldParts) (c : Command) → IsWorld w → refusal_of w c ≡ None → IsDistinct (edited w c)

-- an add, an insert and a removal keep the inclusive ancestors of the other elements
abbrev pub AddLaw : Type 0
AddLaw = (old new : Document) (child : Element) (m : ℕ) → IsTree old → IsTree new → IsAdded old new child → is_in m old.elements ≡ true
    → inclusive_ancestors new.elements m ≡ inclusive_ancestors old.elements m

abbrev pub InsertLaw : Type 0
InsertLaw = (old new : Document) (n sibling : ℕ) (tag : List ℕ) (m : ℕ) → IsTree old → IsTree new → IsInserted old new n sibling tag → is_in m old.elements ≡ true
    → inclusive_ancestors new.elements m ≡ inclusive_ancestors old.elements m

abbrev pub RemoveLaw : Type 0
RemoveLaw = (d : Document) (n m : ℕ) → IsTree d → is_in n d.elements ≡ true → is_in m (without d n).elements ≡ true
    → inclusive_ancestors (without d n).elements m ≡ inclusive_ancestors d.elements m

-- ---- answers

pub no_fault : (fault : Option TreeFault) (x : Unit {0}) → Answers fault (Ok x) → fault ≡ None
no_fault None x answers = refl
no_fault (Some e) x answers = cc

-- ---- another tree

pub with_tree : (s : WorldState) (d : Document) → list_all (is_known (numbers_of s.tree.elements) s.entries) (numbers_of d.elements) ≡ true
    → world_of (record s { tree = d }) ≡ with_document (world_of s) d
with_tree s d known =
    let old = by_numbers s.tree.elements s.entries in
    let again : entries_of d (entries_of s.tree s.entries) ≡ entries_of d s.entries =
    by_numbers d.elements (entries_of s.tree s.entries) ∙ ap (entries_at (numbers_of d.elements)) old
    ∙ entries_again (numbers_of d.elements) (numbers_of s.tree.elements) s.entries known ∙ sym (by_numbers d.elements s.entries) in
    ap (λ es. world_parts d s.last_sheets s.sheets es (departed_in s.entries s.removed.items) s.time s.frames) (sym again)

-- a touched element shows in no world
world_touched : (before after : WorldState) (n : ℕ) → IsTouched before n after → world_of after ≡ world_of before
world_touched before after n is = ap world_of is.rest

-- each element that is untouched now was so before the edit
abbrev pub LeavesOthers : Document → Document → ℕ → Type 0
LeavesOthers old new n = (touched : List ℕ) → WereUntouched touched (insert_key nat_eq touched n) old new

kept_with_tree : (law : EditLaw) (s s' : WorldState) (d : Document) (n : ℕ) (c : Command) → IsKeptState s → IsTree d → list_all (λ e. is_used e.0 d) s.entries ≡ true
    → refusal_of (world_of s) c ≡ None → world_of (record s { tree = d }) ≡ with_document (world_of s) d → world_of (record s { tree = d }) ≡ edited (world_of s) c
    → LeavesOthers s.tree d n → IsTouched (record s { tree = d }) n s' → IsKeptState s'
kept_with_tree law s s' d n c kept tree used accepted document is others touched =
    let state : WorldState = record s { tree = d; quiet = s'.quiet; touched = s'.touched } in
    let all : IsKeptState state = record {
      world = record {
        tree = tree;
        order = order_of_entries d s.entries;
        distinct = subst IsDistinct (sym is) (law (world_of s) c kept.world accepted);
      };
      time = kept.time;
      removed = kept.removed;
      used = used;
      quiet = λ quiet.
          subst (IsLeftByFrame s'.touched.keys) (sym document)
          (subst (λ (ks : List ℕ). IsLeftByFrame ks (with_document (world_of s) d)) (sym (touched.touched quiet))
          (left_with_document s.touched.keys (insert_key nat_eq s.touched.keys n) (world_of s) d (others s.touched.keys) (kept.quiet (touched.quiet quiet))));
    } in
    subst IsKeptState (sym touched.rest) all

-- ---- one element more

add_unused : (d : Document) (n : ℕ) (known : Bool) (parent : Option ℕ) → fault_of_new d n known parent ≡ None → is_used n d ≡ false
add_unused d n known parent none =
    elim (cases_Bool (is_used n d)) [
      | inl used ↦ absurd (taken known (rw used at none))
      | inr unused ↦ unused
    ]
  where
    taken : (b : Bool) → (if b then Some tree.NodeTaken else Some tree.UnknownNode) ≡ None → ⊥
    taken true h = cc
    taken false h = cc

used_one_more : (d d' : Document) (n : ℕ) (entries : List (ℕ × EntryParts)) → d'.used ≡ d.used ++ n ∷ [] → list_all (λ e. is_used e.0 d) entries ≡ true
    → list_all (λ e. is_used e.0 d') entries ≡ true
used_one_more d d' n [] more used = refl
used_one_more d d' n (x ∷ entries) more used =
    let parts = and_parts (is_used x.0 d) (list_all (λ e. is_used e.0 d) entries) used in
    let still : is_used x.0 d' ≡ true = ap (list_any (nat_eq x.0)) more ∙ list_any-append (nat_eq x.0) d.used (n ∷ []) ∙ or_left (is_used x.0 d) (list_any (nat_eq x.0) (n ∷ [])) parts.0 in
    rw (still, used_one_more d d' n entries more parts.1) refl

known_one_more : (s : WorldState) (before after : List Element) (e : Element) → s.tree.elements ≡ before ++ after → is_known (numbers_of s.tree.elements) s.entries e.number ≡ true
    → list_all (is_known (numbers_of s.tree.elements) s.entries) (numbers_of (before ++ e ∷ after)) ≡ true
known_one_more s before after e was known =
    let test = is_known (numbers_of s.tree.elements) s.entries in
    let all : list_all test (numbers_of before ++ numbers_of after) ≡ true =
    ap (list_all test) (sym (ap numbers_of was ∙ map-append (λ (x : Element). x.number) before after)) ∙ all_known (numbers_of s.tree.elements) (numbers_of s.tree.elements) s.entries (among_themselves (numbers_of s.tree.elements)) in
    let parts = and_parts (list_all test (numbers_of before)) (list_all test (numbers_of after)) (sym (list_all-append test (numbers_of before) (numbers_of after)) ∙ all) in
    ap (list_all test) (map-append (λ (x : Element). x.number) before (e ∷ after)) ∙ list_all-append test (numbers_of before) (e.number ∷ numbers_of after)
    ∙ rw (parts.0, known, parts.1) refl

none_known : (ns : List ℕ) (entries : List (ℕ × EntryParts)) (n : ℕ) (o : Option EntryParts) → o ≡ None → (is_among n ns || is_none o) ≡ true
none_known ns entries n o none = ap (λ (p : Option EntryParts). is_among n ns || is_none p) none ∙ or_right (is_among n ns) true refl

-- an element is put between others
pub one_more_known : (s : WorldState) (d : Document) (before after : List Element) (e : Element) → IsKeptState s → s.tree.elements ≡ before ++ after → d.elements ≡ before ++ e ∷ after
    → is_used e.number s.tree ≡ false → list_all (is_known (numbers_of s.tree.elements) s.entries) (numbers_of d.elements) ≡ true
one_more_known s d before after e kept was is unused =
    ap (λ es. list_all (is_known (numbers_of s.tree.elements) s.entries) (numbers_of es)) is
    ∙ known_one_more s before after e was
    (none_known (numbers_of s.tree.elements) s.entries e.number _ (unused_absent e.number s.tree s.entries kept.used unused))

pub still_used : (s : WorldState) (d : Document) (n : ℕ) → IsKeptState s → d.used ≡ s.tree.used ++ n ∷ [] → list_all (λ e. is_used e.0 d) s.entries ≡ true
still_used s d n kept more = used_one_more s.tree d n s.entries more kept.used

pub unused_where_new : (d : Document) (n : ℕ) (known : Bool) (parent : Option ℕ) → fault_of_new d n known parent ≡ None → is_used n d ≡ false
unused_where_new d n known parent none = add_unused d n known parent none

-- ---- the same numbers

pub same_numbers_known : (s : WorldState) (d : Document) → numbers_of d.elements ≡ numbers_of s.tree.elements
    → list_all (is_known (numbers_of s.tree.elements) s.entries) (numbers_of d.elements) ≡ true
same_numbers_known s d same =
    ap (list_all (is_known (numbers_of s.tree.elements) s.entries)) same
    ∙ all_known (numbers_of s.tree.elements) (numbers_of s.tree.elements) s.entries (among_themselves (numbers_of s.tree.elements))

pub changed_numbers : (es : List Element) (n : ℕ) (change : Element → Element) → ((e : Element) → (change e).number ≡ e.number)
    → numbers_of (map (λ e. if eqb e.number n then change e else e) es) ≡ numbers_of es
changed_numbers [] n change keeps = refl
changed_numbers (e ∷ es) n change keeps =
    ap (λ m. m ∷ numbers_of (map (λ x. if eqb x.number n then change x else x) es)) (one (eqb e.number n)) ∙ ap (λ ms. e.number ∷ ms) (changed_numbers es n change keeps)
  where
    one : (b : Bool) → (if b then change e else e).number ≡ e.number
    one true = keeps e
    one false = refl

-- ---- fewer elements

all_of_fewer : (q : ℕ → Bool) (p : Element → Bool) (es : List Element) → list_all q (numbers_of es) ≡ true → list_all q (numbers_of (filter p es)) ≡ true
all_of_fewer q p [] all = refl
all_of_fewer q p (e ∷ es) all =
    let parts = and_parts (q e.number) (list_all q (numbers_of es)) all in
    elim (cases_Bool (p e)) [
      | inl stays ↦ rw (stays, parts.0, all_of_fewer q p es parts.1) refl
      | inr goes ↦ rw goes (all_of_fewer q p es parts.1)
    ]

pub fewer_known : (s : WorldState) (p : Element → Bool) → list_all (is_known (numbers_of s.tree.elements) s.entries) (numbers_of (filter p s.tree.elements)) ≡ true
fewer_known s p =
    all_of_fewer (is_known (numbers_of s.tree.elements) s.entries) p s.tree.elements
    (all_known (numbers_of s.tree.elements) (numbers_of s.tree.elements) s.entries (among_themselves (numbers_of s.tree.elements)))

flat_map_last : {X Y : Type 0} (f : X → List Y) (xs : List X) (x : X) → flat_map f (xs ++ x ∷ []) ≡ flat_map f xs ++ f x
flat_map_last f [] x = append-nil (f x)
flat_map_last f (y ∷ xs) x = ap (λ ys. f y ++ ys) (flat_map_last f xs x) ∙ sym (append_assoc (f y) (flat_map f xs) (f x))

-- what the elements below n had waits for the next tick
pub departed_with : (s : WorldState) (n : ℕ) (r : Removed) → r.time ≡ s.time → r.numbers.items ≡ numbers_of (subtree_of s.tree.elements n)
    → departed_in s.entries (s.removed.items ++ r ∷ [])
    ≡ (world_of s).departed ++ all_departed_of (world_of s).entries s.time (numbers_of (subtree_of s.tree.elements n))
departed_with s n r time numbers =
    flat_map_last (λ (x : Removed). all_departed_of s.entries x.time x.numbers.items) s.removed.items r
    ∙ ap (λ xs. departed_in s.entries s.removed.items ++ xs)
    (ap (λ t. all_departed_of s.entries t r.numbers.items) time ∙ ap (all_departed_of s.entries s.time) numbers
    ∙ sym (departed_again s.time (numbers_of (subtree_of s.tree.elements n)) (numbers_of s.tree.elements) s.entries (fewer_known s (λ e. is_inclusive_descendant s.tree.elements n e.number)))
    ∙ ap (λ es. all_departed_of es s.time (numbers_of (subtree_of s.tree.elements n))) (sym (by_numbers s.tree.elements s.entries)))

-- ---- accepted edits

-- an edit is answered, and the state is kept
abbrev pub IsEdited : WorldState → WorldState → Command → Type 0
IsEdited before after c = ((refusal_of (world_of before) c ≡ None) × (world_of after ≡ edited (world_of before) c)) × IsKeptState after

edit_of_tree : (law : EditLaw) (s s' : WorldState) (d : Document) (n : ℕ) (c : Command) → IsKeptState s → IsTree d → refusal_of (world_of s) c ≡ None
    → list_all (is_known (numbers_of s.tree.elements) s.entries) (numbers_of d.elements) ≡ true → list_all (λ e. is_used e.0 d) s.entries ≡ true
    → with_document (world_of s) d ≡ edited (world_of s) c → LeavesOthers s.tree d n → IsTouched (record s { tree = d }) n s' → IsEdited s s' c
edit_of_tree law s s' d n c kept tree accepted known used is others touched =
    let document : world_of (record s { tree = d }) ≡ with_document (world_of s) d = with_tree s d known in
    let whole : world_of (record s { tree = d }) ≡ edited (world_of s) c = document ∙ is in (
      (accepted, world_touched (record s { tree = d }) s' n touched ∙ whole),
      kept_with_tree law s s' d n c kept tree used accepted document whole others touched,
    )

accepted_by_tree : (fault : Option TreeFault) → Answers {T = Unit {0}} fault (Ok tt) → option_map refusal_of_tree fault ≡ None
accepted_by_tree fault answers = ap (option_map refusal_of_tree) (no_fault fault tt answers)

pub accepted_as : {fault other : Option TreeFault} → fault ≡ other → Answers {T = Unit {0}} other (Ok tt) → option_map refusal_of_tree fault ≡ None
accepted_as {fault = fault} {other = other} same answers = ap (option_map refusal_of_tree) (same ∙ no_fault other tt answers)

pub added : (law : EditLaw) (adds : AddLaw) (s s' : WorldState) (d : Document) (n : ℕ) (parent : Option ℕ) (tag : List ℕ) → IsKeptState s → IsTree d
    → Answers {T = Unit {0}} (fault_of_add s.tree n parent) (Ok tt) → IsAdded s.tree d (new_element n parent tag) → IsTouched (record s { tree = d }) n s'
    → IsEdited s s' (Add n parent tag)
added law adds s s' d n parent tag kept tree answers is touched =
    let none = no_fault (fault_of_add s.tree n parent) tt answers in
    edit_of_tree law s s' d n (Add n parent tag) kept tree (accepted_by_tree (fault_of_add s.tree n parent) answers)
    (one_more_known s d is.before is.after (new_element n parent tag) kept is.was is.is (unused_where_new s.tree n (has_parent parent s.tree) parent none))
    (still_used s d n kept is.used) (ap (with_document (world_of s)) (added_is s.tree d n parent tag is))
    (λ ns. untouched_added ns s.tree d (new_element n parent tag) is (λ m. adds s.tree d (new_element n parent tag) m kept.world.tree tree is)) touched

pub inserted : (law : EditLaw) (inserts : InsertLaw) (s s' : WorldState) (d : Document) (n sibling : ℕ) (tag : List ℕ) → IsKeptState s → IsTree d
    → Answers {T = Unit {0}} (fault_of_insert s.tree n sibling) (Ok tt) → IsInserted s.tree d n sibling tag → IsTouched (record s { tree = d }) n s'
    → IsEdited s s' (Insert n sibling tag)
inserted law inserts s s' d n sibling tag kept tree answers is touched =
    let none = no_fault (fault_of_insert s.tree n sibling) tt answers in
    edit_of_tree law s s' d n (Insert n sibling tag) kept tree (accepted_by_tree (fault_of_insert s.tree n sibling) answers)
    (one_more_known s d is.before (is.next ∷ is.after) (new_element n is.next.parent tag) kept is.was is.is
    (unused_where_new s.tree n (is_in sibling s.tree.elements) (parent_of sibling s.tree.elements) none))
    (still_used s d n kept is.used) (ap (with_document (world_of s)) (inserted_is s.tree d n sibling tag kept.world.tree is))
    (λ ns. untouched_inserted ns s.tree d n sibling tag is (λ m. inserts s.tree d n sibling tag m kept.world.tree tree is)) touched

-- element n is changed, and keeps its number and its parent
pub changed : (law : EditLaw) (s s' : WorldState) (d : Document) (c : Command) (n : ℕ) (change : Element → Element) → IsKeptState s → IsTree d
    → ((e : Element) → (change e).number ≡ e.number) → ((e : Element) → (change e).parent ≡ e.parent) → refusal_of (world_of s) c ≡ None → d ≡ with_change s.tree n change
    → with_document (world_of s) (with_change s.tree n change) ≡ edited (world_of s) c → IsTouched (record s { tree = d }) n s' → IsEdited s s' c
changed law s s' d c n change kept tree numbers parents accepted is same touched =
    edit_of_tree law s s' d n c kept tree accepted
    (same_numbers_known s d (ap (λ (x : Document). numbers_of x.elements) is ∙ changed_numbers s.tree.elements n change numbers))
    (ap (λ (x : Document). list_all (λ e. is_used e.0 x) s.entries) is ∙ kept.used)
    (ap (with_document (world_of s)) is ∙ same)
    (subst (λ (x : Document). LeavesOthers s.tree x n) (sym is) (λ ns. untouched_changed n change numbers parents ns s.tree)) touched

-- ---- a removal

pub accepted_removal : {T : Type 0} (d : Document) (n : ℕ) (x : T) → Answers (fault_of_change d.elements n) (Ok x) → option_map refusal_of_tree (fault_of_change d.elements n) ≡ None
accepted_removal {T} d n x answers = by (fault_of_change d.elements n) answers
  where
    by : (fault : Option TreeFault) → Answers {T = T} fault (Ok x) → option_map refusal_of_tree fault ≡ None
    by None h = refl
    by (Some e) h = cc

time_of_all : (t : Micros) (rs : List Removed) (r : Removed) → All (λ x. IsMoment x.time.0) rs → IsMoment r.time.0 → All (λ x. IsMoment x.time.0) (rs ++ r ∷ [])
time_of_all t rs r all one = All-append (λ (x : Removed). IsMoment x.time.0) rs (r ∷ []) all (λ k d within. elim (cases_lt k 1) [
  | inl less ↦ let first : k ≡ 0 = omega (arith, less) in subst (λ i. IsMoment (get_or (r ∷ []) i d).time.0) (sym first) one
  | inr more ↦ absurd (omega (arith, within, more))
])

entries_without : (s : WorldState) (n : ℕ) → entries_of (without s.tree n) (entries_of s.tree s.entries) ≡ entries_of (without s.tree n) s.entries
entries_without s n =
    by_numbers (without s.tree n).elements (entries_of s.tree s.entries) ∙ ap (entries_at (numbers_of (without s.tree n).elements)) (by_numbers s.tree.elements s.entries)
    ∙ entries_again (numbers_of (without s.tree n).elements) (numbers_of s.tree.elements) s.entries (fewer_known s (λ e. not (is_inclusive_descendant s.tree.elements n e.number)))
    ∙ sym (by_numbers (without s.tree n).elements s.entries)

there_where_accepted : (within : Bool) → option_map refusal_of_tree (if within then None else Some tree.UnknownNode) ≡ None → within ≡ true
there_where_accepted true accepted = refl
there_where_accepted false accepted = cc

-- a frame leaves what is left by a removal
left_without : (removes : RemoveLaw) (touched : List ℕ) (w : WorldParts) (n : ℕ) → IsTree w.document → is_in n w.document.elements ≡ true → IsLeftByFrame touched w
    → IsLeftByFrame touched (without_element w n)
left_without removes touched w n tree within left =
    left_alike touched (with_document w (without w.document n)) (without_element w n) refl refl refl refl
    (left_with_document touched touched w (without w.document n) (untouched_without touched w.document n (λ m. removes w.document n m tree within)) left)

pub removed : (law : EditLaw) (removes : RemoveLaw) (s s' : WorldState) (n : ℕ) (r : Removed) → IsKeptState s → IsTree s'.tree
    → refusal_of (world_of s) (Remove n) ≡ None → s'.tree ≡ without s.tree n → s'.last_sheets ≡ s.last_sheets → s'.sheets ≡ s.sheets → s'.entries ≡ s.entries
    → s'.time ≡ s.time → s'.frames ≡ s.frames → s'.removed.items ≡ s.removed.items ++ r ∷ [] → s'.quiet ≡ s.quiet → s'.touched.keys ≡ s.touched.keys
    → r.time ≡ s.time → r.numbers.items ≡ numbers_of (subtree_of s.tree.elements n) → IsEdited s s' (Remove n)
removed law removes s s' n r kept tree accepted tree_is last_is sheets_is entries_is time_is frames_is items quiet_is touched_is time numbers = (
  (accepted, whole),
  record {
    world = record {
      tree = tree;
      order = order_of_entries s'.tree s'.entries;
      distinct = subst IsDistinct (sym whole) (law (world_of s) (Remove n) kept.world accepted);
    };
    time = subst (λ (t : Micros). IsMoment t.0) (sym time_is) kept.time;
    removed = subst (λ (rs : List Removed). All (λ x. IsMoment x.time.0) rs) (sym items) (time_of_all s.time s.removed.items r kept.removed (subst (λ (t : Micros). IsMoment t.0) (sym time) kept.time));
    used = ap (λ (es : List (ℕ × EntryParts)). list_all (λ e. is_used e.0 s'.tree) es) entries_is ∙ ap (λ (x : Document). list_all (λ e. is_used e.0 x) s.entries) tree_is ∙ kept.used;
    quiet = λ quiet.
        subst (IsLeftByFrame s'.touched.keys) (sym whole)
        (subst (λ (ks : List ℕ). IsLeftByFrame ks (without_element (world_of s) n)) (sym touched_is)
        (left_without removes s.touched.keys (world_of s) n kept.world.tree (there_where_accepted (is_in n s.tree.elements) accepted) (kept.quiet (sym quiet_is ∙ quiet))));
  },
)
  where
    parts : (d : Document) (last sheets : List (Option SheetRules)) (entries : List (ℕ × EntryParts)) (departed : List (ℕ × Gone)) (t : Micros) (frames : ℕ)
        → d ≡ without s.tree n → last ≡ s.last_sheets → sheets ≡ s.sheets → entries ≡ s.entries
        → departed ≡ (world_of s).departed ++ all_departed_of (world_of s).entries s.time (numbers_of (subtree_of s.tree.elements n)) → t ≡ s.time → frames ≡ s.frames
        → world_parts d last sheets (entries_of d entries) departed t frames ≡ edited (world_of s) (Remove n)
    parts d last sheets entries departed t frames d_is last_same sheets_same entries_same departed_is t_is f_is =
        ap (λ x. world_parts x last sheets (entries_of x entries) departed t frames) d_is
        ∙ ap (λ x. world_parts (without s.tree n) x sheets (entries_of (without s.tree n) entries) departed t frames) last_same
        ∙ ap (λ x. world_parts (without s.tree n) s.last_sheets x (entries_of (without s.tree n) entries) departed t frames) sheets_same
        ∙ ap (λ x. world_parts (without s.tree n) s.last_sheets s.sheets (entries_of (without s.tree n) x) departed t frames) entries_same
        ∙ ap (λ x. world_parts (without s.tree n) s.last_sheets s.sheets (entries_of (without s.tree n) s.entries) x t frames) departed_is
        ∙ ap (λ x. world_parts (without s.tree n) s.last_sheets s.sheets (entries_of (without s.tree n) s.entries) ((world_of s).departed ++ all_departed_of (world_of s).entries s.time (numbers_of (subtree_of s.tree.elements n))) x frames) t_is
        ∙ ap (λ x. world_parts (without s.tree n) s.last_sheets s.sheets (entries_of (without s.tree n) s.entries) ((world_of s).departed ++ all_departed_of (world_of s).entries s.time (numbers_of (subtree_of s.tree.elements n))) s.time x) f_is
        ∙ ap (λ es. world_parts (without s.tree n) s.last_sheets s.sheets es ((world_of s).departed ++ all_departed_of (world_of s).entries s.time (numbers_of (subtree_of s.tree.elements n))) s.time s.frames) (sym (entries_without s n))

    whole : world_of s' ≡ edited (world_of s) (Remove n)
    whole =
        parts s'.tree s'.last_sheets s'.sheets s'.entries (departed_in s'.entries s'.removed.items) s'.time s'.frames tree_is last_is sheets_is entries_is
        (ap (λ es. departed_in es s'.removed.items) entries_is ∙ ap (departed_in s.entries) items ∙ departed_with s n r time numbers) time_is frames_is
