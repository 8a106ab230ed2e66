-- Entries brought into the tree order of a document.
use Rattle.std.proofs.Common.{◌≡◌, ℕ, zero, suc, ◌+◌, ◌<◌, refl, ap, sym, ◌∙◌, subst, arith, eqb, true, false, Option, Some, None, List, [], ◌∷◌, ◌++◌, append_assoc, drop, get_or, length, map, take}
use Rattle.std.specs.Prelude.{IfSome, IsSomeAnd, if◌then◌else◌, nat_eq, option_map, slice_get, unwrap_or}
use Rattle.std.specs.List.{list_any}
use Rattle.std.specs.Option.{option_and_then}
use Rattle.std.proofs.lemmas.Bool.{eq-eqb, false≢true, or_parts}
use Rattle.std.proofs.lemmas.List.{length-map, map-append, take-append-drop, take_more}
use Rattle.std.proofs.lemmas.List.Folds.{list_any-append}
use Rattle.std.proofs.lemmas.Option.{slice_get-get_or, slice_get-map}
use Rattle.doc_tree.specs.Element.{Document, Element, numbers_of}
use Rattle.doc_tree.specs.Shape.{IsTree}
use Rattle.pass_core.specs.Passes.{value_for}
use Rattle.style_data.specs.Entries.{EntryParts, fresh_entry}
use Rattle.restyle.specs.Entries.{IsAligned, IsLeft, LeavesOthers, are_apart, entry_left, is_among}
use Rattle.restyle.specs.StyleChanges.{entry_for}
use Rattle.restyle.specs.declared.entries.Taken.{Taken}
use Rattle.restyle.proofs.Lookups.{index_in, same_way, value_by_index}
use Rattle.restyle.proofs.Numbers.{apart_front, tree_apart}
use Rattle.restyle.proofs.Walks.{nobody, one_more}

-- ---- lists

split_index : {X : Type 0} (xs : List X) (i : ℕ) (d : X) → i < length xs → xs ≡ take i xs ++ get_or xs i d ∷ drop (i + 1) xs
split_index xs i d within =
    sym (take-append-drop (i + 1) xs) ∙ ap (λ front. front ++ drop (i + 1) xs) (take_more xs i d within) ∙ append_assoc (take i xs) (get_or xs i d ∷ []) (drop (i + 1) xs)

first_at : (list : List (ℕ × EntryParts)) (i : ℕ) (x : ℕ × EntryParts) → i < length list → get_or (map (λ e. e.0) list) i x.0 ≡ (get_or list i x).0
first_at [] i x within = absurd (omega (arith, within))
first_at (y ∷ list) zero x within = refl
first_at (y ∷ list) (suc i) x within = first_at list i x (omega (arith, within))

any_flipped : (n : ℕ) (ns : List ℕ) → list_any (nat_eq n) ns ≡ is_among n ns
any_flipped n [] = refl
any_flipped n (m ∷ ns) = rw (same_way n m, any_flipped n ns) refl

-- ---- the entries of the tree's elements

pub next_numbers : (list : List (ℕ × EntryParts)) (es : List Element) (at : ℕ) (x : ℕ × EntryParts) → at < length es → at < length list
    → IsSomeAnd (slice_get es at) (λ e. e.number ≡ (get_or list at x).0) → map (λ y. y.0) (take at list) ≡ numbers_of (take at es)
    → map (λ y. y.0) (take (at + 1) list) ≡ numbers_of (take (at + 1) es)
next_numbers list es at x in_es in_list stands so_far =
    let number : (get_or es at nobody).number ≡ (get_or list at x).0 = subst (λ (o : Option Element). IsSomeAnd o (λ e. e.number ≡ (get_or list at x).0)) (slice_get-get_or es at nobody in_es) stands in
    ap (map (λ (y : ℕ × EntryParts). y.0)) (take_more list at x in_list) ∙ map-append (λ (y : ℕ × EntryParts). y.0) (take at list) (get_or list at x ∷ [])
    ∙ ap (λ ns. ns ++ (get_or list at x).0 ∷ []) so_far
    ∙ ap (λ n. numbers_of (take at es) ++ n ∷ []) (sym number)
    ∙ sym (ap numbers_of (take_more es at nobody in_es) ∙ map-append (λ (e : Element). e.number) (take at es) (get_or es at nobody ∷ []))

-- ---- an index of numbers

pub next_key : (list : List (ℕ × EntryParts)) (keys : List ℕ) (i : ℕ) (x : ℕ × EntryParts) → keys ≡ take i (map (λ e. e.0) list) → i < length list → x ≡ get_or list i x
    → are_apart (map (λ e. e.0) list) ≡ true
    → (if list_any (nat_eq x.0) keys then keys else keys ++ x.0 ∷ []) ≡ take (i + 1) (map (λ e. e.0) list)
next_key list keys i x so_far within is apart =
    let ns = map (λ (e : ℕ × EntryParts). e.0) list in
    let within' : i < length ns = omega (arith, within, length-map list (λ (e : ℕ × EntryParts). e.0)) in
    let here : get_or ns i x.0 ≡ x.0 = first_at list i x within ∙ ap (λ (y : ℕ × EntryParts). y.0) (sym is) in
    let split : ns ≡ take i ns ++ x.0 ∷ drop (i + 1) ns = split_index ns i x.0 within' ∙ ap (λ n. take i ns ++ n ∷ drop (i + 1) ns) here in
    let away : list_any (nat_eq x.0) keys ≡ false =
    ap (list_any (nat_eq x.0)) so_far ∙ any_flipped x.0 (take i ns) ∙ apart_front (take i ns) x.0 (drop (i + 1) ns) (ap are_apart (sym split) ∙ apart) in
    ap (λ b. if b then keys else keys ++ x.0 ∷ []) away ∙ ap (λ ks. ks ++ x.0 ∷ []) so_far ∙ ap (λ n. take i ns ++ n ∷ []) (sym here) ∙ sym (take_more ns i x.0 within')

-- ---- entries that are left

joined_option : (o : Option (ℕ × EntryParts)) → option_and_then (λ (e : Option EntryParts). e) (option_map (λ x. Some x.1) o) ≡ option_map (λ x. x.1) o
joined_option None = refl
joined_option (Some x) = refl

pub left_from : (taken : Taken) (entries : List (ℕ × EntryParts)) → taken.numbers.keys ≡ map (λ e. e.0) entries → taken.left.items ≡ map (λ x. Some x.1) entries
    → (n : ℕ) → entry_left taken n ≡ value_for entries n
left_from taken entries keys items n =
    ap (λ (ns : List ℕ). option_and_then (λ (e : Option EntryParts). e) (slice_get taken.left.items (index_in ns n))) keys
    ∙ ap (λ (xs : List (Option EntryParts)). option_and_then (λ (e : Option EntryParts). e) (slice_get xs (index_in (map (λ e. e.0) entries) n))) items
    ∙ ap (option_and_then (λ (e : Option EntryParts). e)) (slice_get-map (λ (x : ℕ × EntryParts). Some x.1) entries (index_in (map (λ e. e.0) entries) n))
    ∙ joined_option (slice_get entries (index_in (map (λ e. e.0) entries) n)) ∙ sym (value_by_index entries n)

pub aligned_from : (taken : Taken) (entries : List (ℕ × EntryParts)) → taken.numbers.keys ≡ map (λ e. e.0) entries → taken.left.items ≡ map (λ x. Some x.1) entries → IsAligned taken
aligned_from taken entries keys items =
    ap length items ∙ length-map entries (λ (x : ℕ × EntryParts). Some x.1) ∙ sym (length-map entries (λ (e : ℕ × EntryParts). e.0)) ∙ sym (ap length keys)

-- the entry of an element, where it is left
abbrev pub entry_from : Taken → Element → ℕ × EntryParts
entry_from taken e = (e.number, unwrap_or (entry_left taken e.number) fresh_entry)

module _ (d : Document) (tree : IsTree d) (opening before after : Taken) (at : ℕ) (within : at < length d.elements)
    (left : (m : ℕ) → is_among m (numbers_of (take at d.elements)) ≡ false → entry_left before m ≡ entry_left opening m) where
  abbrev here : Element
  here = get_or d.elements at nobody

  away : is_among here.number (numbers_of (take at d.elements)) ≡ false
  away =
      apart_front (numbers_of (take at d.elements)) here.number (numbers_of (drop (at + 1) d.elements))
      (ap are_apart (sym (ap numbers_of (split_index d.elements at nobody within) ∙ map-append (λ (e : Element). e.number) (take at d.elements) (here ∷ drop (at + 1) d.elements))) ∙ tree_apart d tree)

  pub next_list : (list list' : List (ℕ × EntryParts)) → list ≡ map (entry_from opening) (take at d.elements)
      → IfSome (slice_get d.elements at) (λ e. list' ≡ list ++ (e.number, unwrap_or (entry_left before e.number) fresh_entry) ∷ [])
      → list' ≡ map (entry_from opening) (take (at + 1) d.elements)
  next_list list list' so_far pushed =
      let there = slice_get-get_or d.elements at nobody within in
      let one : list' ≡ list ++ (here.number, unwrap_or (entry_left before here.number) fresh_entry) ∷ [] =
      subst (λ (o : Option Element). IfSome o (λ e. list' ≡ list ++ (e.number, unwrap_or (entry_left before e.number) fresh_entry) ∷ [])) there pushed in
      let same : list' ≡ list ++ entry_from opening here ∷ [] = one ∙ ap (λ o. list ++ (here.number, unwrap_or o fresh_entry) ∷ []) (left here.number away) in
      one_more (entry_from opening) d.elements at list list' within so_far (subst (λ (o : Option Element). IfSome o (λ e. list' ≡ list ++ entry_from opening e ∷ [])) (sym there) same)

  pub next_left : IfSome (slice_get d.elements at) (λ e. LeavesOthers before e.number after) → (m : ℕ) → is_among m (numbers_of (take (at + 1) d.elements)) ≡ false
      → entry_left after m ≡ entry_left opening m
  next_left others m not_yet =
      let there = slice_get-get_or d.elements at nobody within in
      let rest : LeavesOthers before here.number after = subst (λ (o : Option Element). IfSome o (λ e. LeavesOthers before e.number after)) there others in
      let numbers : numbers_of (take (at + 1) d.elements) ≡ numbers_of (take at d.elements) ++ here.number ∷ [] =
      ap numbers_of (take_more d.elements at nobody within) ∙ map-append (λ (e : Element). e.number) (take at d.elements) (here ∷ []) in
      let parts = or_parts (is_among m (numbers_of (take at d.elements))) (is_among m (here.number ∷ []))
      (sym (list_any-append (λ k. eqb k m) (numbers_of (take at d.elements)) (here.number ∷ [])) ∙ ap (is_among m) (sym numbers) ∙ not_yet) in
      let other = (or_parts (eqb here.number m) false parts.1).0 in
      rest m (λ (same : m ≡ here.number). false≢true (sym other ∙ eq-eqb here.number m (sym same))) ∙ left m parts.0

-- ---- all of them

pub made_numbers : (taken : Taken) (es : List Element) → map (λ x. x.0) (map (entry_from taken) es) ≡ numbers_of es
made_numbers taken [] = refl
made_numbers taken (e ∷ es) = ap (λ ns. e.number ∷ ns) (made_numbers taken es)

pub made_entries : (taken : Taken) (entries : List (ℕ × EntryParts)) → IsLeft taken entries → (es : List Element)
    → map (entry_from taken) es ≡ map (λ e. (e.number, entry_for entries e.number)) es
made_entries taken entries left [] = refl
made_entries taken entries left (e ∷ es) =
    ap (λ o. (e.number, unwrap_or o fresh_entry) ∷ map (entry_from taken) es) (left e.number)
    ∙ ap (λ xs. (e.number, entry_for entries e.number) ∷ xs) (made_entries taken entries left es)
