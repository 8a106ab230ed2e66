-- The origins of a world after an edit.
use Rattle.std.proofs.Common.{◌≡◌, ◌∙◌, ap, sym, refl, arith, eqb, ℕ, ◌≤◌, List, [], ◌∷◌, ◌++◌, map, take, drop, take-append-drop, Bool, true, false, ◌&&◌, Option, None, Some}
use Rattle.std.specs.Prelude.{Result, Ok, Err, if◌then◌else◌, option_map, unwrap_or}
use Rattle.std.specs.List.{list_all}
use Rattle.doc_tree.specs.Change.{each_once, new_element, with_change, without}
use Rattle.doc_tree.specs.Element.{Document, Element, is_in, is_inclusive_descendant, is_used, numbers_of, parent_of, position_of, subtree_of}
use Rattle.doc_tree.specs.Fault.{fault_of_add, fault_of_insert, has_parent}
use Rattle.doc_tree.specs.declared.fault.TreeFault.{TreeFault}
use Rattle.fix_num.specs.declared.units.Micros.{Micros}
use Rattle.pass_core.specs.Passes.{value_for}
use Rattle.script_text.specs.declared.command.Command.{Command}
use Rattle.script_text.specs.declared.command.Command.TheVariants.{Blank, Add, Insert, Remove, Id, Class, Style, Sheet, At, Frame, Get, List as Listing}
use Rattle.sheet_rules.specs.declared.fault.CssFault.{CssFault}
use Rattle.sheet_types.specs.Sheets.{SheetRules}
use Rattle.style_data.specs.Entries.{EffectLists, EntryParts, fresh_entry}
use Rattle.style_data.specs.declared.gone.Gone.{Gone}
use Rattle.ticker.specs.declared.event.Standing.{Standing}
use Rattle.transition_update.specs.Updates.{all_cancelled}
use Rattle.animation_names.specs.Continuing.{cancelled_animation}
use Rattle.restyle.specs.Distinct.{IsDistinct, IsWorld, all_origins}
use Rattle.restyle.specs.Documents.{last_place, with_element}
use Rattle.restyle.specs.Edits.{edited, refusal_of, refusal_of_tree, sheet_found, with_sheet, without_element}
use Rattle.restyle.specs.StyleChanges.{entry_for}
use Rattle.restyle.specs.Worlds.{WorldParts, all_departed_of, all_gone_at, departed_of, entries_of, with_document}
use Rattle.restyle.proofs.AnimationOrigins.{cancelled_animations_count}
use Rattle.restyle.proofs.EffectCounts.{all_counted, animation_count, departed_count, effect_count, entry_count, gone_count, transition_count}
use Rattle.restyle.proofs.FrameOrigins.{own_entries}
use Rattle.restyle.proofs.Numbers.{unused_absent}
use Rattle.restyle.proofs.OriginCounts.{fewer_origins, total, total-append, total-cons, total-filter, total-flat_map, total-map, total-nil, total-same}
use Rattle.restyle.proofs.TransitionOrigins.{all_cancelled_count}
use Rattle.restyle.proofs.WorldEdits.{unused_where_new}

-- ---- documents

-- how often it is an origin of the elements, by these entries
abbrev elements_count : Standing → List (ℕ × EntryParts) → List Element → ℕ
elements_count s entries es = total (λ (e : Element). effect_count s (entry_for entries e.number).effects) es

entries_of_count : (s : Standing) (d : Document) (entries : List (ℕ × EntryParts)) → entry_count s (entries_of d entries) ≡ elements_count s entries d.elements
entries_of_count s d entries = total-map (λ (x : ℕ × EntryParts). effect_count s x.1.effects) (λ (e : Element). (e.number, entry_for entries e.number)) d.elements

-- another document with no more of each origin
with_document_distinct : (w : WorldParts) (d : Document) → IsWorld w
    → ((s : Standing) → elements_count s w.entries d.elements ≤ elements_count s w.entries w.document.elements) → IsDistinct (with_document w d)
with_document_distinct w d world fewer =
    fewer_origins w.frames (all_origins w.entries w.departed) (all_origins (entries_of d w.entries) w.departed)
    (λ s. omega (
      arith,
      all_counted s w.entries w.departed,
      all_counted s (entries_of d w.entries) w.departed,
      entries_of_count s d w.entries,
      own_entries s w.document w.entries world.tree world.order,
      fewer s,
    ))
    world.distinct

-- ---- one element more

numbers_used : (d : Document) (entries : List (ℕ × EntryParts)) (es : List Element) → map (λ (x : ℕ × EntryParts). x.0) entries ≡ numbers_of es
    → list_all (λ (e : Element). is_used e.number d) es ≡ true → list_all (λ x. is_used x.0 d) entries ≡ true
numbers_used d entries es order used =
    over (λ n. is_used n d) (λ (x : ℕ × EntryParts). x.0) entries ∙ ap (list_all (λ n. is_used n d)) order
    ∙ sym (over (λ n. is_used n d) (λ (e : Element). e.number) es) ∙ used
  where
    over : {X : Type 0} (p : ℕ → Bool) (f : X → ℕ) (xs : List X) → list_all (λ x. p (f x)) xs ≡ list_all p (map f xs)
    over p f [] = refl
    over p f (x ∷ xs) = ap (λ b. p (f x) && b) (over p f xs)

no_entry : (w : WorldParts) (n : ℕ) → IsWorld w → is_used n w.document ≡ false → value_for w.entries n ≡ None
no_entry w n world unused = unused_absent n w.document w.entries (numbers_used w.document w.entries w.document.elements world.order world.tree.numbers) unused

one_more_count : (s : Standing) (w : WorldParts) (place : ℕ) (e : Element) → value_for w.entries e.number ≡ None
    → elements_count s w.entries (with_element w.document place e).elements ≡ elements_count s w.entries w.document.elements
one_more_count s w place e none =
    let f : Element → ℕ = λ e. effect_count s (entry_for w.entries e.number).effects in
    omega (
      arith,
      total-append f (take place w.document.elements) (e ∷ drop place w.document.elements),
      total-cons f e (drop place w.document.elements),
      total-append f (take place w.document.elements) (drop place w.document.elements),
      ap (total f) (take-append-drop place w.document.elements),
      ap (λ o. effect_count s (unwrap_or o fresh_entry).effects) none,
      total-nil (transition_count s),
      total-nil (animation_count s),
      total-nil (gone_count s),
    )

one_more_distinct : (w : WorldParts) (place : ℕ) (e : Element) → IsWorld w → is_used e.number w.document ≡ false → IsDistinct (with_document w (with_element w.document place e))
one_more_distinct w place e world unused =
    with_document_distinct w (with_element w.document place e) world (λ s. omega (arith, one_more_count s w place e (no_entry w e.number world unused)))

-- ---- the same elements

changed_count : (s : Standing) (entries : List (ℕ × EntryParts)) (es : List Element) (n : ℕ) (change : Element → Element) → ((e : Element) → (change e).number ≡ e.number)
    → elements_count s entries (map (λ e. if eqb e.number n then change e else e) es) ≡ elements_count s entries es
changed_count s entries es n change keeps =
    total-map f (λ (e : Element). if eqb e.number n then change e else e) es
    ∙ total-same (λ (e : Element). f (if eqb e.number n then change e else e)) f es (λ e. one e (eqb e.number n))
  where
    f : Element → ℕ
    f e = effect_count s (entry_for entries e.number).effects

    one : (e : Element) (b : Bool) → effect_count s (entry_for entries (if b then change e else e).number).effects ≡ effect_count s (entry_for entries e.number).effects
    one e true = ap (λ n. effect_count s (entry_for entries n).effects) (keeps e)
    one e false = refl

changed_distinct : (w : WorldParts) (n : ℕ) (change : Element → Element) → ((e : Element) → (change e).number ≡ e.number) → IsWorld w
    → IsDistinct (with_document w (with_change w.document n change))
changed_distinct w n change keeps world =
    with_document_distinct w (with_change w.document n change) world (λ s. omega (arith, changed_count s w.entries w.document.elements n change keeps))

-- ---- fewer elements

all_gone_count : (s : Standing) (t : Micros) (e : EffectLists) → total (gone_count s) (all_gone_at t e) ≡ effect_count s e
all_gone_count s t e =
    omega (
      arith,
      total-append (gone_count s) (e.gone ++ all_cancelled e.transitions t.0) (map (cancelled_animation t) e.animations),
      total-append (gone_count s) e.gone (all_cancelled e.transitions t.0),
      all_cancelled_count s e.transitions t.0,
      total-map (gone_count s) (cancelled_animation t) e.animations,
      cancelled_animations_count s t e.animations,
    )

-- what departs has the origins of the elements that go
departing_count : (s : Standing) (entries : List (ℕ × EntryParts)) (t : Micros) (es : List Element)
    → departed_count s (all_departed_of entries t (numbers_of es)) ≡ elements_count s entries es
departing_count s entries t es =
    total-flat_map (λ (d : ℕ × Gone). gone_count s d.1) (departed_of entries t) (numbers_of es)
    ∙ total-map (λ n. total (λ (d : ℕ × Gone). gone_count s d.1) (departed_of entries t n)) (λ (e : Element). e.number) es
    ∙ total-same (λ (e : Element). total (λ (d : ℕ × Gone). gone_count s d.1) (departed_of entries t e.number)) (λ e. effect_count s (entry_for entries e.number).effects) es
    (λ e. total-map (λ (d : ℕ × Gone). gone_count s d.1) (λ g. (e.number, g)) (all_gone_at t (entry_for entries e.number).effects)
    ∙ all_gone_count s t (entry_for entries e.number).effects)

removed_distinct : (w : WorldParts) (n : ℕ) → IsWorld w → IsDistinct (without_element w n)
removed_distinct w n world =
    let d : Document = without w.document n in
    let gone : List (ℕ × Gone) = all_departed_of w.entries w.time (numbers_of (subtree_of w.document.elements n)) in
    fewer_origins w.frames (all_origins w.entries w.departed) (all_origins (entries_of d w.entries) (w.departed ++ gone))
    (λ s. omega (
      arith,
      all_counted s w.entries w.departed,
      all_counted s (entries_of d w.entries) (w.departed ++ gone),
      entries_of_count s d w.entries,
      own_entries s w.document w.entries world.tree world.order,
      total-append (λ (d : ℕ × Gone). gone_count s d.1) w.departed gone,
      departing_count s w.entries w.time (subtree_of w.document.elements n),
      total-filter (λ (e : Element). effect_count s (entry_for w.entries e.number).effects) (λ e. is_inclusive_descendant w.document.elements n e.number) w.document.elements,
    ))
    world.distinct

-- ---- all edits

no_fault : (fault : Option TreeFault) → option_map refusal_of_tree fault ≡ None → fault ≡ None
no_fault None accepted = refl
no_fault (Some e) accepted = cc

sheet_distinct : (w : WorldParts) (k : ℕ) (found : Result (Option SheetRules) CssFault) → IsWorld w → IsDistinct (with_sheet w k found)
sheet_distinct w k (Ok sheet) world = world.distinct
sheet_distinct w k (Err fault) world = world.distinct

pub edit_distinct : (w : WorldParts) (c : Command) → IsWorld w → refusal_of w c ≡ None → IsDistinct (edited w c)
edit_distinct w Blank world accepted = world.distinct
edit_distinct w (Add n parent tag) world accepted =
    one_more_distinct w (last_place w.document parent) (new_element n parent tag) world
    (unused_where_new w.document n (has_parent parent w.document) parent (no_fault (fault_of_add w.document n parent) accepted))
edit_distinct w (Insert n sibling tag) world accepted =
    one_more_distinct w (unwrap_or (position_of sibling w.document) 0) (new_element n (parent_of sibling w.document.elements) tag) world
    (unused_where_new w.document n (is_in sibling w.document.elements) (parent_of sibling w.document.elements) (no_fault (fault_of_insert w.document n sibling) accepted))
edit_distinct w (Remove n) world accepted = removed_distinct w n world
edit_distinct w (Id n name) world accepted = changed_distinct w n (λ e. record e { id = name }) (λ e. refl) world
edit_distinct w (Class n names) world accepted = changed_distinct w n (λ e. record e { classes = each_once names }) (λ e. refl) world
edit_distinct w (Style n text) world accepted = changed_distinct w n (λ e. record e { style = text }) (λ e. refl) world
edit_distinct w (Sheet k text) world accepted = sheet_distinct w k (sheet_found text) world
edit_distinct w (At t) world accepted = world.distinct
edit_distinct w Frame world accepted = world.distinct
edit_distinct w (Get n p) world accepted = world.distinct
edit_distinct w (Listing n) world accepted = world.distinct
