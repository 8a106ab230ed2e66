-- A frame of a world, by the states that it goes through.
use Rattle.std.proofs.Common.{◌≡◌, ℕ, zero, suc, ◌+◌, ◌<◌, ℤ, refl, ap, sym, ◌∙◌, subst, inl, inr, arith, true, ◌&&◌, List, [], ◌∷◌, ◌++◌, append_assoc, get_or, length, map}
use Rattle.std.specs.Prelude.{All}
use Rattle.std.specs.List.{list_all}
use Rattle.std.proofs.lemmas.Bool.{cases_lt}
use Rattle.std.proofs.lemmas.List.{map-append}
use Rattle.animation_names.specs.Continuing.{cancelled_animation}
use Rattle.doc_tree.specs.Element.{Document, Element, is_used, numbers_of}
use Rattle.doc_tree.specs.Shape.{IsTree}
use Rattle.fix_num.specs.declared.units.Micros.{Micros}
use Rattle.style_data.specs.Entries.{EffectLists, EntryParts}
use Rattle.style_data.specs.declared.animation.AnimationState.{AnimationState}
use Rattle.style_data.specs.declared.gone.Gone.{Gone}
use Rattle.transition_update.specs.Updates.{all_cancelled}
use Rattle.style_data.specs.Transitions.{IsMoment}
use Rattle.ticker.specs.Distinct.{AreDistinct}
use Rattle.ticker.specs.Ticks.{ticked_entry}
use Rattle.restyle.specs.Distinct.{AreInTreeOrder, IsDistinct, IsWorld}
use Rattle.restyle.specs.Quiet.{IsLeftByFrame, IsQuietFrame}
use Rattle.restyle.specs.States.{IsKeptState, departed_in, world_of}
use Rattle.restyle.specs.StyleChanges.{FrameParts, entry_after_event, frame_after, frame_event, frame_parts}
use Rattle.restyle.specs.Worlds.{WorldParts, all_gone_at, entries_of, frame_of, ticked_world, with_frame, world_after_frame, world_parts}
use Rattle.restyle.specs.declared.state.Removed.{Removed}
use Rattle.restyle.specs.declared.state.WorldState.{WorldState}
use Rattle.restyle.proofs.Numbers.{in_order_already, order_of_entries}
use Rattle.restyle.proofs.QuietWorlds.{ticked_for}
use Rattle.restyle.proofs.StillEntries.{ticked_parts}

-- ---- the tick

pub numbers_ticked : (t : ℤ) (entries : List (ℕ × EntryParts)) → map (λ x. x.0) (map (ticked_entry t) entries) ≡ map (λ x. x.0) entries
numbers_ticked t [] = refl
numbers_ticked t (x ∷ entries) = ap (λ ns. x.0 ∷ ns) (numbers_ticked t entries)

pub ticked_order : (d : Document) (t : ℤ) (entries : List (ℕ × EntryParts)) → AreInTreeOrder d (map (ticked_entry t) (entries_of d entries))
ticked_order d t entries = numbers_ticked t (entries_of d entries) ∙ order_of_entries d entries

-- the state after the tick of another one
pub record IsTickedFrom (s s' : WorldState) : Type 0 where
  pub tree : s'.tree ≡ s.tree
  pub last_sheets : s'.last_sheets ≡ s.last_sheets
  pub sheets : s'.sheets ≡ s.sheets
  pub time : s'.time ≡ s.time
  pub frames : s'.frames ≡ s.frames
  pub removed : s'.removed.items ≡ []
  pub entries : s'.entries ≡ map (ticked_entry s.time.0) (entries_of s.tree s.entries)

pub order_ticked : (s s' : WorldState) → IsTickedFrom s s' → AreInTreeOrder s'.tree s'.entries
order_ticked s s' is =
    ap (λ (es : List (ℕ × EntryParts)). map (λ (x : ℕ × EntryParts). x.0) es) is.entries ∙ ticked_order s.tree s.time.0 s.entries ∙ ap (λ (d : Document). numbers_of d.elements) (sym is.tree)

pub ticked_state : (s s' : WorldState) → IsTree s.tree → IsTickedFrom s s' → world_of s' ≡ ticked_world (world_of s)
ticked_state s s' tree is =
    let ticked = map (ticked_entry s.time.0) (entries_of s.tree s.entries) in
    ap (λ d. world_parts d s'.last_sheets s'.sheets (entries_of d s'.entries) (departed_in s'.entries s'.removed.items) s'.time s'.frames) is.tree
    ∙ ap (λ x. world_parts s.tree x s'.sheets (entries_of s.tree s'.entries) (departed_in s'.entries s'.removed.items) s'.time s'.frames) is.last_sheets
    ∙ ap (λ x. world_parts s.tree s.last_sheets x (entries_of s.tree s'.entries) (departed_in s'.entries s'.removed.items) s'.time s'.frames) is.sheets
    ∙ ap (λ rs. world_parts s.tree s.last_sheets s.sheets (entries_of s.tree s'.entries) (departed_in s'.entries rs) s'.time s'.frames) is.removed
    ∙ ap (λ es. world_parts s.tree s.last_sheets s.sheets (entries_of s.tree es) [] s'.time s'.frames) is.entries
    ∙ ap (λ es. world_parts s.tree s.last_sheets s.sheets es [] s'.time s'.frames) (in_order_already s.tree ticked tree (ticked_order s.tree s.time.0 s.entries))
    ∙ ap (λ t. world_parts s.tree s.last_sheets s.sheets ticked [] t s'.frames) is.time ∙ ap (λ n. world_parts s.tree s.last_sheets s.sheets ticked [] s.time n) is.frames

-- what holds of a world's entries holds of these
pub distinct_by : (w : WorldParts) (d : Document) (list : List (ℕ × EntryParts)) (departed : List (ℕ × Gone)) → d ≡ w.document → list ≡ w.entries → departed ≡ w.departed
    → AreDistinct w.document w.entries w.departed → AreDistinct d list departed
distinct_by w d list departed d_is list_is departed_is all =
    subst (λ (x : Document). AreDistinct x list departed) (sym d_is)
    (subst (λ (x : List (ℕ × EntryParts)). AreDistinct w.document x departed) (sym list_is)
    (subst (λ (x : List (ℕ × Gone)). AreDistinct w.document w.entries x) (sym departed_is) all))

-- ---- the style change event

closing_numbers : (make : ℕ × EntryParts → EntryParts) (entries : List (ℕ × EntryParts))
    → map (λ (y : ℕ × EntryParts). y.0) (map (λ (x : ℕ × EntryParts). (x.0, make x)) entries) ≡ map (λ (x : ℕ × EntryParts). x.0) entries
closing_numbers make [] = refl
closing_numbers make (x ∷ entries) = ap (λ ns. x.0 ∷ ns) (closing_numbers make entries)

-- what the frame after its event has
pub record Closed (f g : FrameParts) : Type 0 where
  pub document : g.document ≡ f.document
  pub sheets : g.sheets ≡ f.sheets
  pub old : g.old ≡ f.sheets
  pub time : g.time ≡ f.time
  pub generation : g.generation ≡ f.generation
  pub numbers : map (λ x. x.0) g.entries ≡ map (λ x. x.0) f.entries

pub closed : (f : FrameParts) → Closed f (frame_after f)
unfolding frame_after
closed f = record {
  document = refl;
  sheets = refl;
  old = refl;
  time = refl;
  generation = refl;
  numbers = closing_numbers (λ x. entry_after_event (frame_event f) f.entries x.0) f.entries;
}

-- the state that the frame leaves
pub record IsLeftBy (s r : WorldState) (f : FrameParts) : Type 0 where
  pub after : f ≡ frame_after (frame_parts s.tree s.last_sheets s.sheets s.entries s.time (s.frames + 1))
  pub parts : f ≡ frame_parts r.tree r.last_sheets r.sheets r.entries r.time r.frames

module _ (s r : WorldState) (f : FrameParts) (left : IsLeftBy s r f) where
  abbrev before : FrameParts
  before = frame_parts s.tree s.last_sheets s.sheets s.entries s.time (s.frames + 1)

  same : frame_parts r.tree r.last_sheets r.sheets r.entries r.time r.frames ≡ frame_after before
  same = sym left.parts ∙ left.after

  pub tree_left : r.tree ≡ s.tree
  tree_left = ap (λ (g : FrameParts). g.document) same ∙ (closed before).document

  pub order_left : AreInTreeOrder s.tree s.entries → AreInTreeOrder r.tree r.entries
  order_left order =
      ap (λ (g : FrameParts). map (λ (x : ℕ × EntryParts). x.0) g.entries) same ∙ (closed before).numbers ∙ order ∙ ap (λ (d : Document). numbers_of d.elements) (sym tree_left)

  pub world_left : IsTree s.tree → AreInTreeOrder s.tree s.entries → s.removed.items ≡ [] → r.removed.items ≡ []
      → world_of r ≡ with_frame (world_of s) (frame_after (frame_of (world_of s)))
  world_left tree order none none' =
      let entries_in : entries_of r.tree r.entries ≡ r.entries = in_order_already r.tree r.entries (subst IsTree (sym tree_left) tree) (order_left order) in
      let entries_were : entries_of s.tree s.entries ≡ s.entries = in_order_already s.tree s.entries tree order in
      let whole : frame_after before ≡ frame_after (frame_of (world_of s)) =
      ap (λ es. frame_after (frame_parts s.tree s.last_sheets s.sheets es s.time (s.frames + 1))) (sym entries_were) in
      ap (λ es. world_parts r.tree r.last_sheets r.sheets es (departed_in r.entries r.removed.items) r.time r.frames) entries_in
      ∙ ap (λ rs. world_parts r.tree r.last_sheets r.sheets r.entries (departed_in r.entries rs) r.time r.frames) none'
      ∙ ap (λ (g : FrameParts). world_parts g.document g.old g.sheets g.entries [] g.time g.generation) same
      ∙ ap (λ d. world_parts d (frame_after before).old (frame_after before).sheets (frame_after before).entries [] (frame_after before).time (frame_after before).generation) (closed before).document
      ∙ ap (λ x. world_parts s.tree (frame_after before).old x (frame_after before).entries [] (frame_after before).time (frame_after before).generation) (closed before).sheets
      ∙ ap (λ t. world_parts s.tree (frame_after before).old s.sheets (frame_after before).entries [] t (frame_after before).generation) (closed before).time
      ∙ ap (λ rs. world_parts s.tree (frame_after before).old s.sheets (frame_after before).entries (departed_in s.entries rs) s.time (frame_after before).generation) (sym none)
      ∙ ap (λ (g : FrameParts). world_parts s.tree g.old s.sheets g.entries (departed_in s.entries s.removed.items) s.time g.generation) whole

-- ---- both

all_used : (d : Document) (es : List Element) (entries : List (ℕ × EntryParts)) → map (λ x. x.0) entries ≡ numbers_of es → list_all (λ e. is_used e.number d) es ≡ true
    → list_all (λ x. is_used x.0 d) entries ≡ true
all_used d es entries order used = by_list entries ∙ ap (list_all (λ n. is_used n d)) order ∙ sym (by_elements es) ∙ used
  where
    by_list : (xs : List (ℕ × EntryParts)) → list_all (λ x. is_used x.0 d) xs ≡ list_all (λ n. is_used n d) (map (λ x. x.0) xs)
    by_list [] = refl
    by_list (x ∷ xs) = ap (λ b. is_used x.0 d && b) (by_list xs)

    by_elements : (xs : List Element) → list_all (λ e. is_used e.number d) xs ≡ list_all (λ n. is_used n d) (numbers_of xs)
    by_elements [] = refl
    by_elements (e ∷ xs) = ap (λ b. is_used e.number d && b) (by_elements xs)

pub frame_is : (w : WorldParts) (ticked : WorldParts) (after : WorldParts) → ticked ≡ ticked_world w → after ≡ with_frame ticked (frame_after (frame_of ticked)) → after ≡ world_after_frame w
unfolding world_after_frame
frame_is w ticked after ticked_is after_is = after_is ∙ ap (λ x. with_frame x (frame_after (frame_of x))) ticked_is

document_kept : (w : WorldParts) → (world_after_frame w).document ≡ w.document
unfolding world_after_frame
document_kept w = refl

time_kept : (w : WorldParts) → (world_after_frame w).time ≡ w.time
unfolding world_after_frame
time_kept w = refl

-- a frame leaves its document, its sheets and its entries
left_by_frame : (w : WorldParts) → IsWorld w → IsLeftByFrame [] (world_after_frame w)
unfolding world_after_frame frame_after
left_by_frame w world = record {
  last = frame_of (ticked_world w);
  tree = world.tree;
  order = numbers_ticked w.time.0 w.entries ∙ world.order;
  old = refl;
  sheets = refl;
  ancestors = λ n within alone. refl;
  entries = λ n within alone. refl;
}

-- after the tick the event of the next frame is quiet, but for what was touched
pub ticked_quiet : (touched : List ℕ) (w : WorldParts) → IsLeftByFrame touched w → IsQuietFrame touched (frame_of (ticked_world w))
ticked_quiet touched w left = record {
  last = left.last;
  tick = w.time.0;
  tree = left.tree;
  order = left.order;
  old = left.old;
  sheets = left.sheets;
  ancestors = left.ancestors;
  entries = λ n within alone. ticked_for w.time.0 w.entries n ∙ ap (ticked_parts w.time.0) (left.entries n within alone);
}

pub state_kept : (law : (w : WorldParts) → IsWorld w → IsDistinct (world_after_frame w)) (s r : WorldState) → IsKeptState s → world_of r ≡ world_after_frame (world_of s)
    → AreInTreeOrder r.tree r.entries → r.removed.items ≡ [] → r.touched.keys ≡ [] → IsKeptState r
state_kept law s r kept is order none untouched =
    let tree_is : r.tree ≡ s.tree = ap (λ (w : WorldParts). w.document) is ∙ document_kept (world_of s) in
    let tree : IsTree r.tree = subst IsTree (sym tree_is) kept.world.tree in
    let used = tree.numbers in
    record {
      world = record {
        tree = tree;
        order = order_of_entries r.tree r.entries;
        distinct = subst IsDistinct (sym is) (law (world_of s) kept.world);
      };
      time = subst (λ (w : WorldParts). IsMoment w.time.0) (sym is) (subst (λ t. IsMoment t) (sym (ap (λ m. m.0) (time_kept (world_of s)))) kept.time);
      removed = subst (λ (rs : List Removed). All (λ x. IsMoment x.time.0) rs) (sym none) (λ k d within. absurd (omega (arith, within)));
      used = all_used r.tree r.tree.elements r.entries order used;
      quiet = λ _.
          subst (λ (ns : List ℕ). IsLeftByFrame ns (world_of r)) (sym untouched) (subst (IsLeftByFrame []) (sym is) (left_by_frame (world_of s) kept.world));
    }

-- ---- what readers of entries tell

same_item : {X : Type 0} (xs : List X) (k : ℕ) (a b : X) → k < length xs → get_or xs k a ≡ get_or xs k b
same_item [] k a b within = absurd (omega (arith, within))
same_item (x ∷ xs) zero a b within = refl
same_item (x ∷ xs) (suc k) a b within = same_item xs k a b (omega (arith, within))

-- so far and of one more
pub next_holds : {X : Type 0} (P : X → Type 0) (xs : List X) (k : ℕ) (x : X) → k < length xs → x ≡ get_or xs k x → P x → ((i : ℕ) (d : X) → i < k → P (get_or xs i d))
    → (i : ℕ) (d : X) → i < k + 1 → P (get_or xs i d)
next_holds P xs k x within is holds before i d less =
    elim (cases_lt i k) [
      | inl earlier ↦ before i d earlier
      | inr later ↦ let here : i ≡ k = omega (arith, less, later) in subst (λ n. P (get_or xs n d)) (sym here) (subst P (is ∙ same_item xs k x d within) holds)
    ]

-- ---- what removed elements had

map_twice : {X Y Z : Type 0} (f : Y → Z) (g : X → Y) (xs : List X) → map (λ x. f (g x)) xs ≡ map f (map g xs)
map_twice f g [] = refl
map_twice f g (x ∷ xs) = ap (λ zs. f (g x) ∷ zs) (map_twice f g xs)

pub whole_effects : (n : ℕ) (t : Micros) (e : EffectLists) (gone cancelled : List Gone) (animations : List AnimationState) (d0 d1 d2 d3 : List (ℕ × Gone)) → gone ≡ e.gone
    → cancelled ≡ all_cancelled e.transitions t.0 → animations ≡ e.animations
    → d1 ≡ d0 ++ map (λ g. (n, g)) gone → d2 ≡ d1 ++ map (λ g. (n, g)) cancelled → d3 ≡ d2 ++ map (λ a. (n, cancelled_animation t a)) animations
    → d3 ≡ d0 ++ map (λ g. (n, g)) (all_gone_at t e)
whole_effects n t e gone cancelled animations d0 d1 d2 d3 gone_is cancelled_is animations_is first second third =
    let f : Gone → ℕ × Gone = λ g. (n, g) in
    let ended = map (cancelled_animation t) e.animations in
    let lists : map f (all_gone_at t e) ≡ (map f e.gone ++ map f (all_cancelled e.transitions t.0)) ++ map f ended =
    map-append f (e.gone ++ all_cancelled e.transitions t.0) ended ∙ ap (λ xs. xs ++ map f ended) (map-append f e.gone (all_cancelled e.transitions t.0)) in
    third ∙ ap (λ list. d2 ++ map (λ a. (n, cancelled_animation t a)) list) animations_is ∙ ap (λ xs. d2 ++ xs) (map_twice f (cancelled_animation t) e.animations)
    ∙ ap (λ xs. xs ++ map f ended) (second ∙ ap (λ gs. d1 ++ map f gs) cancelled_is)
    ∙ ap (λ xs. (xs ++ map f (all_cancelled e.transitions t.0)) ++ map f ended) (first ∙ ap (λ gs. d0 ++ map f gs) gone_is)
    ∙ ap (λ xs. xs ++ map f ended) (append_assoc d0 (map f e.gone) (map f (all_cancelled e.transitions t.0)))
    ∙ append_assoc d0 (map f e.gone ++ map f (all_cancelled e.transitions t.0)) (map f ended) ∙ ap (λ xs. d0 ++ xs) (sym lists)
