-- The place of an element in tree order, which only what starts notes.
use Rattle.std.proofs.Common.{◌≡◌, ◌∙◌, refl, sym, ap, ℕ, zero, suc, Bool, true, false, ◌&&◌, List, [], ◌∷◌, ◌++◌, length, Option, None, Some}
use Rattle.std.specs.Prelude.{◌==◌, if◌then◌else◌, option_and_then, option_map, option_to_list, unwrap_or}
use Rattle.std.specs.List.{cons_option, filter_map}
use Rattle.animation_names.specs.Continuing.{animation_from}
use Rattle.animation_names.specs.NameLists.{NamesUpdate, name_at, names_update}
use Rattle.animation_names.specs.Numbered.{given_below}
use Rattle.animation_names.specs.Updates.{PairedLists, animation_at, animations_after, gone_after, gone_among, kept_at, paired_of}
use Rattle.change_styles.specs.Inheritance.{handed_down}
use Rattle.change_styles.specs.ThreeStyles.{after_change_style, current_style, no_animations}
use Rattle.computed_style.specs.Winners.{Declarations}
use Rattle.computed_style.specs.declared.inherited.Down.{Down}
use Rattle.doc_tree.specs.Element.{is_in, parent_of}
use Rattle.pass_core.specs.declared.step.Step.{Step}
use Rattle.pass_core.specs.declared.step.Step.TheVariants.{Kept, Updated}
use Rattle.style_data.specs.Entries.{EffectLists, EntryParts}
use Rattle.style_data.specs.TransitionSets.{TransitionSet, no_transitions, transition_set}
use Rattle.style_data.specs.declared.transition.Completed.{Completed}
use Rattle.style_data.specs.declared.gone.Gone.{Gone}
use Rattle.style_data.specs.declared.transition.Transition.{Transition}
use Rattle.transition_start.specs.Change.{Change, change_at, property_change}
use Rattle.transition_start.specs.Functions.{decision_of, rule_of}
use Rattle.transition_start.specs.Results.{decision_by, new_transition, reversing_transition}
use Rattle.transition_start.specs.Rules.{CancelsAtOnce, CancelsThere, DropsCompleted, Keeps, Replaces, Reverses, Rule, Starts, Unmatched}
use Rattle.transition_start.specs.Sampling.{sample_of}
use Rattle.transition_update.specs.Updates.{StyleChange, all_cancelled, cancelled_by, change_of, decision_for, style_change, transitions_after}
use Rattle.transition_update.specs.declared.event.StyleChangeEvent.{StyleChangeEvent}
use Rattle.value_types.specs.Properties.{all_properties}
use Rattle.value_types.specs.declared.property.PropertyId.{PropertyId}
use Rattle.value_types.specs.declared.value.Value.{Value}
use Rattle.element_step.specs.Rendering.{is_rendered}
use Rattle.element_step.specs.Quiet.{declared_in, has_no_effects, is_at_rest, moving_step, outcome_where}
use Rattle.element_step.specs.Updates.{ElementUpdate, after_of, after_parent, cancelled_from, cancelled_of, change_in, down_after, element_update, entry_after, handed_after, handed_before, handed_now, now_of, now_parent, rendered_after, settled_after, transitions_from, transitions_of}
use Rattle.element_step.specs.Works.{DocumentEvent, animated_values_in, animation_lists_after, animations_before, animations_updated, entry_with, event_at, from_parent, handed_with, outcome_with, paired_with, top_down, update_with}
use Rattle.element_step.specs.declared.quiet.QuietDown.{QuietDown}
use Rattle.element_step.proofs.Rendered.{down_is, entry_is, settled_is}
use Rattle.element_step.proofs.Working.{at_rest_is, empty_of, in_motion_is, inside_is}

-- ---- lists of what is given, of which nothing is

no_item : {A B : Type 0} (f : A → B) (o : Option A) → option_map f o ≡ None → o ≡ None
no_item f None none = refl
no_item f (Some a) none = cc

none_mapped : {A B : Type 0} (f g : A → B) (o : Option A) → option_map f o ≡ None → option_map g o ≡ option_map f o
none_mapped f g None none = refl
none_mapped f g (Some a) none = cc

none_chained : {A B : Type 0} (f g : A → Option B) → ((a : A) → f a ≡ None → g a ≡ f a) → (o : Option A) → option_and_then f o ≡ None
    → option_and_then g o ≡ option_and_then f o
none_chained f g each None none = refl
none_chained f g each (Some a) none = each a none

first_of : {Y : Type 0} (o : Option Y) (ys : List Y) → cons_option o ys ≡ [] → o ≡ None
first_of None ys empty = refl
first_of (Some y) ys empty = cc

none_listed : {X Y : Type 0} (f g : X → Option Y) → ((x : X) → f x ≡ None → g x ≡ None) → (xs : List X) → filter_map f xs ≡ [] → filter_map g xs ≡ []
none_listed f g each [] empty = refl
none_listed f g each (x ∷ xs) empty =
    let none : f x ≡ None = first_of (f x) (filter_map f xs) empty in
    ap (λ o. cons_option o (filter_map g xs)) (each x none)
    ∙ none_listed f g each xs (ap (λ o. cons_option o (filter_map f xs)) (sym none) ∙ empty)

same_listed : {X Y : Type 0} (f g : X → Option Y) → ((x : X) → f x ≡ g x) → (xs : List X) → filter_map f xs ≡ filter_map g xs
same_listed f g each [] = refl
same_listed f g each (x ∷ xs) = ap (λ o. cons_option o (filter_map f xs)) (each x) ∙ ap (cons_option (g x)) (same_listed f g each xs)

both_empty : {X : Type 0} (xs ys : List X) → xs ++ ys ≡ [] → (xs ≡ []) × (ys ≡ [])
both_empty [] ys empty = (refl, empty)
both_empty (x ∷ xs) ys empty = cc

not_listed : {X : Type 0} (o : Option X) → option_to_list o ≡ [] → o ≡ None
not_listed None empty = refl
not_listed (Some x) empty = cc

none_below : {X : Type 0} (f g : ℕ → Option X) → ((i : ℕ) → f i ≡ None → g i ≡ None) → (n : ℕ) → given_below f n ≡ [] → given_below g n ≡ []
unfolding given_below
none_below f g each zero empty = refl
none_below f g each (suc n) empty =
    let (before, last) = both_empty (given_below f n) (option_to_list (f n)) empty in
    ap (λ xs. xs ++ option_to_list (g n)) (none_below f g each n before) ∙ ap option_to_list (each n (not_listed (f n) last))

-- ---- transitions

-- the event of an element at another place
abbrev event_placed : StyleChangeEvent → ℕ → StyleChangeEvent
event_placed event k = record { time = event.time; generation = event.generation; position = k }

abbrev change_placed : Change → ℕ → Change
change_placed x k =
    change_at (property_change x.event.property x.event.before x.event.after x.event.time.0 x.event.generation k) x.running x.completed x.matched

abbrev style_placed : StyleChange → ℕ → StyleChange
style_placed x k = style_change x.before x.after (event_placed x.event k)

rule_placed : (x : Change) (k : ℕ) → rule_of (change_placed x k) ≡ rule_of x
unfolding rule_of
rule_placed x k = refl

-- what is left of the completed one, and of the one that is cancelled, doesn't note the place
completed_by : (x : Change) (k : ℕ) (rule : Rule) → (decision_by (change_placed x k) rule).completed ≡ (decision_by x rule).completed
completed_by x k Unmatched = refl
completed_by x k Starts = refl
completed_by x k DropsCompleted = refl
completed_by x k CancelsThere = refl
completed_by x k CancelsAtOnce = refl
completed_by x k Reverses = refl
completed_by x k Replaces = refl
completed_by x k Keeps = refl

gone_by : (x : Change) (k : ℕ) (rule : Rule) → (decision_by (change_placed x k) rule).gone ≡ (decision_by x rule).gone
gone_by x k Unmatched = refl
gone_by x k Starts = refl
gone_by x k DropsCompleted = refl
gone_by x k CancelsThere = refl
gone_by x k CancelsAtOnce = refl
gone_by x k Reverses = refl
gone_by x k Replaces = refl
gone_by x k Keeps = refl

-- where nothing runs after a rule, nothing does at another place
none_by : (x : Change) (k : ℕ) (rule : Rule) → (decision_by x rule).running ≡ None → (decision_by (change_placed x k) rule).running ≡ None
none_by x k Unmatched none = refl
none_by x k Starts none =
    none_mapped (λ m. new_transition x.event m x.event.before) (λ m. new_transition (change_placed x k).event m x.event.before) x.matched none ∙ none
none_by x k DropsCompleted none = refl
none_by x k CancelsThere none = refl
none_by x k CancelsAtOnce none = refl
none_by x k Reverses none =
    none_chained (λ r. option_map (λ m. reversing_transition x.event m r) x.matched) (λ r. option_map (λ m. reversing_transition (change_placed x k).event m r) x.matched)
    (λ r. none_mapped (λ m. reversing_transition x.event m r) (λ m. reversing_transition (change_placed x k).event m r) x.matched) x.running none
    ∙ none
none_by x k Replaces none =
    let from : Transition → Value = λ r. sample_of x.event.property r x.event.time.0 in
    none_chained (λ r. option_map (λ m. new_transition x.event m (from r)) x.matched) (λ r. option_map (λ m. new_transition (change_placed x k).event m (from r)) x.matched)
    (λ r. none_mapped (λ m. new_transition x.event m (from r)) (λ m. new_transition (change_placed x k).event m (from r)) x.matched) x.running none
    ∙ none
none_by x k Keeps none = none

completed_placed : (x : StyleChange) (k : ℕ) (ts : TransitionSet) (p : PropertyId) → (decision_for (style_placed x k) ts p).completed ≡ (decision_for x ts p).completed
unfolding decision_for decision_of
completed_placed x k ts p =
    let c = change_of x ts p in
    ap (λ rule. (decision_by (change_placed c k) rule).completed) (rule_placed c k) ∙ completed_by c k (rule_of c)

gone_placed : (x : StyleChange) (k : ℕ) (ts : TransitionSet) (p : PropertyId) → (decision_for (style_placed x k) ts p).gone ≡ (decision_for x ts p).gone
unfolding decision_for decision_of
gone_placed x k ts p =
    let c = change_of x ts p in
    ap (λ rule. (decision_by (change_placed c k) rule).gone) (rule_placed c k) ∙ gone_by c k (rule_of c)

none_placed : (x : StyleChange) (k : ℕ) (ts : TransitionSet) (p : PropertyId) → (decision_for x ts p).running ≡ None → (decision_for (style_placed x k) ts p).running ≡ None
unfolding decision_for decision_of
none_placed x k ts p none =
    let c = change_of x ts p in
    ap (λ rule. (decision_by (change_placed c k) rule).running) (rule_placed c k) ∙ none_by c k (rule_of c) none

-- where no transition is left, the same is left at another place
set_placed : (x : StyleChange) (k : ℕ) (ts : TransitionSet) → (transitions_after x ts).running ≡ [] → transitions_after (style_placed x k) ts ≡ transitions_after x ts
set_placed x k ts none =
    let y = style_placed x k in
    let running : StyleChange → PropertyId → Option (PropertyId × Transition) = λ z p. option_map (λ r. (p, r)) (decision_for z ts p).running in
    let completed : StyleChange → PropertyId → Option (PropertyId × Completed) = λ z p. option_map (λ c. (p, c)) (decision_for z ts p).completed in
    ap (λ rs. transition_set rs (filter_map (completed y) all_properties))
    (none_listed (running x) (running y) (λ p empty. ap (option_map (λ r. (p, r))) (none_placed x k ts p (no_item (λ r. (p, r)) (decision_for x ts p).running empty))) all_properties none
    ∙ sym none)
    ∙ ap (transition_set (filter_map (running x) all_properties))
    (same_listed (completed y) (completed x) (λ p. ap (option_map (λ c. (p, c))) (completed_placed x k ts p)) all_properties)

cancelled_placed : (x : StyleChange) (k : ℕ) (ts : TransitionSet) → cancelled_by (style_placed x k) ts ≡ cancelled_by x ts
cancelled_placed x k ts =
    same_listed (λ p. (decision_for (style_placed x k) ts p).gone) (λ p. (decision_for x ts p).gone) (gone_placed x k ts) all_properties

-- ---- animations

names_placed : (u : NamesUpdate) (k : ℕ) → animations_after u ≡ [] → animations_after (names_update u.old u.lists u.sheets u.time u.generation k) ≡ []
unfolding animations_after
names_placed u k none =
    let v = names_update u.old u.lists u.sheets u.time u.generation k in
    none_below (animation_at u) (animation_at v)
    (λ i empty. none_mapped (λ name. animation_from u i name (kept_at u.old u.lists.names i name)) (λ name. animation_from v i name (kept_at u.old u.lists.names i name)) (name_at u i) empty
    ∙ empty)
    (length u.lists.names) none

-- where no animation is left, the same end at another place
paired_placed : (u : NamesUpdate) (k : ℕ) → animations_after u ≡ []
    → paired_of u.old u.lists u.sheets u.time u.generation k ≡ paired_of u.old u.lists u.sheets u.time u.generation u.position
unfolding gone_after
paired_placed u k none =
    ap (λ xs. let both : PairedLists = record { animations = xs; gone = gone_among u.time u.old xs } in both) (names_placed u k none ∙ sym none)

-- ---- the update

abbrev update_placed : ElementUpdate → ℕ → ElementUpdate
update_placed x k = element_update x.entry x.declared x.parent x.old x.new x.animations x.root_size (event_placed x.event k)

left_placed : (x : ElementUpdate) (k : ℕ) → (transitions_of x).running ≡ [] → transitions_of (update_placed x k) ≡ transitions_of x
unfolding transitions_of
left_placed x k = go (rendered_after x) x.entry.rendered where
  ts : TransitionSet
  ts = x.entry.effects.transitions

  go : (shown was : Bool) → (if shown then transitions_from was (change_in x) ts else no_transitions).running ≡ []
      → (if shown then transitions_from was (change_in (update_placed x k)) ts else no_transitions) ≡ (if shown then transitions_from was (change_in x) ts else no_transitions)
  go false was none = refl
  go true false none = refl
  go true true none = set_placed (change_in x) k ts none

ended_placed : (x : ElementUpdate) (k : ℕ) → cancelled_of (update_placed x k) ≡ cancelled_of x
unfolding cancelled_of
ended_placed x k = go (rendered_after x) x.entry.rendered where
  ts : TransitionSet
  ts = x.entry.effects.transitions

  ends : Bool → Bool → ElementUpdate → List Gone
  ends shown was y = (if shown then cancelled_from was (change_in y) ts else all_cancelled ts x.event.time.0)

  go : (shown was : Bool) → ends shown was (update_placed x k) ≡ ends shown was x
  go false was = refl
  go true false = refl
  go true true = cancelled_placed (change_in x) k ts

now_placed : (x : ElementUpdate) (k : ℕ) → (transitions_of x).running ≡ [] → now_of (update_placed x k) ≡ now_of x
unfolding now_of
now_placed x k none =
    ap (λ (ts : TransitionSet). (if rendered_after x then current_style x.declared x.new ts.running x.event.time.0 (now_parent x.parent)
    else current_style x.declared no_animations [] x.event.time.0 (now_parent x.parent))) (left_placed x k none)

after_placed : (x : ElementUpdate) (k : ℕ) → (transitions_of x).running ≡ [] → after_of (update_placed x k) ≡ after_of x
unfolding after_of
after_placed x k none = ap (λ now. (if rendered_after x then after_change_style x.declared x.old (after_parent x.parent) else now)) (now_placed x k none)

settled_placed : (x : ElementUpdate) (k : ℕ) → (transitions_of x).running ≡ [] → settled_after x ≡ settled_after (update_placed x k)
settled_placed x k none =
    sym (settled_is x (transitions_of x) (after_of x) (now_of x) refl refl refl)
    ∙ settled_is (update_placed x k) (transitions_of x) (after_of x) (now_of x) (sym (left_placed x k none)) (sym (after_placed x k none)) (sym (now_placed x k none))

-- where no transition is left, the entry and what is handed down are those of another place
entry_placed : (x : ElementUpdate) (k : ℕ) (gone : List Gone) → (transitions_of x).running ≡ [] → entry_after (update_placed x k) gone ≡ entry_after x gone
entry_placed x k gone none =
    sym (entry_is (update_placed x k) gone (rendered_after x) (settled_after x) (now_of x) (transitions_of x) (cancelled_of x) refl (settled_placed x k none) (sym (now_placed x k none)) (sym (left_placed x k none)) (sym (ended_placed x k)))
    ∙ entry_is x gone (rendered_after x) (settled_after x) (now_of x) (transitions_of x) (cancelled_of x) refl refl refl refl refl

handed_placed : (x : ElementUpdate) (k : ℕ) → (transitions_of x).running ≡ [] → down_after (update_placed x k) ≡ down_after x
handed_placed x k none =
    sym
    (down_is (update_placed x k) (handed_before x) (handed_after x) (handed_now x) (rendered_after x) refl
    (ap (handed_down (if rendered_after x then after_parent x.parent else now_parent x.parent)) (sym (after_placed x k none)))
    (ap (handed_down (now_parent x.parent)) (sym (now_placed x k none))) refl)
    ∙ down_is x (handed_before x) (handed_after x) (handed_now x) (rendered_after x) refl refl refl refl

-- ---- the outcome

-- an update that leaves no transition and no animation
record LeavesNone (e : EffectLists) : Type 0 where
  running : e.transitions.running ≡ []
  animations : e.animations ≡ []

both_true : (a b : Bool) → (a && b) ≡ true → (a ≡ true) × (b ≡ true)
both_true true b is = (refl, is)
both_true false b is = cc

none_left : (e : EffectLists) → has_no_effects e ≡ true → LeavesNone e
none_left e none =
    let (others, gone) = both_true _ (length e.gone == 0) none in
    let (transitions, animations) = both_true _ (length e.animations == 0) others in
    let (running, completed) = both_true (length e.transitions.running == 0) (length e.transitions.completed == 0) transitions in
    record { running = empty_of e.transitions.running running; animations = empty_of e.animations animations }

module _ (w : DocumentEvent) (n m : ℕ) (entry : EntryParts) (d : Declarations) (parent : Option Down) (none : has_no_effects (entry_with w n entry d parent).effects ≡ true) where
  left : LeavesNone (entry_with w n entry d parent).effects
  left = none_left (entry_with w n entry d parent).effects none

  running : (transitions_of (update_with w n entry d parent)).running ≡ []
  unfolding entry_after
  running = left.running

  animations : (paired_with w n entry d parent).animations ≡ []
  unfolding entry_after
  animations = left.animations

  pairs : paired_with w m entry d parent ≡ paired_with w n entry d parent
  unfolding animations_updated
  pairs =
      let shown = is_rendered d parent in
      paired_placed (names_update (animations_before shown entry) (animation_lists_after shown d) w.sheets w.time w.generation (event_at w n).position) (event_at w m).position animations

  update : update_with w m entry d parent ≡ update_placed (update_with w n entry d parent) (event_at w m).position
  update =
      ap (λ (p : PairedLists). element_update entry d parent (animated_values_in w w.old entry.effects.animations) (animated_values_in w w.sheets p.animations) p.animations w.root_size (event_at w m)) pairs

  same_entry : entry_with w m entry d parent ≡ entry_with w n entry d parent
  same_entry =
      ap (λ (x : ElementUpdate). entry_after x (paired_with w m entry d parent).gone) update
      ∙ ap (λ (p : PairedLists). entry_after (update_placed (update_with w n entry d parent) (event_at w m).position) p.gone) pairs
      ∙ entry_placed (update_with w n entry d parent) (event_at w m).position (paired_with w n entry d parent).gone running

  same_down : handed_with w m entry d parent ≡ handed_with w n entry d parent
  same_down = ap down_after update ∙ handed_placed (update_with w n entry d parent) (event_at w m).position running

-- the outcome of an element in the tree, where it leaves no effects, is that of another one under the same parent
pub outcome_placed : (w : DocumentEvent) (n m : ℕ) (entry : EntryParts) (d : Declarations) (down : Down) → is_in n w.document.elements ≡ true → is_in m w.document.elements ≡ true
    → parent_of n w.document.elements ≡ parent_of m w.document.elements → has_no_effects (entry_with w n entry d (from_parent w n down)).effects ≡ true
    → outcome_with w m entry d down ≡ outcome_with w n entry d down
outcome_placed w n m entry d down here there parent none =
    let above = from_parent w n down in
    sym (inside_is w m entry d down there)
    ∙ ap (λ (p : Option Down). let s : Step EntryParts Down = Updated (entry_with w m entry d p) (handed_with w m entry d p) in s) (ap (option_map (λ (_ : ℕ). down)) (sym parent))
    ∙ ap (λ e. let s : Step EntryParts Down = Updated e (handed_with w m entry d above) in s) (same_entry w n m entry d above none)
    ∙ ap (λ h. let s : Step EntryParts Down = Updated (entry_with w n entry d above) h in s) (same_down w n m entry d above none)
    ∙ inside_is w n entry d down here

entry_of : (w : DocumentEvent) (n : ℕ) (entry after : EntryParts) (d : Declarations) (down handed : Down) → is_in n w.document.elements ≡ true
    → outcome_with w n entry d down ≡ Updated after handed → entry_with w n entry d (from_parent w n down) ≡ after
entry_of w n entry after d down handed here is =
    let same : Updated (entry_with w n entry d (from_parent w n down)) (handed_with w n entry d (from_parent w n down)) ≡ Updated after handed = inside_is w n entry d down here ∙ is in
    cc

pub places_alike : (w : DocumentEvent) (n m : ℕ) (entry after : EntryParts) (d : Declarations) (down handed : Down) → is_in n w.document.elements ≡ true
    → is_in m w.document.elements ≡ true → parent_of n w.document.elements ≡ parent_of m w.document.elements → outcome_with w n entry d down ≡ Updated after handed
    → has_no_effects after.effects ≡ true → outcome_with w m entry d down ≡ Updated after handed
places_alike w n m entry after d down handed here there parent is none =
    outcome_placed w n m entry d down here there parent
    (ap (λ (e : EntryParts). has_no_effects e.effects) (entry_of w n entry after d down handed here is) ∙ none)
    ∙ is

-- the same of the pass over elements that aren't at rest
moved_entry : (untouched : Bool) (s : Step EntryParts Down) (e after : EntryParts) (h : Down) (handed : QuietDown) → Updated e h ≡ s → moving_step untouched s ≡ Updated after handed → e ≡ after
moved_entry untouched (Updated f g) e after h handed same is = cc
moved_entry untouched (Kept g) e after h handed same is = cc

module _ (untouched : Bool) (w : DocumentEvent) (n m : ℕ) (entry after : EntryParts) (down handed : QuietDown) (here : is_in n w.document.elements ≡ true) (there : is_in m w.document.elements ≡ true)
    (parent : parent_of n w.document.elements ≡ parent_of m w.document.elements) (declared : declared_in untouched w n entry ≡ declared_in untouched w m entry)
    (is : outcome_where untouched w n entry down ≡ Updated after handed) (none : has_no_effects after.effects ≡ true) where
  by_rest : (b : Bool) → (untouched && down.rests && is_at_rest entry) ≡ b → outcome_where untouched w m entry down ≡ outcome_where untouched w n entry down
  by_rest true rests = sym (at_rest_is untouched w m entry down rests) ∙ at_rest_is untouched w n entry down rests
  by_rest false moves =
      let d = declared_in untouched w n entry in
      let over = unwrap_or down.parent top_down in
      let moved = in_motion_is untouched w n entry down moves in
      let same = moved_entry untouched (outcome_with w n entry d over) (entry_with w n entry d (from_parent w n over)) after (handed_with w n entry d (from_parent w n over)) handed (inside_is w n entry d over here) (moved ∙ is) in
      sym (in_motion_is untouched w m entry down moves)
      ∙ ap (λ e. moving_step untouched (outcome_with w m entry e over)) (sym declared)
      ∙ ap (moving_step untouched) (outcome_placed w n m entry d over here there parent (ap (λ (e : EntryParts). has_no_effects e.effects) same ∙ none))
      ∙ moved

  pub quiet_places_alike : outcome_where untouched w m entry down ≡ Updated after handed
  quiet_places_alike = by_rest (untouched && down.rests && is_at_rest entry) refl ∙ is
