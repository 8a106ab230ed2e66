-- An element's update where nothing has changed since the event before, none of its transitions runs or has completed, and its animations are paused.
use Rattle.std.proofs.Common.{◌≡◌, ℕ, refl, ap, sym, ◌∙◌, append-nil, Bool, true, false, ◌&&◌, List, [], ◌++◌, length, Option}
use Rattle.std.specs.Prelude.{ℤ, ◌==◌, All, IsSome, if◌then◌else◌}
use Rattle.std.specs.List.{list_all}
use Rattle.animation_names.specs.NameLists.{NamesUpdate, names_update}
use Rattle.animation_names.specs.Samples.{samples_of}
use Rattle.animation_names.specs.Updates.{AreAnimationsOf, PairedLists, animations_after, gone_after, paired_of}
use Rattle.change_styles.specs.ThreeStyles.{after_change_style, current_style, no_animations, own_sources, style_over, transitioned_at, unrendered_sources}
use Rattle.computed_style.specs.ComputedStyles.{AnimatedValues}
use Rattle.computed_style.specs.Styles.{ComputedStyle, value_of}
use Rattle.computed_style.specs.Winners.{Declarations}
use Rattle.computed_style.specs.declared.inherited.Down.{Down}
use Rattle.computed_style.specs.declared.inherited.InheritedValues.{InheritedValues}
use Rattle.doc_tree.specs.Element.{Document}
use Rattle.element_step.specs.Rendering.{is_rendered}
use Rattle.element_step.proofs.Rendered.{same_itself}
use Rattle.element_step.specs.Settling.{has_ended, have_same_values}
use Rattle.element_step.specs.Updates.{ElementUpdate, after_of, after_parent, before_parent, cancelled_from, cancelled_of, change_in, element_update, entry_after, now_of, now_parent, rendered_after, settled_after, transitions_from, transitions_of}
use Rattle.element_step.specs.Works.{DocumentEvent, animated_values_in, animation_lists_after, animations_before, animations_updated, document_event, element_declarations, entry_at, event_at, paired_at, update_at}
use Rattle.fix_num.specs.declared.units.Fix.{Fix}
use Rattle.fix_num.specs.declared.units.Micros.{Micros}
use Rattle.keyframes.specs.SampleLists.{value_of_samples}
use Rattle.sheet_types.specs.Sheets.{SheetRules}
use Rattle.style_data.specs.Entries.{EntryParts, effect_lists}
use Rattle.style_data.specs.TransitionSets.{TransitionSet, no_transitions}
use Rattle.style_data.specs.declared.animation.AnimationState.{AnimationState}
use Rattle.style_data.specs.declared.gone.Gone.{Gone}
use Rattle.timing_types.specs.TimingLists.{AnimationValues}
use Rattle.transition_update.specs.Updates.{StyleChange, all_cancelled, cancelled_by, transitions_after}
use Rattle.transition_update.specs.declared.event.StyleChangeEvent.{StyleChangeEvent}
use Rattle.value_types.specs.Properties.{all_properties}
use Rattle.value_types.specs.declared.property.PropertyId.{PropertyId}
use Rattle.restyle.specs.Rest.{GiveTheSame}
use Rattle.restyle.specs.StyleChanges.{before_of}

-- what lower crates prove of a change that is none, of names that are the same, and of animations that are paused
pub record StillLaws : Type 0 where
  pub starts : (x : StyleChange) → ((p : PropertyId) → value_of x.before p ≡ value_of x.after p) → transitions_after x no_transitions ≡ no_transitions
  pub cancels : (x : StyleChange) → ((p : PropertyId) → value_of x.before p ≡ value_of x.after p) → cancelled_by x no_transitions ≡ []
  pub same : (u : NamesUpdate) → AreAnimationsOf u.lists u.sheets u.old → (animations_after u ≡ u.old) × (gone_after u ≡ [])
  pub after : (u : NamesUpdate) → AreAnimationsOf u.lists u.sheets (animations_after u)
  pub paused : (animations : List AnimationState) (sheets : List (Option SheetRules)) (t later : ℤ) → All (λ a. IsSome a.hold) animations
      → samples_of animations sheets later ≡ samples_of animations sheets t

-- the style of an element without transitions, over what it inherits
abbrev pub still_style : Bool → Declarations → AnimatedValues → Option InheritedValues → ComputedStyle
still_style rendered d values parent = (if rendered then style_over (own_sources d values []) parent else style_over (unrendered_sources d) parent)

-- of what the parent hands down the three styles are one, where the element is rendered
pub record InheritsOne (rendered : Bool) (parent : Option Down) (inherited : Option InheritedValues) : Type 0 where
  pub now : now_parent parent ≡ inherited
  pub before : rendered ≡ true → before_parent parent ≡ inherited
  pub after : rendered ≡ true → after_parent parent ≡ inherited

-- the entry after the event is the one before it
pub record StaysSame (was now : EntryParts) : Type 0 where
  pub styles : GiveTheSame was now
  pub effects : now.effects ≡ was.effects

-- ---- the update

module _ (laws : StillLaws) (e : EntryParts) (parent : Option Down) (values : AnimatedValues) (inherited : Option InheritedValues) (root : Option Fix) (event : StyleChangeEvent)
    (none : e.effects.transitions ≡ no_transitions) (rendered : is_rendered e.declared parent ≡ e.rendered) (one : InheritsOne e.rendered parent inherited)
    (style : e.now ≡ still_style e.rendered e.declared values inherited) where
  abbrev x : ElementUpdate
  x = element_update e e.declared parent values values e.effects.animations root event

  style_on : e.rendered ≡ true → e.now ≡ style_over (own_sources e.declared values []) inherited
  style_on on = style ∙ ap (λ r. still_style r e.declared values inherited) on

  before_is : e.rendered ≡ true → before_of x ≡ style_over (own_sources e.declared values []) inherited
  before_is on =
      ap (λ (ts : TransitionSet). style_over (own_sources e.declared values (transitioned_at ts.running event.time.0)) (before_parent parent)) none
      ∙ ap (style_over (own_sources e.declared values [])) (one.before on)

  after_is : e.rendered ≡ true → after_change_style e.declared values (after_parent parent) ≡ style_over (own_sources e.declared values []) inherited
  after_is on = ap (style_over (own_sources e.declared values [])) (one.after on)

  no_change : e.rendered ≡ true → (p : PropertyId) → value_of (change_in x).before p ≡ value_of (change_in x).after p
  no_change on p = ap (λ s. value_of s p) (before_is on ∙ sym (after_is on))

  abbrev left_from : Bool → Bool → TransitionSet → TransitionSet
  left_from shown was ts = (if shown then transitions_from was (change_in x) ts else no_transitions)

  none_left : transitions_of x ≡ no_transitions
  unfolding transitions_of
  none_left = at e.rendered refl
    where
      at : (b : Bool) → e.rendered ≡ b → left_from (is_rendered e.declared parent) e.rendered e.effects.transitions ≡ no_transitions
      at true on =
          ap (λ b. left_from b e.rendered e.effects.transitions) (rendered ∙ on) ∙ ap (λ b. left_from true b e.effects.transitions) on
          ∙ ap (left_from true true) none ∙ laws.starts (change_in x) (no_change on)
      at false off = ap (λ b. left_from b e.rendered e.effects.transitions) (rendered ∙ off)

  abbrev lost_from : Bool → Bool → TransitionSet → List Gone
  lost_from shown was ts = (if shown then cancelled_from was (change_in x) ts else all_cancelled ts event.time.0)

  none_cancelled : cancelled_of x ≡ []
  unfolding cancelled_of
  none_cancelled = at e.rendered refl
    where
      at : (b : Bool) → e.rendered ≡ b → lost_from (is_rendered e.declared parent) e.rendered e.effects.transitions ≡ []
      at true on =
          ap (λ b. lost_from b e.rendered e.effects.transitions) (rendered ∙ on) ∙ ap (λ b. lost_from true b e.effects.transitions) on
          ∙ ap (lost_from true true) none ∙ laws.cancels (change_in x) (no_change on)
      at false off = ap (λ b. lost_from b e.rendered e.effects.transitions) (rendered ∙ off) ∙ ap (lost_from false e.rendered) none

  pub same_now : now_of x ≡ e.now
  unfolding now_of
  same_now =
      ap (λ (ts : TransitionSet).
      if rendered_after x then current_style e.declared values ts.running event.time.0 (now_parent parent) else current_style e.declared no_animations [] event.time.0 (now_parent parent)) none_left
      ∙ ap (λ i. still_style (rendered_after x) e.declared values i) one.now ∙ ap (λ r. still_style r e.declared values inherited) rendered ∙ sym style

  pub same_before : e.rendered ≡ true → before_of x ≡ e.now
  same_before on = before_is on ∙ sym (style_on on)

  pub same_after : e.rendered ≡ true → after_of x ≡ e.now
  unfolding after_of
  same_after on =
      ap (λ b. if b then after_change_style e.declared values (after_parent parent) else now_of x) (rendered ∙ on) ∙ after_is on ∙ sym (style_on on)

  -- the after-change style is the current one
  pub one_style : after_of x ≡ now_of x
  unfolding after_of
  one_style = at e.rendered refl
    where
      at : (b : Bool) → e.rendered ≡ b → (if rendered_after x then after_change_style e.declared values (after_parent parent) else now_of x) ≡ now_of x
      at true on = same_after on ∙ sym same_now
      at false off = ap (λ b. if b then after_change_style e.declared values (after_parent parent) else now_of x) (rendered ∙ off)

  -- so it is settled, where it has no animation
  pub stays_settled : e.effects.animations ≡ [] → (entry_after x []).settled ≡ true
  unfolding entry_after settled_after
  stays_settled none_run =
      ap (λ (ts : TransitionSet). (length ts.running == 0) && list_all (has_ended event.time.0) e.effects.animations && have_same_values (after_of x) (now_of x)) none_left
      ∙ ap (λ list. list_all (has_ended event.time.0) list && have_same_values (after_of x) (now_of x)) none_run ∙ ap (λ s. have_same_values s (now_of x)) one_style
      ∙ same_itself (now_of x) all_properties

  pub stays : e.styled ≡ true → StaysSame e (entry_after x [])
  unfolding entry_after
  stays styled = record {
    styles = record { styled = sym styled; rendered = rendered; declared = refl; style = same_now };
    effects =
        ap (λ ts. effect_lists ts e.effects.animations (e.effects.gone ++ cancelled_of x ++ [])) (none_left ∙ sym none)
        ∙ ap (λ gone. effect_lists e.effects.transitions e.effects.animations (e.effects.gone ++ gone ++ [])) none_cancelled
        ∙ ap (λ gone. effect_lists e.effects.transitions e.effects.animations gone) (append-nil (e.effects.gone ++ []) ∙ append-nil e.effects.gone);
  }

-- ---- of an element of the document

-- the next event, of this document: its sheets before are those of the event, and so are its sheets of now
abbrev pub event_after : DocumentEvent → Document → Micros → ℕ → Option Fix → DocumentEvent
event_after w d t generation root = document_event t generation d w.sheets w.sheets root

-- the same where nothing has changed but the time
abbrev pub quiet_event : DocumentEvent → Micros → ℕ → Option Fix → DocumentEvent
quiet_event w t generation root = event_after w w.document t generation root

-- what the entry's animations give at a time
abbrev pub still_values : DocumentEvent → ℤ → EntryParts → AnimatedValues
still_values w t e = value_of_samples (samples_of e.effects.animations w.sheets t)

-- the element's update then, where its animations stay
abbrev pub still_update : DocumentEvent → Document → Micros → ℕ → Option Fix → ℕ → EntryParts → Option Down → ElementUpdate
still_update w d t generation root n e parent =
    element_update e e.declared parent (still_values w t.0 e) (still_values w t.0 e) e.effects.animations root (event_at (event_after w d t generation root) n)

abbrev pair : List AnimationState → List Gone → PairedLists
pair animations gone = record { animations = animations; gone = gone }

kept : (b : Bool) (list : List AnimationState) → (if b then if b then list else [] else list) ≡ list
kept true list = refl
kept false list = refl

module _ (laws : StillLaws) (w : DocumentEvent) (d : Document) (t : Micros) (generation : ℕ) (root : Option Fix) (n : ℕ) (e : EntryParts) (parent : Option Down)
    (declared : e.declared ≡ element_declarations (event_after w d t generation root) n) (rendered : is_rendered e.declared parent ≡ e.rendered)
    (animations : AreAnimationsOf (animation_lists_after e.rendered e.declared) w.sheets e.effects.animations) where
  abbrev next : DocumentEvent
  next = event_after w d t generation root

  abbrev names : List AnimationState → AnimationValues → NamesUpdate
  names list lists = names_update list lists w.sheets t generation (event_at next n).position

  abbrev pairs : List AnimationState → AnimationValues → PairedLists
  pairs list lists = paired_of list lists w.sheets t generation (event_at next n).position

  abbrev pairs_from : Bool → Declarations → PairedLists
  pairs_from r d = pairs (animations_before r e) (animation_lists_after r d)

  same_paired : paired_at next n e parent ≡ pair e.effects.animations []
  unfolding animations_updated
  same_paired =
      let same = laws.same (names e.effects.animations (animation_lists_after e.rendered e.declared)) animations in
      ap (λ d. pairs_from (is_rendered d parent) d) (sym declared) ∙ ap (λ r. pairs_from r e.declared) rendered
      ∙ ap (λ list. pairs list (animation_lists_after e.rendered e.declared)) (kept e.rendered e.effects.animations)
      ∙ ap (λ list. pair list (gone_after (names e.effects.animations (animation_lists_after e.rendered e.declared)))) same.0 ∙ ap (pair e.effects.animations) same.1

  pub same_update : update_at next n e parent ≡ still_update w d t generation root n e parent
  unfolding update_at
  same_update =
      ap (λ d. element_update e d parent (still_values w t.0 e) (animated_values_in next w.sheets (paired_at next n e parent).animations) (paired_at next n e parent).animations root (event_at next n)) (sym declared)
      ∙ ap (λ (p : PairedLists). element_update e e.declared parent (still_values w t.0 e) (animated_values_in next w.sheets p.animations) p.animations root (event_at next n)) same_paired

  pub same_entry : entry_at next n e parent ≡ entry_after (still_update w d t generation root n e parent) []
  same_entry =
      ap (λ x. entry_after x (paired_at next n e parent).gone) same_update
      ∙ ap (λ (p : PairedLists). entry_after (still_update w d t generation root n e parent) p.gone) same_paired
