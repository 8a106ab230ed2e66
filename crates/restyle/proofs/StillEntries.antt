-- What an event and a tick leave of an element of which nothing runs.
use Rattle.std.proofs.Common.{◌≡◌, ℕ, zero, suc, refl, ap, sym, ◌∙◌, Bool, true, ◌&&◌, List, [], ◌∷◌, ◌++◌, map, length, Option, Some, None}
use Rattle.std.specs.Prelude.{ℤ, ◌==◌, All, IsSome, option_map, if◌then◌else◌}
use Rattle.std.specs.List.{cons_option, list_all}
use Rattle.std.specs.Option.{option_to_list}
use Rattle.std.proofs.lemmas.Bool.{and_parts}
use Rattle.std.proofs.lemmas.List.{map-append}
use Rattle.std.proofs.lemmas.List.Elements.{All-cons, All-head, All-nil, All-tail}
use Rattle.animation_names.specs.NameLists.{animated_at, has_keyframes, names_update}
use Rattle.animation_names.specs.Numbered.{given_below}
use Rattle.animation_names.specs.Samples.{sample_of_animation, samples_of}
use Rattle.animation_names.specs.Updates.{AreAnimationsOf, IsAnimationOf}
use Rattle.change_styles.specs.ThreeStyles.{current_style, no_animations}
use Rattle.computed_style.specs.Winners.{Declarations}
use Rattle.computed_style.specs.declared.inherited.Down.{Down}
use Rattle.element_step.proofs.Working.{empty_of}
use Rattle.element_step.specs.Rendering.{is_rendered}
use Rattle.element_step.specs.Settling.{has_ended, have_same_values}
use Rattle.element_step.specs.Updates.{after_of, entry_after, now_of, now_parent, settled_after, transitions_of}
use Rattle.element_step.specs.Works.{DocumentEvent, animation_lists_after, animations_before, animations_updated, element_declarations, entry_at, event_at, paired_at, update_at}
use Rattle.keyframes.specs.SampleLists.{value_of_samples}
use Rattle.sheet_types.specs.Sheets.{SheetRules}
use Rattle.style_data.specs.Entries.{EntryParts}
use Rattle.style_data.specs.TransitionSets.{TransitionSet, no_transitions}
use Rattle.style_data.specs.declared.animation.AnimationState.{AnimationState}
use Rattle.ticker.specs.Ticks.{ticked_animation, ticked_effects, ticked_transitions}
use Rattle.timing_types.specs.TimingLists.{AnimationValues}
use Rattle.restyle.specs.Rest.{IsStill}
use Rattle.restyle.specs.StyleChanges.{StylesAbove, inherited_above}
use Rattle.restyle.proofs.QuietEvents.{IsLeftStill}
use Rattle.restyle.proofs.QuietUpdates.{StillLaws, still_style}

-- ---- paused animations

abbrev ArePaused : List AnimationState → Type 0
ArePaused animations = All (λ a. IsSome a.hold) animations

-- a tick changes nothing of what is sampled
samples_ticked : (sheets : List (Option SheetRules)) (t now : ℤ) (animations : List AnimationState)
    → samples_of (map (ticked_animation now) animations) sheets t ≡ samples_of animations sheets t
samples_ticked sheets t now [] = refl
samples_ticked sheets t now (a ∷ animations) = ap (cons_option (sample_of_animation sheets t a)) (samples_ticked sheets t now animations)

paused_ticked : (now : ℤ) (animations : List AnimationState) → ArePaused animations → ArePaused (map (ticked_animation now) animations)
paused_ticked now [] paused = All-nil (λ (a : AnimationState). IsSome a.hold)
paused_ticked now (a ∷ animations) paused =
    All-cons (λ (x : AnimationState). IsSome x.hold) (ticked_animation now a) (map (ticked_animation now) animations) (All-head (λ (x : AnimationState). IsSome x.hold) a animations paused)
    (paused_ticked now animations (All-tail (λ (x : AnimationState). IsSome x.hold) a animations paused))

listed : {X Y : Type 0} (f : X → Y) (o : Option X) → map f (option_to_list o) ≡ option_to_list (option_map f o)
listed f None = refl
listed f (Some x) = refl

given-map : {X Y : Type 0} (f : X → Y) (give : ℕ → Option X) (n : ℕ) → map f (given_below give n) ≡ given_below (λ i. option_map f (give i)) n
unfolding given_below
given-map f give zero = refl
given-map f give (suc n) =
    map-append f (given_below give n) (option_to_list (give n)) ∙ ap (λ xs. xs ++ map f (option_to_list (give n))) (given-map f give n)
    ∙ ap (λ xs. given_below (λ i. option_map f (give i)) n ++ xs) (listed f (give n))

ticked_one : (lists : AnimationValues) (i : ℕ) (now : ℤ) (name : Option (List ℕ)) (o : Option AnimationState) → IsAnimationOf lists i name o
    → IsAnimationOf lists i name (option_map (ticked_animation now) o)
ticked_one lists i now None None is = is
ticked_one lists i now None (Some a) is = is
ticked_one lists i now (Some name) None is = is
ticked_one lists i now (Some name) (Some a) is = is

-- a tick leaves them animations of their lists
ticked_lists : (lists : AnimationValues) (sheets : List (Option SheetRules)) (now : ℤ) (animations : List AnimationState) → AreAnimationsOf lists sheets animations
    → AreAnimationsOf lists sheets (map (ticked_animation now) animations)
ticked_lists lists sheets now animations are = record {
  at = λ i. option_map (ticked_animation now) (are.at i);
  list = ap (map (ticked_animation now)) are.list ∙ given-map (ticked_animation now) are.at (length lists.names);
  each = λ i. ticked_one lists i now (animated_at (has_keyframes sheets) lists.names i) (are.at i) (are.each i);
}

-- ---- after an event

module _ (laws : StillLaws) (w : DocumentEvent) (n : ℕ) (opening : EntryParts) (above : Option StylesAbove) (t : ℤ) where
  abbrev parent : Option Down
  parent = option_map inherited_above above

  abbrev d : Declarations
  d = element_declarations w n

  abbrev shown : Bool
  shown = is_rendered d parent

  left_lists : AreAnimationsOf (animation_lists_after shown d) w.sheets (paired_at w n opening parent).animations
  unfolding animations_updated
  left_lists = laws.after (names_update (animations_before shown opening) (animation_lists_after shown d) w.sheets w.time w.generation (event_at w n).position)

  -- the current style of an update of which no transition runs, and whose animations are paused
  left_style : (transitions_of (update_at w n opening parent)).running ≡ [] → ArePaused (paired_at w n opening parent).animations
      → now_of (update_at w n opening parent)
      ≡ still_style shown d (value_of_samples (samples_of (paired_at w n opening parent).animations w.sheets t)) (now_parent parent)
  unfolding now_of update_at
  left_style none paused =
      ap (λ running.
      if shown then current_style d (value_of_samples (samples_of (paired_at w n opening parent).animations w.sheets w.time.0)) running w.time.0 (now_parent parent)
      else current_style d no_animations [] w.time.0 (now_parent parent)) none
      ∙ ap (λ samples. still_style shown d (value_of_samples samples) (now_parent parent)) (laws.paused (paired_at w n opening parent).animations w.sheets t w.time.0 paused)

  pub left_after : IsStill (entry_at w n opening parent) → IsLeftStill w n opening above t (entry_at w n opening parent)
  unfolding update_at entry_after
  left_after still = record {
    still = still;
    styled = refl;
    declared = refl;
    rendered = refl;
    now = refl;
    style = left_style (ap (λ (ts : TransitionSet). ts.running) still.transitions) still.animations;
    animations = left_lists;
  }

-- ---- after a tick

-- the entry after it
abbrev pub ticked_parts : ℤ → EntryParts → EntryParts
ticked_parts now e = record e { effects = ticked_effects now e.effects }

none_ticked : (now : ℤ) → ticked_transitions now no_transitions ≡ no_transitions
none_ticked now = refl

still_ticked : (now : ℤ) (e : EntryParts) → IsStill e → IsStill (ticked_parts now e)
still_ticked now e still = record {
  transitions = ap (ticked_transitions now) still.transitions ∙ none_ticked now;
  animations = paused_ticked now e.effects.animations still.animations;
}

pub left_ticked : (w : DocumentEvent) (n : ℕ) (opening : EntryParts) (above : Option StylesAbove) (t now : ℤ) (e : EntryParts) → IsLeftStill w n opening above t e
    → IsLeftStill w n opening above t (ticked_parts now e)
left_ticked w n opening above t now e left = record {
  still = still_ticked now e left.still;
  styled = left.styled;
  declared = left.declared;
  rendered = left.rendered;
  now = left.now;
  style =
      left.style
      ∙ ap (λ samples. still_style e.rendered e.declared (value_of_samples samples) (now_parent (option_map inherited_above above)))
      (sym (samples_ticked w.sheets t now e.effects.animations));
  animations = ticked_lists (animation_lists_after e.rendered e.declared) w.sheets now e.effects.animations left.animations;
}

-- ---- of an element that is settled

paused_before : (now : ℤ) (animations : List AnimationState) → ArePaused (map (ticked_animation now) animations) → ArePaused animations
paused_before now [] paused = All-nil (λ (a : AnimationState). IsSome a.hold)
paused_before now (a ∷ animations) paused =
    All-cons (λ (x : AnimationState). IsSome x.hold) a animations
    (All-head (λ (x : AnimationState). IsSome x.hold) (ticked_animation now a) (map (ticked_animation now) animations) paused)
    (paused_before now animations (All-tail (λ (x : AnimationState). IsSome x.hold) (ticked_animation now a) (map (ticked_animation now) animations) paused))

module _ (laws : StillLaws) (w : DocumentEvent) (n : ℕ) (opening : EntryParts) (above : Option StylesAbove) (t now : ℤ) where
  abbrev handed : Option Down
  handed = option_map inherited_above above

  abbrev closing : EntryParts
  closing = entry_at w n opening handed

  none_runs : closing.settled ≡ true → (transitions_of (update_at w n opening handed)).running ≡ []
  unfolding entry_after settled_after
  none_runs settled =
      let x = update_at w n opening handed in
      let parts = and_parts ((length (transitions_of x).running == 0) && list_all (has_ended x.event.time.0) x.animations) (have_same_values (after_of x) (now_of x)) settled in
      empty_of (transitions_of x).running (and_parts (length (transitions_of x).running == 0) (list_all (has_ended x.event.time.0) x.animations) parts.0).0

  -- what a tick leaves of it, where nothing of that runs
  pub left_settled : closing.settled ≡ true → IsStill (ticked_parts now closing) → IsLeftStill w n opening above t (ticked_parts now closing)
  unfolding update_at entry_after
  left_settled settled still =
      let paused = paused_before now closing.effects.animations still.animations in
      record {
        still = still;
        styled = refl;
        declared = refl;
        rendered = refl;
        now = refl;
        style =
            left_style laws w n opening above t (none_runs settled) paused
            ∙ ap (λ samples. still_style closing.rendered closing.declared (value_of_samples samples) (now_parent handed)) (sym (samples_ticked w.sheets t now closing.effects.animations));
        animations = ticked_lists (animation_lists_after closing.rendered closing.declared) w.sheets now closing.effects.animations (left_lists laws w n opening above t);
      }
