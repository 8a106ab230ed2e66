-- Entries: what is kept of an element from one style change event to the next.
use Rattle.std.specs.Prelude.{ℕ, ◌<◌, Bool, false, List, [], AllPairs}
use Rattle.style_data.specs.declared.animation.AnimationState.{AnimationState}
use Rattle.style_data.specs.declared.gone.Gone.{Gone}
use Rattle.style_data.specs.declared.transition.Phase.{Phase}
use Rattle.computed_style.specs.Styles.{ComputedStyle, initial_style}
use Rattle.style_data.specs.TransitionSets.{TransitionSet, with_changed_item, no_transitions}
use Rattle.computed_style.specs.Winners.{Declarations, no_declarations}

-- the animations ascend by their places in the list of names
abbrev pub AreAscending : List AnimationState → Type 0
AreAscending animations = AllPairs (λ a b. a.place < b.place) animations

-- the transitions and animations of an element, and the cancelled ones of both in the order of their cancellation
pub record EffectLists : Type 0 where
  pub transitions : TransitionSet
  pub animations : List AnimationState
  pub gone : List Gone

abbrev pub effect_lists : TransitionSet → List AnimationState → List Gone → EffectLists
effect_lists transitions animations gone = record { transitions = transitions; animations = animations; gone = gone }

-- no effect at all
abbrev pub no_effects : EffectLists
no_effects = effect_lists no_transitions [] []

-- the animation at a place of the list was last seen in this phase and iteration
abbrev pub animation_seen_at : List AnimationState → ℕ → Phase → ℕ → List AnimationState
animation_seen_at animations i seen iteration = with_changed_item (λ a. record a { seen = seen; iteration = iteration }) animations i

-- whether a frame has styled the element, whether it was rendered at the last style change event, whether nothing of it will
-- change by time alone; the declarations of that event, the current style that it gave, and the effects
pub record EntryParts : Type 0 where
  pub styled : Bool
  pub rendered : Bool
  pub settled : Bool
  pub declared : Declarations
  pub now : ComputedStyle
  pub effects : EffectLists

abbrev pub entry_parts : Bool → Bool → Bool → Declarations → ComputedStyle → EffectLists → EntryParts
entry_parts styled rendered settled declared now effects =
    record { styled = styled; rendered = rendered; settled = settled; declared = declared; now = now; effects = effects }

-- the entry of an element that no frame has styled
abbrev pub fresh_entry : EntryParts
fresh_entry = record {
  styled = false;
  rendered = false;
  settled = false;
  declared = no_declarations;
  now = initial_style;
  effects = no_effects;
}
