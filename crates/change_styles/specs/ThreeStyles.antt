-- The three styles of an element at a style change event (CSS Transitions 1, section 3 "Starting of transitions").
use Rattle.std.specs.Prelude.{ℤ, Bool, List, [], All, map, Option, None}
use Rattle.value_types.specs.declared.property.PropertyId.{PropertyId}
use Rattle.value_types.specs.declared.value.Value.{Value}
use Rattle.computed_style.specs.ComputedStyles.{AnimatedValues, computed_style, style_sources}
use Rattle.computed_style.specs.Styles.{ComputedStyle}
use Rattle.computed_style.specs.Winners.{Declarations}
use Rattle.computed_style.specs.declared.inherited.InheritedValues.{InheritedValues}
use Rattle.style_data.specs.Entries.{EntryParts}
use Rattle.style_data.specs.Kept.{IsKeptFor}
use Rattle.style_data.specs.declared.transition.Transition.{Transition}
use Rattle.transition_start.specs.Sampling.{sample_of}

-- what an element's own declarations, animations and transitions say of its style
pub record OwnSources : Type 0 where
  pub declared : Declarations
  pub animated : AnimatedValues
  pub transitioned : List (PropertyId × Value)

abbrev pub own_sources : Declarations → AnimatedValues → List (PropertyId × Value) → OwnSources
own_sources declared animated transitioned = record { declared = declared; animated = animated; transitioned = transitioned }

-- the computed style that they give over what is inherited
abbrev pub style_over : OwnSources → Option InheritedValues → ComputedStyle
style_over x parent = computed_style (style_sources x.declared x.animated x.transitioned parent)

-- the values that running transitions give at time t (section 4 "Application of transitions")
abbrev pub transitioned_at : List (PropertyId × Transition) → ℤ → List (PropertyId × Value)
transitioned_at running t = map (λ r. (r.0, sample_of r.0 r.1 t)) running

-- each is kept for its property
abbrev pub AreRunning : List (PropertyId × Transition) → Type 0
AreRunning running = All (λ r. IsKeptFor r.0 r.1) running

-- the before-change style: that of the event before, with its animations and transitions updated to time t
abbrev pub before_change_sources : EntryParts → AnimatedValues → ℤ → OwnSources
before_change_sources entry old t = own_sources entry.declared old (transitioned_at entry.effects.transitions.running t)

-- the after-change style: the declarations of now and the animations of the event before, without transitions
abbrev pub after_change_sources : Declarations → AnimatedValues → OwnSources
after_change_sources declared old = own_sources declared old []

-- the current style: the declarations, the animations and the transitions of now
abbrev pub current_sources : Declarations → AnimatedValues → List (PropertyId × Transition) → ℤ → OwnSources
current_sources declared new running t = own_sources declared new (transitioned_at running t)

abbrev pub before_change_style : EntryParts → AnimatedValues → ℤ → Option InheritedValues → ComputedStyle
before_change_style entry old t parent = style_over (before_change_sources entry old t) parent

abbrev pub after_change_style : Declarations → AnimatedValues → Option InheritedValues → ComputedStyle
after_change_style declared old parent = style_over (after_change_sources declared old) parent

abbrev pub current_style : Declarations → AnimatedValues → List (PropertyId × Transition) → ℤ → Option InheritedValues → ComputedStyle
current_style declared new running t parent = style_over (current_sources declared new running t) parent

-- an element that isn't rendered has neither animations nor transitions (section 3; CSS Animations 1, section 3)
abbrev pub no_animations : AnimatedValues
no_animations p parent own root under = None

abbrev pub unrendered_sources : Declarations → OwnSources
unrendered_sources declared = own_sources declared no_animations []

-- ---- whole elements

-- an element at a style change event: what is kept of it from the event before, its declarations of now and whether it is
-- rendered now, what the animations of the event before and those of now give at this moment, and the transitions that run
-- after the event
pub record ElementChange : Type 0 where
  pub entry : EntryParts
  pub declared : Declarations
  pub rendered : Bool
  pub old : AnimatedValues
  pub new : AnimatedValues
  pub running : List (PropertyId × Transition)

-- the same element, where no transition runs before or after the event
abbrev pub without_running : ElementChange → ElementChange
without_running e = record e {
  entry = record e.entry { effects = record e.entry.effects { transitions = record e.entry.effects.transitions { running = [] } } };
  running = [];
}
