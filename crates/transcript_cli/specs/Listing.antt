-- What is told of the transitions and animations of an element.
use Rattle.std.specs.Prelude.{ℕ, Bool, true, false, not, List, [], ◌++◌, flat_map, filter, if◌then◌else◌}
use Rattle.style_data.specs.Entries.{EntryParts}
use Rattle.style_data.specs.declared.gone.Gone.{Gone}
use Rattle.style_data.specs.declared.gone.Subject.{Subject}
use Rattle.style_data.specs.declared.gone.Subject.TheVariants.{Property, Animation}
use Rattle.transcript_text.specs.Lines.{animation_line, completed_line, gone_line, running_line}

-- the subject is a property, which a transition has
abbrev pub is_property : Subject → Bool
is_property (Property p) = true
is_property (Animation name) = false

-- what was cancelled is a transition
abbrev pub is_transition : Gone → Bool
is_transition g = is_property g.subject

-- what was cancelled is an animation
abbrev pub is_animation : Gone → Bool
is_animation g = not (is_property g.subject)

-- the line of what passes the test, and else nothing
abbrev pub line_if : {A : Type 0} → (A → Bool) → (A → List ℕ) → A → List ℕ
line_if test line x = if test x then line x else []

-- the running transitions of node n and then the completed ones, by property; its animations by their places; then what was cancelled at the last
-- style change event, the transitions before the animations (CSS Transitions 1, section 3; CSS Animations 1, section 4)
abbrev pub listing_of : ℕ → EntryParts → List ℕ
listing_of n e =
    flat_map (λ r. running_line n r.0 r.1) e.effects.transitions.running
    ++ flat_map (λ c. completed_line n c.0 c.1) e.effects.transitions.completed
    ++ flat_map (animation_line n) e.effects.animations
    ++ flat_map (gone_line n) (filter is_transition e.effects.gone)
    ++ flat_map (gone_line n) (filter is_animation e.effects.gone)
