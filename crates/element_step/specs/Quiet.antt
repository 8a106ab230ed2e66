-- Elements at rest: where an element and its ancestors are as they were at the event before, and so are the sheets, the update of such an element under
-- ancestors at rest leaves its entry as it is (CSS Transitions 1, section 3 "Starting of transitions").
use Rattle.std.specs.Prelude.{ℕ, ◌==◌, nat_eq, Bool, true, false, ◌&&◌, not, List, length, Option, None, Some, option_map, unwrap_or, if◌then◌else◌}
use Rattle.std.specs.List.{list_any}
use Rattle.change_styles.specs.Inheritance.{handed_down}
use Rattle.computed_style.specs.Winners.{Declarations}
use Rattle.computed_style.specs.declared.inherited.Down.{Down}
use Rattle.computed_style.specs.declared.inherited.InheritedValues.{InheritedValues}
use Rattle.pass_core.specs.Work.{Meaning}
use Rattle.pass_core.specs.declared.step.Step.{Step}
use Rattle.pass_core.specs.declared.step.Step.TheVariants.{Kept, Updated}
use Rattle.style_data.specs.Entries.{EffectLists, EntryParts}
use Rattle.element_step.specs.Updates.{now_parent}
use Rattle.element_step.specs.Works.{DocumentEvent, element_declarations, outcome_with, top_down}
use Rattle.element_step.specs.declared.quiet.QuietDown.{QuietDown}

-- there is no transition and no animation, and nothing that was cancelled waits for its event
abbrev pub has_no_effects : EffectLists → Bool
has_no_effects e = (length e.transitions.running == 0) && (length e.transitions.completed == 0) && (length e.animations == 0) && (length e.gone == 0)

-- the element is at rest: a frame has styled it, nothing of it will change by time alone, and it has no effects
abbrev pub is_at_rest : EntryParts → Bool
is_at_rest e = e.styled && e.settled && has_no_effects e.effects

-- what is handed down by an element whose three styles are one, which hands down this
abbrev pub down_of_one : Bool → InheritedValues → Down
down_of_one rendered now = record { before = (if rendered then Some now else None); after = now; now = now; rendered = rendered; changed = false }

-- what an element at rest hands down, under a parent that hands this down
abbrev pub handed_at_rest : EntryParts → Option Down → Down
handed_at_rest entry parent = down_of_one entry.rendered (handed_down (now_parent parent) entry.now)

-- what an element hands down, whether it and its ancestors are at rest, and whether none of them was touched
abbrev pub quiet_down : Option Down → Bool → Bool → QuietDown
quiet_down parent rests untouched = record { parent = parent; rests = rests; untouched = untouched }

-- neither element n nor an ancestor was touched, under a parent that hands this down
abbrev pub is_untouched_below : List ℕ → ℕ → QuietDown → Bool
is_untouched_below touched n down = down.untouched && not (list_any (nat_eq n) touched)

-- the same outcome, of an element that isn't at rest, or stands under one that isn't
abbrev pub moving_step : Bool → Step EntryParts Down → Step EntryParts QuietDown
moving_step untouched (Updated entry down) = Updated entry (quiet_down (Some down) false untouched)
moving_step untouched (Kept down) = Kept (quiet_down (Some down) false untouched)

-- what such an element hands down, where that is told
abbrev pub moving_down : Bool → Option Down → Option QuietDown
moving_down untouched down = option_map (λ d. quiet_down (Some d) false untouched) down

-- the same outcome, which may tell what is handed down
abbrev pub moving_told : Bool → Step EntryParts (Option Down) → Step EntryParts (Option QuietDown)
moving_told untouched (Updated entry down) = Updated entry (moving_down untouched down)
moving_told untouched (Kept down) = Kept (moving_down untouched down)

-- what an element declares: where it is untouched what it did at the event before
abbrev pub declared_in : Bool → DocumentEvent → ℕ → EntryParts → Declarations
declared_in untouched w n entry = (if untouched then entry.declared else element_declarations w n)

-- the outcome of an element's update: where it is untouched, and it and its ancestors are at rest, it is kept
unfoldable pub outcome_where : Bool → DocumentEvent → ℕ → EntryParts → QuietDown → Step EntryParts QuietDown
outcome_where untouched w n entry down =
    (if untouched && down.rests && is_at_rest entry then Kept (quiet_down (Some (handed_at_rest entry down.parent)) true true)
    else moving_step untouched (outcome_with w n entry (declared_in untouched w n entry) (unwrap_or down.parent top_down)))

-- the same where these elements were touched
abbrev pub quiet_outcome : List ℕ → DocumentEvent → ℕ → EntryParts → QuietDown → Step EntryParts QuietDown
quiet_outcome touched w n entry down = outcome_where (is_untouched_below touched n down) w n entry down

-- an element whose parent isn't in the plan has none that moves or was touched, where the event is quiet
abbrev pub quiet_meaning : Bool → List ℕ → DocumentEvent → Meaning EntryParts QuietDown
quiet_meaning quiet touched w = record { outcome = quiet_outcome touched w; top = quiet_down None quiet quiet }
