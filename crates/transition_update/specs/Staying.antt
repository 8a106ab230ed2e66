-- Transitions that a style change event leaves as they are (CSS Transitions 1, section 3 "Starting of transitions").
use Rattle.std.specs.Prelude.{◌≡◌, ◌&&◌, Bool, [], is_some}
use Rattle.std.specs.List.{list_all}
use Rattle.computed_style.specs.Styles.{ComputedStyle, value_of}
use Rattle.interpolation.specs.Equality.{is_same}
use Rattle.style_data.specs.TransitionSets.{TransitionSet}
use Rattle.transition_list.specs.Matching.{match_of}
use Rattle.value_types.specs.declared.property.PropertyId.{PropertyId}
use Rattle.value_types.specs.declared.value.Value.{Value}
use Rattle.transition_update.specs.Idle.{AreOthersSame}
use Rattle.transition_update.specs.Updates.{cancelled_by, style_change, transitions_after}
use Rattle.transition_update.specs.declared.event.StyleChangeEvent.{StyleChangeEvent}

-- the end value of a transition of the property is the after-change value, and an item of transition-property names the property;
-- the rules ask neither for its duration nor for its delay then
abbrev pub ends_there : ComputedStyle → PropertyId → Value → Bool
ends_there after p to = is_same to (value_of after p) && is_some (match_of after.transitions p)

-- so it is of each running transition, and of each completed one
abbrev pub all_end_there : ComputedStyle → TransitionSet → Bool
all_end_there after ts = list_all (λ r. ends_there after r.0 r.1.to) ts.running && list_all (λ c. ends_there after c.0 c.1.to) ts.completed

-- whatever their properties' values before the change and whenever it is, where no other property changes its value all stay, none
-- starts and none is cancelled
pub record AllStay (after : ComputedStyle) (ts : TransitionSet) : Type 0 where
  pub transitions : (before : ComputedStyle) (event : StyleChangeEvent) → AreOthersSame before after ts → transitions_after (style_change before after event) ts ≡ ts
  pub cancelled : (before : ComputedStyle) (event : StyleChangeEvent) → AreOthersSame before after ts → cancelled_by (style_change before after event) ts ≡ []
