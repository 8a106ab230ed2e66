-- Runs of a world: commands one after another, and the events of their frames.
use Rattle.std.specs.Prelude.{◌≡◌, ℕ, List, [], ◌∷◌, ◌++◌, take, Some, is_none, if◌then◌else◌}
use Rattle.event_order.specs.Order.{IsInOrderOf}
use Rattle.restyle.specs.Edits.{edited, refusal_of}
use Rattle.restyle.specs.StyleChanges.{entry_for}
use Rattle.restyle.specs.Worlds.{WorldParts, events_of_frame, world_after_frame}
use Rattle.script_text.specs.declared.command.Command.{Command}
use Rattle.script_text.specs.declared.command.Command.TheVariants.{Frame}
use Rattle.style_data.specs.TransitionSets.{running_of}
use Rattle.style_data.specs.declared.event.Event.{Event}
use Rattle.style_data.specs.declared.transition.Phase.{Phase}
use Rattle.style_data.specs.declared.transition.Transition.{Transition}
use Rattle.run_laws.specs.TransitionNames.{TransitionName}

-- the world that an accepted command leaves: a frame, or an edit
abbrev pub world_left_by : WorldParts → Command → WorldParts
world_left_by w Frame = world_after_frame w
world_left_by w c = edited w c

-- the world after any command: one that is refused changes nothing
abbrev pub world_after_command : WorldParts → Command → WorldParts
world_after_command w c = if is_none (refusal_of w c) then world_left_by w c else w

-- the events that a command sends: those of a frame, as its tick has them
abbrev pub events_of_command : WorldParts → Command → List Event
events_of_command w Frame = events_of_frame w
events_of_command w c = []

-- the world after these commands
unfoldable pub world_after_run : WorldParts → List Command → WorldParts
world_after_run w [] = w
world_after_run w (c ∷ cs) = world_after_run (world_after_command w c) cs

-- the events that these commands send, frame by frame
unfoldable pub events_of_run : WorldParts → List Command → List Event
events_of_run w [] = []
events_of_run w (c ∷ cs) = events_of_command w c ++ events_of_run (world_after_command w c) cs

-- the events that these commands may send: those of each frame by ascending keys, one frame after another
unfoldable pub AreSent : WorldParts → List Command → List Event → Type 0
AreSent w [] sent = sent ≡ []
AreSent w (c ∷ cs) sent =
    (first : List Event) × (later : List Event) × IsInOrderOf first (events_of_command w c) × AreSent (world_after_command w c) cs later × (sent ≡ first ++ later)

-- after some of the commands the transition runs for the property of the element, in whichever phase it was seen last
abbrev pub HasRun : WorldParts → List Command → TransitionName → Transition → Type 0
HasRun w cs x r =
    (k : ℕ) × (seen : Phase)
    × (running_of (entry_for (world_after_run w (take k cs)).entries x.element).effects.transitions x.property ≡ Some (record r { seen = seen }))
