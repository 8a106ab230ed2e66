-- The transcript of a script: a function of its lines alone.
use Rattle.std.specs.Prelude.{ℕ, ◌+◌, Bool, true, false, ◌||◌, List, [], ◌∷◌, ◌++◌, flat_map, Option, Some, None, Result, Ok, Err}
use Rattle.computed_style.specs.Styles.{value_of}
use Rattle.restyle.specs.Edits.{edited, refusal_of}
use Rattle.restyle.specs.StyleChanges.{entry_for}
use Rattle.restyle.specs.Worlds.{WorldParts, events_of_frame, new_world, world_after_frame}
use Rattle.script_text.specs.Reading.{command_of}
use Rattle.script_text.specs.declared.command.Command.{Command}
use Rattle.script_text.specs.declared.command.Command.TheVariants.{Blank, Add, Insert, Remove, Id, Class, Style, Sheet, At, Frame, Get, List as Listing}
use Rattle.script_text.specs.declared.refusal.Refusal.{Refusal}
use Rattle.script_text.specs.declared.refusal.Refusal.TheVariants.{BoundLine}
use Rattle.text_io.specs.Lines.{lines_of}
use Rattle.transcript_text.specs.Lines.{event_line, refused_line, value_line}
use Rattle.transcript_cli.specs.Listing.{listing_of}
use Rattle.transcript_cli.specs.Order.{in_order}

-- ---- one line of a script

-- the command of a line, given its text where it isn't over the limit, or why there is none
abbrev pub reading_of : Option (List ℕ) → Result Command Refusal
reading_of None = Err BoundLine
reading_of (Some text) = command_of text

-- the events of a frame, as they are sent
abbrev pub frame_lines : WorldParts → List ℕ
frame_lines w = flat_map event_line (in_order (events_of_frame w))

-- what an accepted command writes
abbrev pub output_of : WorldParts → Command → List ℕ
output_of w Blank = []
output_of w (Add n parent tag) = []
output_of w (Insert n sibling tag) = []
output_of w (Remove n) = []
output_of w (Id n name) = []
output_of w (Class n names) = []
output_of w (Style n text) = []
output_of w (Sheet k text) = []
output_of w (At t) = []
output_of w Frame = frame_lines w
output_of w (Get n p) = value_line n p (value_of (entry_for w.entries n).now p)
output_of w (Listing n) = listing_of n (entry_for w.entries n)

-- the command edits the world: it is no frame, and asks nothing
abbrev pub is_edit : Command → Bool
is_edit Frame = false
is_edit (Get n p) = false
is_edit (Listing n) = false
is_edit c = true

-- the world that an accepted command leaves
abbrev pub world_after : WorldParts → Command → WorldParts
world_after w Frame = world_after_frame w
world_after w c = edited w c

-- what a line comes to: whether it is refused, what is written, and the world then
pub record Answer : Type 0 where
  pub refused : Bool
  pub piece : List ℕ
  pub world : WorldParts

-- a refused line writes its number and the reason, and leaves the world as it is
abbrev pub refused_answer : WorldParts → ℕ → Refusal → Answer
refused_answer w number r = record { refused = true; piece = refused_line number r; world = w }

-- the answer to a command, which the world may refuse
abbrev pub judged_answer : WorldParts → ℕ → Command → Option Refusal → Answer
judged_answer w number c (Some r) = refused_answer w number r
judged_answer w number c None = record { refused = false; piece = output_of w c; world = world_after w c }

-- the answer to what was read
abbrev pub answer_to : WorldParts → ℕ → Result Command Refusal → Answer
answer_to w number (Err r) = refused_answer w number r
answer_to w number (Ok c) = judged_answer w number c (refusal_of w c)

-- the answer to line `number`
unfoldable pub answer_of : WorldParts → ℕ → Option (List ℕ) → Answer
answer_of w number line = answer_to w number (reading_of line)

-- ---- the whole script

-- what lines write, the first having this number, from a world
unfoldable pub transcript_from : WorldParts → ℕ → List (Option (List ℕ)) → List ℕ
transcript_from w number [] = []
transcript_from w number (line ∷ lines) = (answer_of w number line).piece ++ transcript_from (answer_of w number line).world (number + 1) lines

-- the world that lines leave
unfoldable pub world_from : WorldParts → ℕ → List (Option (List ℕ)) → WorldParts
world_from w number [] = w
world_from w number (line ∷ lines) = world_from (answer_of w number line).world (number + 1) lines

-- a line of them is refused
unfoldable pub refuses_from : WorldParts → ℕ → List (Option (List ℕ)) → Bool
refuses_from w number [] = false
refuses_from w number (line ∷ lines) = (answer_of w number line).refused || refuses_from (answer_of w number line).world (number + 1) lines

-- the transcript of a script
abbrev pub transcript_of : List ℕ → List ℕ
transcript_of script = transcript_from new_world 1 (lines_of script)

-- a line of the script is refused
abbrev pub has_refusal : List ℕ → Bool
has_refusal script = refuses_from new_world 1 (lines_of script)
