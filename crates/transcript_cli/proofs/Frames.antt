-- How a line changes the number of frames.
use Rattle.std.proofs.Common.{◌≡◌, ℕ, ◌+◌, ◌≤◌, refl, ap, arith, List}
use Rattle.std.specs.Prelude.{Option, None, Some, Result, Ok, Err}
use Rattle.restyle.specs.Edits.{edited, refusal_of, sheet_found, with_sheet}
use Rattle.restyle.specs.StyleChanges.{frame_after}
use Rattle.restyle.specs.Worlds.{WorldParts, world_after_frame}
use Rattle.script_text.specs.declared.command.Command.{Command}
use Rattle.script_text.specs.declared.command.Command.TheVariants.{Blank, Add, Insert, Remove, Id, Class, Style, Sheet, At, Frame, Get, List as Listing}
use Rattle.script_text.specs.declared.refusal.Refusal.{Refusal}
use Rattle.transcript_cli.specs.Transcript.{answer_of, answer_to, judged_answer, reading_of, world_after}

pub one_frame : (w : WorldParts) → (world_after_frame w).frames ≡ w.frames + 1
unfolding world_after_frame frame_after
one_frame w = refl

edit_keeps : (w : WorldParts) (c : Command) → (edited w c).frames ≡ w.frames
edit_keeps w Blank = refl
edit_keeps w (Add n parent tag) = refl
edit_keeps w (Insert n sibling tag) = refl
edit_keeps w (Remove n) = refl
edit_keeps w (Id n name) = refl
edit_keeps w (Class n names) = refl
edit_keeps w (Style n text) = refl
edit_keeps w (Sheet k text) = elim (sheet_found text) as (λ found. (with_sheet w k found).frames ≡ w.frames) [ Ok sheet ↦ refl | Err fault ↦ refl ]
edit_keeps w (At t) = refl
edit_keeps w Frame = refl
edit_keeps w (Get n p) = refl
edit_keeps w (Listing n) = refl

-- every command but a frame
at_most_one : (w : WorldParts) (c : Command) → (world_after w c).frames ≤ w.frames + 1
at_most_one w Frame = omega (arith, one_frame w)
at_most_one w Blank = omega (arith, edit_keeps w Blank)
at_most_one w (Add n parent tag) = omega (arith, edit_keeps w (Add n parent tag))
at_most_one w (Insert n sibling tag) = omega (arith, edit_keeps w (Insert n sibling tag))
at_most_one w (Remove n) = omega (arith, edit_keeps w (Remove n))
at_most_one w (Id n name) = omega (arith, edit_keeps w (Id n name))
at_most_one w (Class n names) = omega (arith, edit_keeps w (Class n names))
at_most_one w (Style n text) = omega (arith, edit_keeps w (Style n text))
at_most_one w (Sheet k text) = omega (arith, edit_keeps w (Sheet k text))
at_most_one w (At t) = omega (arith, edit_keeps w (At t))
at_most_one w (Get n p) = omega (arith, edit_keeps w (Get n p))
at_most_one w (Listing n) = omega (arith, edit_keeps w (Listing n))

by_refusal : (w : WorldParts) (n : ℕ) (c : Command) (refusal : Option Refusal) → (judged_answer w n c refusal).world.frames ≤ w.frames + 1
by_refusal w n c (Some r) = omega arith
by_refusal w n c None = at_most_one w c

by_reading : (w : WorldParts) (n : ℕ) (reading : Result Command Refusal) → (answer_to w n reading).world.frames ≤ w.frames + 1
by_reading w n (Err r) = omega arith
by_reading w n (Ok c) = by_refusal w n c (refusal_of w c)

pub frames_rise : (w : WorldParts) (n : ℕ) (line : Option (List ℕ)) → (answer_of w n line).world.frames ≤ w.frames + 1
unfolding answer_of
frames_rise w n line = by_reading w n (reading_of line)
