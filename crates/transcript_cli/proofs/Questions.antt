-- What a question leaves, and what an edit writes.
use Rattle.std.proofs.Common.{◌≡◌, ◌≢◌, refl, ap, sym, ◌∙◌, subst, Bool, false, List, ℕ}
use Rattle.std.specs.Prelude.{Option, None}
use Rattle.restyle.specs.Edits.{edited, refusal_of}
use Rattle.restyle.specs.Worlds.{WorldParts}
use Rattle.script_text.specs.declared.command.Command.{Command}
use Rattle.script_text.specs.declared.command.Command.TheVariants.{Blank, Add, Insert, Remove, Id, Class, Style, Sheet, At, Frame, Get, List as Listing}
use Rattle.transcript_cli.specs.Transcript.{is_edit, output_of, world_after}

-- an accepted question is still accepted after it
pub still_accepted : (w w' : WorldParts) (c : Command) → refusal_of w c ≡ None → w' ≡ edited w c → is_edit c ≡ false → refusal_of w' c ≡ None
still_accepted w w' Frame accepted is asks = refl
still_accepted w w' (Get n p) accepted is asks = ap (λ (x : WorldParts). refusal_of x (Get n p)) is ∙ accepted
still_accepted w w' (Listing n) accepted is asks = ap (λ (x : WorldParts). refusal_of x (Listing n)) is ∙ accepted
still_accepted w w' Blank accepted is asks = cc
still_accepted w w' (Add n parent tag) accepted is asks = cc
still_accepted w w' (Insert n sibling tag) accepted is asks = cc
still_accepted w w' (Remove n) accepted is asks = cc
still_accepted w w' (Id n name) accepted is asks = cc
still_accepted w w' (Class n names) accepted is asks = cc
still_accepted w w' (Style n text) accepted is asks = cc
still_accepted w w' (Sheet k text) accepted is asks = cc
still_accepted w w' (At t) accepted is asks = cc

-- what is written is the same of the world after it
pub same_output : (w w' : WorldParts) (c : Command) → c ≢ Frame → w' ≡ edited w c → output_of w' c ≡ output_of w c
same_output w w' Frame no_frame is = absurd (no_frame refl)
same_output w w' (Get n p) no_frame is = ap (λ (x : WorldParts). output_of x (Get n p)) is
same_output w w' (Listing n) no_frame is = ap (λ (x : WorldParts). output_of x (Listing n)) is
same_output w w' Blank no_frame is = refl
same_output w w' (Add n parent tag) no_frame is = refl
same_output w w' (Insert n sibling tag) no_frame is = refl
same_output w w' (Remove n) no_frame is = refl
same_output w w' (Id n name) no_frame is = refl
same_output w w' (Class n names) no_frame is = refl
same_output w w' (Style n text) no_frame is = refl
same_output w w' (Sheet k text) no_frame is = refl
same_output w w' (At t) no_frame is = refl

-- a command that is no frame leaves the edited world
pub after_edit : (w : WorldParts) (c : Command) → c ≢ Frame → world_after w c ≡ edited w c
after_edit w Frame no_frame = absurd (no_frame refl)
after_edit w (Get n p) no_frame = refl
after_edit w (Listing n) no_frame = refl
after_edit w Blank no_frame = refl
after_edit w (Add n parent tag) no_frame = refl
after_edit w (Insert n sibling tag) no_frame = refl
after_edit w (Remove n) no_frame = refl
after_edit w (Id n name) no_frame = refl
after_edit w (Class n names) no_frame = refl
after_edit w (Style n text) no_frame = refl
after_edit w (Sheet k text) no_frame = refl
after_edit w (At t) no_frame = refl
