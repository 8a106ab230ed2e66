-- What a script's transcript says, in laws.
use Rattle.std.specs.Prelude.{◌≡◌, ◌⊎◌, ℕ, ◌+◌, ⊤, Bool, true, false, List, [], ◌∷◌, Option, Result, Ok}
use Rattle.script_text.specs.declared.command.Command.{Command}
use Rattle.script_text.specs.declared.command.Command.TheVariants.{Blank, Add, Insert, Remove, Id, Class, Style, Sheet, At, Frame, Get, List as Listing}
use Rattle.transcript_cli.specs.Transcript.{reading_of}

-- the lines hold no frame
abbrev pub HasNoFrame : List (Option (List ℕ)) → Type 0
HasNoFrame [] = ⊤
HasNoFrame (line ∷ lines) = (reading_of line ≡ Ok Frame → ⊥) × HasNoFrame lines
