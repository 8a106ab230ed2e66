-- Whether a world accepts commands, one after another.
use Rattle.std.specs.Prelude.{Bool, true, ◌&&◌, List, [], ◌∷◌, is_none}
use Rattle.restyle.specs.Edits.{edited, refusal_of}
use Rattle.restyle.specs.Worlds.{WorldParts, world_after_frame}
use Rattle.script_text.specs.declared.command.Command.{Command}
use Rattle.script_text.specs.declared.command.Command.TheVariants.{Frame}

-- the world that an accepted command leaves
abbrev pub next_world : WorldParts → Command → WorldParts
next_world w Frame = world_after_frame w
next_world w c = edited w c

-- none of the commands is refused by the world that those before it leave
abbrev pub are_accepted : WorldParts → List Command → Bool
are_accepted w [] = true
are_accepted w (c ∷ cs) = is_none (refusal_of w c) && are_accepted (next_world w c) cs
