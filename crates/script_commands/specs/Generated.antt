-- The commands of the script of a seed, one for each line.
use Rattle.std.specs.Prelude.{ℕ, zero, suc, ◌+◌, ◌-◌, ◌*◌, pos, List, [], ◌∷◌, ◌++◌, map, flat_map, codes, Some, None}
use Rattle.std.specs.List.{range_with_len}
use Rattle.script_gen.specs.Draws.{drawn, sequence_number}
use Rattle.script_gen.specs.Lines.{changed_element, drawn_parent, sheet_text}
use Rattle.script_text.specs.declared.command.Command.{Command}
use Rattle.script_text.specs.declared.command.Command.TheVariants.{Add, Class, Sheet, At, Frame}

-- element n is added below its parent
abbrev pub add_command : ℕ → ℕ → Command
add_command seed n = Add n (Some (drawn_parent seed n)) (codes "p")

-- the names of the classes that a change gives
abbrev pub class_names : ℕ → List (List ℕ)
class_names zero = codes "a" ∷ []
class_names (suc zero) = codes "b" ∷ []
class_names (suc (suc zero)) = codes "c" ∷ []
class_names _ = []

-- change i
abbrev pub change_command : ℕ → ℕ → Command
change_command x i = Class (changed_element x i) (class_names (drawn x (2 * i + 2) 4))

-- a time in milliseconds
abbrev pub time_command : ℕ → Command
time_command millis = At (record { 0 = pos (1000 * millis) })

-- fifty changes, the time, and a frame
unfoldable pub round_commands : ℕ → ℕ → List Command
round_commands x r = map (change_command x) (range_with_len (50 * (r - 1)) 50) ++ time_command (200 * r) ∷ Frame ∷ []

-- the whole script
unfoldable pub script_commands : ℕ → List Command
script_commands seed =
    Sheet 1 sheet_text ∷ Add 1 None (codes "div") ∷ map (add_command seed) (range_with_len 2 1999)
    ++ Frame ∷ flat_map (round_commands (sequence_number seed 1999)) (range_with_len 1 60)
    ++ time_command 20000 ∷ Frame ∷ []
