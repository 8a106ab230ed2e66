-- The lines of the script of a seed. Each choice in it is one draw after the seed.
use Rattle.std.specs.Prelude.{ℕ, zero, suc, ◌+◌, ◌-◌, ◌*◌, min, List, [], ◌∷◌, ◌++◌, map, flat_map, codes, decimal}
use Rattle.std.specs.List.{range_with_len}
use Rattle.script_gen.specs.Draws.{drawn, sequence_number}

-- the bytes of lines, each with its line feed
unfoldable pub bytes_of_lines : List (List ℕ) → List ℕ
bytes_of_lines lines = flat_map (λ line. line ++ codes "\n") lines

-- the sheet of every script; a class is more specific than a tag, so it decides
abbrev pub sheet_text : List ℕ
sheet_text = codes "p { opacity: 1; width: 10px; color: rgb(0, 0, 0); transition: all 1s linear } .a { opacity: 0 } .b { width: 90px } .c { color: rgb(200, 100, 50) }"

-- the line that every script begins with
abbrev pub sheet_line : List ℕ
sheet_line = codes "sheet 1 " ++ sheet_text

-- ---- elements 2 to 2000, each with one draw

-- the parent of element n: one of those before it, and one of the first 40
unfoldable pub drawn_parent : ℕ → ℕ → ℕ
drawn_parent seed n = 1 + drawn seed (n - 1) (min (n - 1) 40)

-- element n is added as the last child of its parent
abbrev pub add_line : ℕ → ℕ → List ℕ
add_line seed n = codes "add " ++ decimal n ++ codes " " ++ decimal (drawn_parent seed n) ++ codes " p"

-- in the order of their numbers
unfoldable pub add_lines : ℕ → List (List ℕ)
add_lines seed = map (add_line seed) (range_with_len 2 1999)

-- ---- changes of class, each with two draws after x, the last number that chose a parent

-- the element of change i, counted from 0: any but the root
unfoldable pub changed_element : ℕ → ℕ → ℕ
changed_element x i = 2 + drawn x (2 * i + 1) 1999

-- a class after a space, or nothing for none
abbrev pub class_word : ℕ → List ℕ
class_word zero = codes " a"
class_word (suc zero) = codes " b"
class_word (suc (suc zero)) = codes " c"
class_word _ = []

-- the class that the element then has, if any
unfoldable pub changed_class : ℕ → ℕ → List ℕ
changed_class x i = class_word (drawn x (2 * i + 2) 4)

-- change i
abbrev pub change_line : ℕ → ℕ → List ℕ
change_line x i = codes "class " ++ decimal (changed_element x i) ++ changed_class x i

-- fifty changes, the time in milliseconds, and a frame
unfoldable pub round_lines : ℕ → ℕ → List (List ℕ)
round_lines x r = map (change_line x) (range_with_len (50 * (r - 1)) 50) ++ (codes "at " ++ decimal (200 * r)) ∷ codes "frame" ∷ []

-- sixty rounds, counted from 1
unfoldable pub rounds_lines : ℕ → List (List ℕ)
rounds_lines x = flat_map (round_lines x) (range_with_len 1 60)

-- ---- the whole script

-- the sheet, the root and the other elements, a frame, the rounds, and a frame after every transition has ended
unfoldable pub script_lines : ℕ → List (List ℕ)
script_lines seed =
    sheet_line ∷ codes "add 1 - div" ∷ add_lines seed
    ++ codes "frame" ∷ rounds_lines (sequence_number seed 1999)
    ++ codes "at 20000" ∷ codes "frame" ∷ []

-- its bytes
unfoldable pub script_bytes : ℕ → List ℕ
script_bytes seed = bytes_of_lines (script_lines seed)
