-- What the lines of a script are.
use Rattle.std.specs.Prelude.{ℕ, ◌<◌, ◌≤◌, Bool, List, ◌++◌, codes, decimal}
use Rattle.std.specs.Str.{bytes_eq}
use Rattle.script_gen.specs.Lines.{class_word}

-- after the sheet: the root, an element below one of a smaller number, a change of class of one that isn't the root, a time, a frame
pub data IsLaterLine : List ℕ → Type 0 where
  root : IsLaterLine (codes "add 1 - div")
  child : (n parent : ℕ) → n ≤ 2000 → 1 ≤ parent → parent < n → parent ≤ 40
      → IsLaterLine (codes "add " ++ decimal n ++ codes " " ++ decimal parent ++ codes " p")
  change : (n k : ℕ) → 2 ≤ n → n ≤ 2000 → IsLaterLine (codes "class " ++ decimal n ++ class_word k)
  time : (t : ℕ) → t ≤ 20000 → IsLaterLine (codes "at " ++ decimal t)
  frame : IsLaterLine (codes "frame")

-- the line asks for a frame
abbrev pub is_frame_line : List ℕ → Bool
is_frame_line line = bytes_eq line (codes "frame")
