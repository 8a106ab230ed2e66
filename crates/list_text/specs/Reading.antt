-- The spellings as functions of the parts. The way in which numbers are read is an argument: `nearest`, or `clamped`.
use Rattle.std.specs.Prelude.{ℕ, ℤ, pos, Bool, true, false, ◌&&◌, nat_le, if◌then◌else◌, unsigned_abs, List, [], ◌∷◌, codes, Option, None, Some}
use Rattle.fix_num.specs.Integer.{has_no_point}
use Rattle.token_parts.specs.Keywords.{is_keyword, look_up}
use Rattle.token_parts.specs.Steps.{◌>>=◌, after_comma}
use Rattle.token_parts.specs.Parts.{TokenPart, Ident, Function, Number, Comma, Close}
use Rattle.timing_types.specs.Timing.{fewest_steps}
use Rattle.timing_types.specs.declared.easing.Easing.{Easing}
use Rattle.timing_types.specs.declared.easing.Easing.TheVariants.{Linear, Cubic, Steps}
use Rattle.timing_types.specs.declared.easing.Jump.{Jump}
use Rattle.timing_types.specs.declared.easing.Jump.TheVariants.{End}
use Rattle.timing_types.specs.declared.limits.TheConstants.{MAX_ORDINATE, MAX_STEPS}
use Rattle.list_text.specs.Numbers.{not_negative}
use Rattle.list_text.specs.Easings.{easing_words, jump_words}

-- a way of reading numbers: of so many places, with a limit, from a text
abbrev pub Numbers : Type 0
Numbers = ℕ → ℕ → List ℕ → Option ℤ

-- the number that comes first, and the rest
abbrev pub number_at : List TokenPart → Option (List ℕ × List TokenPart)
number_at (Number n ∷ ps) = Some (n, ps)
number_at _ = None

-- the only word
abbrev pub word_of : List TokenPart → Option (List ℕ)
word_of (Ident w ∷ []) = Some w
word_of _ = None

-- only a bracket is left
abbrev pub is_close : List TokenPart → Bool
is_close (Close ∷ []) = true
is_close _ = false

-- the word after a comma, with the bracket after it
abbrev pub last_word : List TokenPart → Option (List ℕ)
last_word (Comma ∷ Ident w ∷ Close ∷ []) = Some w
last_word _ = None

-- a number of these that is not negative
unfoldable pub natural : Numbers → ℕ → ℕ → List ℕ → Option ℕ
natural num places limit text = do
  v ← num places limit text
  not_negative v

-- the jump that ends the arguments of a step easing
unfoldable pub jump_of : List TokenPart → Option Jump
jump_of parts = (if is_close parts then Some End else last_word parts >>= look_up jump_words)

-- the step easing of that many steps
unfoldable pub step_count : Numbers → List ℕ → Jump → Option Easing
step_count num text jump =
    (if has_no_point text
    then natural num 0 MAX_STEPS text >>= (λ n. if nat_le (fewest_steps jump) n then Some (Steps n jump) else None)
    else None)

-- the step easing of these arguments
unfoldable pub steps_of : Numbers → List TokenPart → Option Easing
steps_of num parts = do
  n ← number_at parts
  jump ← jump_of n.1
  step_count num n.0 jump

-- a number from 0 to 1, in thousandths
unfoldable pub abscissa : Numbers → List ℕ → Option ℤ
abscissa num text = natural num 3 1000 text >>= (λ n. if nat_le n 1000 then Some (pos n) else None)

-- a control point, and the rest
unfoldable pub point_at : Numbers → List TokenPart → Option (ℤ × ℤ × List TokenPart)
point_at num parts = do
  a ← number_at parts
  rest ← after_comma a.1
  b ← number_at rest
  x ← abscissa num a.0
  y ← num 3 MAX_ORDINATE b.0
  Some (x, y, b.1)

-- the curve of these arguments
unfoldable pub curve_of : Numbers → List TokenPart → Option Easing
curve_of num parts = do
  p ← point_at num parts
  rest ← after_comma p.2
  q ← point_at num rest
  if is_close q.2 then Some (Cubic p.0 p.1 q.0 q.1) else None

-- the easing that a function makes
unfoldable pub function_of : Numbers → List ℕ → List TokenPart → Option Easing
function_of num name parts =
    (if is_keyword name (codes "steps") then steps_of num parts
    else if is_keyword name (codes "cubic-bezier") then curve_of num parts else None)

-- the easing that the parts spell
abbrev pub easing_of : Numbers → List TokenPart → Option Easing
easing_of num (Ident w ∷ []) = look_up easing_words w
easing_of num (Function f ∷ ps) = function_of num f ps
easing_of num _ = None

-- its numbers that have a limit are within it
abbrev pub easing_within : Easing → Bool
easing_within Linear = true
easing_within (Cubic x1 y1 x2 y2) = nat_le (unsigned_abs y1) MAX_ORDINATE && nat_le (unsigned_abs y2) MAX_ORDINATE
easing_within (Steps count jump) = nat_le count MAX_STEPS
