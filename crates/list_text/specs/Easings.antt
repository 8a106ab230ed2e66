-- The spellings of easing functions (CSS Easing 1, "Easing functions").
use Rattle.std.specs.Prelude.{◌≡◌, ℕ, ◌≤◌, ℤ, pos, ◌≤ℤ◌, List, [], ◌∷◌, codes, IsTrue, Some, Result, Ok, Err, ⊤}
use Rattle.fix_num.specs.Rounded.{StandsNear}
use Rattle.token_parts.specs.Keywords.{is_keyword, look_up}
use Rattle.token_parts.specs.Parts.{TokenPart, Ident, Function, Number, Comma, Close}
use Rattle.token_parts.specs.declared.fault.ValueFault.{ValueFault}
use Rattle.token_parts.specs.declared.fault.ValueFault.TheVariants.{Unsupported, BoundItems, Bound, NoMemory}
use Rattle.timing_types.specs.Timing.{IsEasing, ease, fewest_steps}
use Rattle.timing_types.specs.declared.easing.Easing.{Easing}
use Rattle.timing_types.specs.declared.easing.Easing.TheVariants.{Linear, Cubic, Steps}
use Rattle.timing_types.specs.declared.easing.Jump.{Jump}
use Rattle.timing_types.specs.declared.easing.Jump.TheVariants.{Start, End, Both, Nowhere}
use Rattle.fix_num.specs.Integer.{IsIntegerText}

-- the easings that are words
abbrev pub easing_words : List (List ℕ × Easing)
easing_words =
    (codes "linear", Linear)
    ∷ (codes "ease", ease)
    ∷ (codes "ease-in", Cubic (pos 420) (pos 0) (pos 1000) (pos 1000))
    ∷ (codes "ease-out", Cubic (pos 0) (pos 0) (pos 580) (pos 1000))
    ∷ (codes "ease-in-out", Cubic (pos 420) (pos 0) (pos 580) (pos 1000))
    ∷ (codes "step-start", Steps 1 Start)
    ∷ (codes "step-end", Steps 1 End)
    ∷ []

-- the places of jumps
abbrev pub jump_words : List (List ℕ × Jump)
jump_words =
    (codes "jump-start", Start)
    ∷ (codes "start", Start)
    ∷ (codes "jump-end", End)
    ∷ (codes "end", End)
    ∷ (codes "jump-both", Both)
    ∷ (codes "jump-none", Nowhere)
    ∷ []

-- an integer that is enough steps for the jump
pub record IsStepCount (number : List ℕ) (jump : Jump) (count : ℕ) : Type 0 where
  pub value : IsIntegerText number (pos count)
  pub enough : fewest_steps jump ≤ count

-- a number from 0 to 1, in thousandths
pub record IsAbscissa (number : List ℕ) (x : ℤ) : Type 0 where
  pub value : StandsNear 3 number x
  pub low : pos 0 ≤ℤ x
  pub high : x ≤ℤ pos 1000

-- the parts spell the easing, whatever the size of its numbers
pub data IsEasingSpelling : List TokenPart → Easing → Type 0 where
  word : (w : List ℕ) (e : Easing) → look_up easing_words w ≡ Some e → IsEasingSpelling (Ident w ∷ []) e
  steps : (f n : List ℕ) (count : ℕ) → IsTrue (is_keyword f (codes "steps")) → IsStepCount n End count
      → IsEasingSpelling (Function f ∷ Number n ∷ Close ∷ []) (Steps count End)
  steps_and_jump : (f n j : List ℕ) (count : ℕ) (jump : Jump) → IsTrue (is_keyword f (codes "steps"))
      → look_up jump_words j ≡ Some jump → IsStepCount n jump count
      → IsEasingSpelling (Function f ∷ Number n ∷ Comma ∷ Ident j ∷ Close ∷ []) (Steps count jump)
  curve : (f a b c d : List ℕ) (x1 y1 x2 y2 : ℤ) → IsTrue (is_keyword f (codes "cubic-bezier"))
      → IsAbscissa a x1 → StandsNear 3 b y1 → IsAbscissa c x2 → StandsNear 3 d y2
      → IsEasingSpelling (Function f ∷ Number a ∷ Comma ∷ Number b ∷ Comma ∷ Number c ∷ Comma ∷ Number d ∷ Close ∷ [])
      (Cubic x1 y1 x2 y2)

-- the answer of the reader of these parts, unless memory runs out
abbrev pub IsEasingAnswer : List TokenPart → Result Easing ValueFault → Type 0
IsEasingAnswer parts (Ok e) = IsEasingSpelling parts e × IsEasing e
IsEasingAnswer parts (Err Unsupported) = (e : Easing) → IsEasingSpelling parts e → ⊥
IsEasingAnswer parts (Err BoundItems) = ⊥
IsEasingAnswer parts (Err Bound) = (e : Easing) × IsEasingSpelling parts e × (IsEasing e → ⊥)
IsEasingAnswer parts (Err NoMemory) = ⊤
