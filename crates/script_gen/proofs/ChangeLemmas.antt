-- The lines of changes of class, one after another.
use Rattle.std.proofs.Common.{◌≡◌, ℕ, zero, suc, ◌+◌, ◌*◌, List, ◌∷◌, ◌++◌, ◌∙◌, map, ap, sym, refl, append_assoc, arith}
use Rattle.std.specs.Prelude.{codes, decimal}
use Rattle.std.specs.List.{range_with_len}
use Rattle.script_gen.specs.Draws.{choice, drawn, next_number, sequence_number}
use Rattle.script_gen.specs.Lines.{change_line, changed_class, changed_element, class_word}
use Rattle.script_gen.proofs.DrawLemmas.{drawn-is, sequence_number-more, sequence_number-twice}

-- the next number, by its place
pub next_place : (x n place number : ℕ) → place ≡ n + 1 → number ≡ sequence_number x n → next_number number ≡ sequence_number x place
next_place x n place number at is = ap next_number is ∙ sym (sequence_number-more x n) ∙ ap (sequence_number x) (omega arith)

pub changed_element-drawn : (x i number : ℕ) → number ≡ sequence_number x (2 * i + 1) → changed_element x i ≡ 2 + choice number 1999
unfolding changed_element drawn
changed_element-drawn x i number is = ap (λ y. 2 + choice y 1999) (sym is)

pub changed_class-drawn : (x i number : ℕ) → number ≡ sequence_number x (2 * i + 2) → changed_class x i ≡ class_word (choice number 4)
unfolding changed_class drawn
changed_class-drawn x i number is = ap (λ y. class_word (choice y 4)) (sym is)

-- what is written of change i
pub change_line-written : (x i element : ℕ) (word : List ℕ) → element ≡ changed_element x i → word ≡ changed_class x i
    → codes "class " ++ (decimal element ++ (word ++ codes "\n")) ≡ change_line x i ++ codes "\n"
change_line-written x i element word is has =
    ap (λ n. codes "class " ++ (decimal n ++ (word ++ codes "\n"))) is
    ∙ ap (λ w. codes "class " ++ (decimal (changed_element x i) ++ (w ++ codes "\n"))) has
    ∙ sym (simp append_assoc)

-- ---- changes from a later number on

changed_element-later : (x m i : ℕ) → changed_element (sequence_number x (2 * m)) i ≡ changed_element x (m + i)
changed_element-later x m i =
    changed_element-drawn _ i _ refl
    ∙ sym (changed_element-drawn x (m + i) _ (sequence_number-twice x (2 * m) (2 * i + 1) ∙ ap (sequence_number x) (omega arith)))

changed_class-later : (x m i : ℕ) → changed_class (sequence_number x (2 * m)) i ≡ changed_class x (m + i)
changed_class-later x m i =
    changed_class-drawn _ i _ refl
    ∙ sym (changed_class-drawn x (m + i) _ (sequence_number-twice x (2 * m) (2 * i + 2) ∙ ap (sequence_number x) (omega arith)))

change_line-later : (x m i : ℕ) → change_line (sequence_number x (2 * m)) i ≡ change_line x (m + i)
change_line-later x m i =
    ap (λ n. codes "class " ++ decimal n ++ changed_class (sequence_number x (2 * m)) i) (changed_element-later x m i)
    ∙ ap (λ w. codes "class " ++ decimal (changed_element x (m + i)) ++ w) (changed_class-later x m i)

pub changes-later : (x m from count : ℕ)
    → map (change_line (sequence_number x (2 * m))) (range_with_len from count) ≡ map (change_line x) (range_with_len (m + from) count)
changes-later x m from zero = refl
changes-later x m from (suc count) =
    ap (λ l. l ∷ map (change_line (sequence_number x (2 * m))) (range_with_len (from + 1) count)) (change_line-later x m from)
    ∙ ap (λ ls. change_line x (m + from) ∷ ls)
    (changes-later x m (from + 1) count ∙ ap (λ k. map (change_line x) (range_with_len k count)) (omega arith))

-- ---- changes by the draws of the seed

pub element_of_seed : (seed i : ℕ) → changed_element (sequence_number seed 1999) i ≡ 2 + drawn seed (2000 + 2 * i) 1999
element_of_seed seed i =
    changed_element-drawn (sequence_number seed 1999) i (sequence_number seed (2000 + 2 * i)) (sym (sequence_number-twice seed 1999 (2 * i + 1) ∙ ap (sequence_number seed) (omega arith)))
    ∙ ap (λ k. 2 + k) (sym (drawn-is seed (2000 + 2 * i) 1999))

pub class_of_seed : (seed i : ℕ) → changed_class (sequence_number seed 1999) i ≡ class_word (drawn seed (2001 + 2 * i) 4)
class_of_seed seed i =
    changed_class-drawn (sequence_number seed 1999) i (sequence_number seed (2001 + 2 * i)) (sym (sequence_number-twice seed 1999 (2 * i + 2) ∙ ap (sequence_number seed) (omega arith)))
    ∙ ap class_word (sym (drawn-is seed (2001 + 2 * i) 4))
