-- The bytes of a whole script.
use Rattle.std.proofs.Common.{◌≡◌, ℕ, List, [], ◌∷◌, ◌++◌, ◌∙◌, ap, sym, refl, append_assoc}
use Rattle.std.specs.Prelude.{codes, decimal}
use Rattle.std.specs.Fmt.{digits}
use Rattle.script_gen.specs.Draws.{sequence_number}
use Rattle.script_gen.specs.Lines.{add_lines, rounds_lines, script_bytes, script_lines, sheet_line, bytes_of_lines}
use Rattle.script_gen.proofs.TextLemmas.{bytes_of_lines-append, bytes_of_lines-cons, bytes_of_lines-one}

pub last_time : decimal 20000 ≡ codes "20000"
unfolding digits
last_time = refl

-- the bytes of two lines and more
two_and_more : (first second : List ℕ) (lines : List (List ℕ))
    → bytes_of_lines (first ∷ second ∷ lines) ≡ (first ++ codes "\n") ++ ((second ++ codes "\n") ++ bytes_of_lines lines)
two_and_more first second lines = bytes_of_lines-cons first _ ∙ ap (λ t. (first ++ codes "\n") ++ t) (bytes_of_lines-cons second lines)

-- the bytes of all lines, part by part
parts : (first root frame time : List ℕ) (adds rounds : List (List ℕ))
    → bytes_of_lines (first ∷ root ∷ adds ++ frame ∷ rounds ++ time ∷ frame ∷ [])
    ≡ ((((((first ++ codes "\n") ++ (root ++ codes "\n")) ++ bytes_of_lines adds) ++ (frame ++ codes "\n")) ++ bytes_of_lines rounds) ++ (time ++ codes "\n")) ++ (frame ++ codes "\n")
parts first root frame time adds rounds =
    bytes_of_lines-append (first ∷ root ∷ adds ++ frame ∷ rounds) (time ∷ frame ∷ [])
    ∙ ap (λ t. t ++ bytes_of_lines (time ∷ frame ∷ [])) (bytes_of_lines-append (first ∷ root ∷ adds) (frame ∷ rounds)
    ∙ ap (λ t. t ++ bytes_of_lines (frame ∷ rounds)) (two_and_more first root adds)
    ∙ ap (λ t. ((first ++ codes "\n") ++ ((root ++ codes "\n") ++ bytes_of_lines adds)) ++ t) (bytes_of_lines-cons frame rounds))
    ∙ ap (λ t. (((first ++ codes "\n") ++ ((root ++ codes "\n") ++ bytes_of_lines adds)) ++ ((frame ++ codes "\n") ++ bytes_of_lines rounds)) ++ t)
    (bytes_of_lines-cons time _ ∙ ap (λ t. (time ++ codes "\n") ++ t) (bytes_of_lines-one frame))
    ∙ simp append_assoc

pub whole_script : (seed y : ℕ) (sheet root adds framed rounds timed all : List ℕ) → y ≡ sequence_number seed 1999
    → sheet ≡ sheet_line ++ codes "\n"
    → root ≡ sheet ++ codes "add 1 - div\n"
    → adds ≡ root ++ bytes_of_lines (add_lines seed)
    → framed ≡ adds ++ codes "frame\n"
    → rounds ≡ framed ++ bytes_of_lines (rounds_lines y)
    → timed ≡ rounds ++ (codes "at " ++ (decimal 20000 ++ codes "\n"))
    → all ≡ timed ++ codes "frame\n"
    → all ≡ script_bytes seed
unfolding script_bytes script_lines
whole_script seed y sheet root adds framed rounds timed all is a b c d e f g =
    g
    ∙ ap (λ t. t ++ codes "frame\n") (f ∙ ap (λ t. rounds ++ (codes "at " ++ (t ++ codes "\n"))) last_time
    ∙ ap (λ t. t ++ codes "at 20000\n") (e ∙ ap (λ z. framed ++ bytes_of_lines (rounds_lines z)) is
    ∙ ap (λ t. t ++ bytes_of_lines (rounds_lines (sequence_number seed 1999))) (d
    ∙ ap (λ t. t ++ codes "frame\n") (c
    ∙ ap (λ t. t ++ bytes_of_lines (add_lines seed)) (b
    ∙ ap (λ t. t ++ codes "add 1 - div\n") a)))))
    ∙ sym (parts sheet_line (codes "add 1 - div") (codes "frame") (codes "at 20000") (add_lines seed) (rounds_lines (sequence_number seed 1999)))
