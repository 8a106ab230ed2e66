-- The commands of all lines.
use Rattle.std.proofs.Common.{◌≡◌, ◌≤◌, ◌<◌, ℕ, zero, suc, ◌+◌, ◌-◌, ◌*◌, List, [], ◌∷◌, ◌++◌, map, refl, ap, sym, ◌∙◌, arith}
use Rattle.std.proofs.lemmas.List.{map-append}
use Rattle.std.specs.Prelude.{codes, decimal, None, Ok, Result, flat_map}
use Rattle.std.specs.List.{range_with_len}
use Rattle.script_text.specs.Reading.{command_of}
use Rattle.script_text.specs.declared.command.Command.{Command}
use Rattle.script_text.specs.declared.command.Command.TheVariants.{Add, Sheet, Frame}
use Rattle.script_text.specs.declared.refusal.Refusal.{Refusal}
use Rattle.script_gen.proofs.FormLemmas.{element_within, parent_within}
use Rattle.script_gen.proofs.ScriptLemmas.{last_time}
use Rattle.script_gen.specs.Draws.{drawn, sequence_number}
use Rattle.script_gen.specs.Lines.{add_line, add_lines, change_line, changed_class, changed_element, drawn_parent, round_lines, rounds_lines, script_lines, sheet_line, sheet_text}
use Rattle.script_commands.specs.Generated.{add_command, change_command, round_commands, script_commands, time_command}
use Rattle.script_commands.proofs.CommandLemmas.{change_read, child_read, frame_read, root_read, sheet_read, time_read}

-- what the lines are read as
abbrev Read : Type 0
Read = Result Command Refusal

abbrev accepted : Command → Read
accepted c = Ok c

abbrev AreRead : List (List ℕ) → List Command → Type 0
AreRead lines commands = map command_of lines ≡ map accepted commands

one_read : (line : List ℕ) (c : Command) (lines : List (List ℕ)) (cs : List Command) → command_of line ≡ accepted c → AreRead lines cs → AreRead (line ∷ lines) (c ∷ cs)
one_read line c lines cs first rest = ap (λ r. r ∷ map command_of lines) first ∙ ap (λ rs. accepted c ∷ rs) rest

both_read : (lines more : List (List ℕ)) (cs others : List Command) → AreRead lines cs → AreRead more others → AreRead (lines ++ more) (cs ++ others)
both_read lines more cs others first rest =
    map-append command_of lines more
    ∙ ap (λ rs. rs ++ map command_of more) first
    ∙ ap (λ rs. map accepted cs ++ rs) rest
    ∙ sym (map-append accepted cs others)

range_read : (f : ℕ → List ℕ) (g : ℕ → Command) (first count : ℕ) → ((n : ℕ) → first ≤ n → n < first + count → command_of (f n) ≡ accepted (g n))
    → AreRead (map f (range_with_len first count)) (map g (range_with_len first count))
range_read f g first zero each = refl
range_read f g first (suc count) each =
    one_read (f first) (g first) (map f (range_with_len (first + 1) count)) (map g (range_with_len (first + 1) count)) (each first (omega arith) (omega arith))
    (range_read f g (first + 1) count (λ n from below. each n (omega arith) (omega arith)))

-- ---- lines

add_read : (seed n : ℕ) → 2 ≤ n → n ≤ 2000 → command_of (add_line seed n) ≡ accepted (add_command seed n)
add_read seed n from to = let parent = parent_within seed n from in child_read n (drawn_parent seed n) to parent.0 parent.1

change_line_read : (x i : ℕ) → command_of (change_line x i) ≡ accepted (change_command x i)
unfolding changed_class
change_line_read x i = let element = element_within x i in change_read (changed_element x i) (drawn x (2 * i + 2) 4) element.0 element.1

adds_read : (seed : ℕ) → AreRead (add_lines seed) (map (add_command seed) (range_with_len 2 1999))
unfolding add_lines
adds_read seed = range_read (add_line seed) (add_command seed) 2 1999 (λ n from below. add_read seed n from (omega arith))

round_read : (x r : ℕ) → r ≤ 60 → AreRead (round_lines x r) (round_commands x r)
unfolding round_lines round_commands
round_read x r to =
    both_read (map (change_line x) (range_with_len (50 * (r - 1)) 50)) ((codes "at " ++ decimal (200 * r)) ∷ codes "frame" ∷ [])
    (map (change_command x) (range_with_len (50 * (r - 1)) 50)) (time_command (200 * r) ∷ Frame ∷ [])
    (range_read (change_line x) (change_command x) (50 * (r - 1)) 50 (λ i from below. change_line_read x i))
    (one_read (codes "at " ++ decimal (200 * r)) (time_command (200 * r)) (codes "frame" ∷ []) (Frame ∷ []) (time_read (200 * r) (omega arith))
    (one_read (codes "frame") Frame [] [] frame_read refl))

each_round_read : (x first count : ℕ) → first + count ≤ 61
    → AreRead (flat_map (round_lines x) (range_with_len first count)) (flat_map (round_commands x) (range_with_len first count))
each_round_read x first zero to = refl
each_round_read x first (suc count) to =
    both_read (round_lines x first) (flat_map (round_lines x) (range_with_len (first + 1) count)) (round_commands x first) (flat_map (round_commands x) (range_with_len (first + 1) count))
    (round_read x first (omega arith)) (each_round_read x (first + 1) count (omega arith))

rounds_read : (x : ℕ) → AreRead (rounds_lines x) (flat_map (round_commands x) (range_with_len 1 60))
unfolding rounds_lines
rounds_read x = each_round_read x 1 60 (omega arith)

last_time_read : command_of (codes "at 20000") ≡ accepted (time_command 20000)
last_time_read = ap (λ t. command_of (codes "at " ++ t)) (sym last_time) ∙ time_read 20000 (omega arith)

pub script_read : (seed : ℕ) → map command_of (script_lines seed) ≡ map accepted (script_commands seed)
unfolding script_lines script_commands
script_read seed =
    let x = sequence_number seed 1999 in
    let adds = add_lines seed in
    let children = map (add_command seed) (range_with_len 2 1999) in
    let rounds = rounds_lines x in
    let changes = flat_map (round_commands x) (range_with_len 1 60) in
    both_read (sheet_line ∷ codes "add 1 - div" ∷ adds ++ codes "frame" ∷ rounds) (codes "at 20000" ∷ codes "frame" ∷ [])
    (Sheet 1 sheet_text ∷ Add 1 None (codes "div") ∷ children ++ Frame ∷ changes) (time_command 20000 ∷ Frame ∷ [])
    (both_read (sheet_line ∷ codes "add 1 - div" ∷ adds) (codes "frame" ∷ rounds) (Sheet 1 sheet_text ∷ Add 1 None (codes "div") ∷ children) (Frame ∷ changes)
    (one_read sheet_line (Sheet 1 sheet_text) (codes "add 1 - div" ∷ adds) (Add 1 None (codes "div") ∷ children) sheet_read
    (one_read (codes "add 1 - div") (Add 1 None (codes "div")) adds children root_read (adds_read seed)))
    (one_read (codes "frame") Frame rounds changes frame_read (rounds_read x)))
    (one_read (codes "at 20000") (time_command 20000) (codes "frame" ∷ []) (Frame ∷ []) last_time_read (one_read (codes "frame") Frame [] [] frame_read refl))
