-- The command of each kind of line.
use Rattle.std.proofs.Common.{◌≡◌, ℕ, zero, suc, ◌<◌, ◌≤◌, ◌+◌, ◌*◌, ◌^◌, false, List, [], ◌∷◌, ◌++◌, drop, true, refl, ap, sym, ◌∙◌, inr, append-nil, append_assoc, subst, arith}
use Rattle.std.proofs.lemmas.Bool.{and_from}
use Rattle.std.proofs.lemmas.Fmt.{decimal_is_IsNumeral}
use Rattle.std.proofs.lemmas.Str.{IsUtf8-nil}
use Rattle.std.specs.Prelude.{codes, decimal, pos, Some, None, Ok}
use Rattle.std.specs.Str.Parse.{digits_value}
use Rattle.fix_num.proofs.ValueLemmas.{digits_value-append}
use Rattle.fix_num.specs.Decimal.{Decimal, units_of}
use Rattle.script_text.proofs.CommandLemmas.{command_is}
use Rattle.script_text.proofs.FormLemmas.{name_is_utf8}
use Rattle.script_text.proofs.LineLemmas.{AreTexts, line_of_texts, numeral_is_utf8}
use Rattle.script_text.proofs.SolidLemmas.{alone, name_solid, numeral_solid}
use Rattle.script_text.specs.Bounds.{IsInBounds}
use Rattle.script_text.specs.Commands.{command_from}
use Rattle.script_text.specs.Forms.{IsTimeWord, is_script_name}
use Rattle.script_text.specs.Reading.{command_of}
use Rattle.script_text.specs.Statements.{Says, Statement, Add, Class, Sheet, At, Frame}
use Rattle.script_text.specs.Words.{AreInOrder, HasWords, IsSolid, ends_with_space}
use Rattle.script_text.specs.declared.command.Command.TheVariants as command
use Rattle.script_gen.specs.Lines.{class_word, sheet_line, sheet_text}
use Rattle.script_commands.specs.Generated.{class_names, time_command}
use Rattle.script_commands.proofs.WordLemmas.{decimal_numeral, ends_solid, has_words, in_front, numeral_of, plain_is_utf8}

-- a line of words says what they say
said : (line body front last word : List ℕ) (words : List (List ℕ)) (s : Statement) → line ≡ body → AreInOrder body (word ∷ words) []
    → line ≡ front ++ last → IsSolid last → AreTexts (word ∷ words) → Says (word ∷ words) [] s → IsInBounds s → command_of line ≡ Ok (command_from s)
said line body front last word words s is order ending solid texts says bounds =
    let P : List ℕ → Type 0 = λ l. AreInOrder l (word ∷ words) [] in
    let has = has_words line word words (subst P (sym is) order) (ap ends_with_space ending ∙ ends_solid front last solid) in
    command_is line (command_from s) (s, inr (line_of_texts line (word ∷ words) [] has texts IsUtf8-nil, (word ∷ words, [], has, says)), bounds, refl)

-- ---- frames and the root

pub frame_read : command_of (codes "frame") ≡ Ok command.Frame
frame_read =
    let solid = name_solid (codes "frame") refl in
    said (codes "frame") (codes "frame") [] (codes "frame") (codes "frame") [] Frame refl (alone (codes "frame") solid) refl solid
    (name_is_utf8 (codes "frame") refl, tt) (refl, refl) tt

pub root_read : command_of (codes "add 1 - div") ≡ Ok (command.Add 1 None (codes "div"))
root_read =
    let tag = name_solid (codes "div") refl in
    let third = in_front (codes "-") (codes "div") (codes "div") [] (record { some = omega arith; solid = refl }) (alone (codes "div") tag) in
    let second = in_front (codes "1") (codes "- div") (codes "-") (codes "div" ∷ []) (record { some = omega arith; solid = refl }) third in
    let first = in_front (codes "add") (codes "1 - div") (codes "1") (codes "-" ∷ codes "div" ∷ []) (name_solid (codes "add") refl) second in
    said (codes "add 1 - div") (codes "add 1 - div") (codes "add 1 - ") (codes "div") (codes "add") (codes "1" ∷ codes "-" ∷ codes "div" ∷ []) (Add 1 None (codes "div"))
    refl first refl tag
    (name_is_utf8 (codes "add") refl, (numeral_is_utf8 (codes "1") refl, (plain_is_utf8 (codes "-") refl, (name_is_utf8 (codes "div") refl, tt))))
    (codes "1", codes "-", refl, refl, record { digits = refl; value = refl }, refl, refl) ((omega arith, omega arith), tt)

-- ---- other elements

pub child_read : (n parent : ℕ) → n ≤ 2000 → 1 ≤ parent → parent < n
    → command_of (codes "add " ++ decimal n ++ codes " " ++ decimal parent ++ codes " p") ≡ Ok (command.Add n (Some parent) (codes "p"))
child_read n parent to some below =
    let small : n < 2 ^ 64 = omega arith in
    let few : parent < 2 ^ 64 = omega arith in
    let number = decimal_numeral n small in
    let above = decimal_numeral parent few in
    let tag = name_solid (codes "p") refl in
    let third = in_front (decimal parent) (codes "p") (codes "p") [] (numeral_solid (decimal parent) above) (alone (codes "p") tag) in
    let second = in_front (decimal n) (decimal parent ++ codes " " ++ codes "p") (decimal parent) (codes "p" ∷ []) (numeral_solid (decimal n) number) third in
    let first = in_front (codes "add") (decimal n ++ codes " " ++ (decimal parent ++ codes " " ++ codes "p")) (decimal n) (decimal parent ∷ codes "p" ∷ []) (name_solid (codes "add") refl) second in
    said (codes "add " ++ decimal n ++ codes " " ++ decimal parent ++ codes " p") (codes "add" ++ codes " " ++ (decimal n ++ codes " " ++ (decimal parent ++ codes " " ++ codes "p")))
    (codes "add " ++ decimal n ++ codes " " ++ decimal parent ++ codes " ") (codes "p") (codes "add") (decimal n ∷ decimal parent ∷ codes "p" ∷ []) (Add n (Some parent) (codes "p"))
    (simp append_assoc) first (sym (append_assoc (codes "add " ++ decimal n ++ codes " " ++ decimal parent) (codes " ") (codes "p"))) tag
    (name_is_utf8 (codes "add") refl, (numeral_is_utf8 (decimal n) number, (numeral_is_utf8 (decimal parent) above, (name_is_utf8 (codes "p") refl, tt))))
    (decimal n, decimal parent, refl, refl, numeral_of n small, numeral_of parent few, refl) ((omega arith, omega arith), (omega arith, omega arith))

-- ---- changes of class

named : (n : ℕ) (name : List ℕ) → 2 ≤ n → n ≤ 2000 → is_script_name name ≡ true
    → command_of (codes "class " ++ decimal n ++ (codes " " ++ name)) ≡ Ok (command.Class n (name ∷ []))
named n name from to is =
    let small : n < 2 ^ 64 = omega arith in
    let number = decimal_numeral n small in
    let solid = name_solid name is in
    let second = in_front (decimal n) name name [] (numeral_solid (decimal n) number) (alone name solid) in
    let first = in_front (codes "class") (decimal n ++ codes " " ++ name) (decimal n) (name ∷ []) (name_solid (codes "class") refl) second in
    said (codes "class " ++ decimal n ++ (codes " " ++ name)) (codes "class" ++ codes " " ++ (decimal n ++ codes " " ++ name))
    (codes "class " ++ decimal n ++ codes " ") name (codes "class") (decimal n ∷ name ∷ []) (Class n (name ∷ []))
    (simp append_assoc) first (sym (append_assoc (codes "class " ++ decimal n) (codes " ") name)) solid
    (name_is_utf8 (codes "class") refl, (numeral_is_utf8 (decimal n) number, (name_is_utf8 name is, tt)))
    (decimal n, refl, refl, numeral_of n small, and_from _ _ is refl) (omega arith, omega arith)

unnamed : (n : ℕ) → 2 ≤ n → n ≤ 2000 → command_of (codes "class " ++ decimal n ++ []) ≡ Ok (command.Class n [])
unnamed n from to =
    let small : n < 2 ^ 64 = omega arith in
    let number = decimal_numeral n small in
    let solid = numeral_solid (decimal n) number in
    let first = in_front (codes "class") (decimal n) (decimal n) [] (name_solid (codes "class") refl) (alone (decimal n) solid) in
    said (codes "class " ++ decimal n ++ []) (codes "class" ++ codes " " ++ decimal n) (codes "class ") (decimal n) (codes "class") (decimal n ∷ []) (Class n [])
    (append-nil (codes "class " ++ decimal n)) first (append-nil (codes "class " ++ decimal n)) solid
    (name_is_utf8 (codes "class") refl, (numeral_is_utf8 (decimal n) number, tt))
    (decimal n, refl, refl, numeral_of n small, refl) (omega arith, omega arith)

pub change_read : (n k : ℕ) → 2 ≤ n → n ≤ 2000 → command_of (codes "class " ++ decimal n ++ class_word k) ≡ Ok (command.Class n (class_names k))
change_read n zero from to = named n (codes "a") from to refl
change_read n (suc zero) from to = named n (codes "b") from to refl
change_read n (suc (suc zero)) from to = named n (codes "c") from to refl
change_read n (suc (suc (suc k))) from to = unnamed n from to

-- ---- times

-- the decimal that the digits of t are
abbrev whole_decimal : ℕ → Decimal
whole_decimal t = record { negative = false; whole = decimal t; fraction = [] }

micros_of : (t : ℕ) → t < 2 ^ 64 → units_of 3 (whole_decimal t) ≡ 1000 * t
unfolding units_of
micros_of t small =
    let digits = digits_value-append (decimal t ++ []) (48 ∷ 48 ∷ 48 ∷ []) in
    let all : digits_value 10 (decimal t ++ []) ≡ t = ap (digits_value 10) (append-nil (decimal t)) ∙ (decimal_is_IsNumeral t small).1 in
    digits ∙ ap (λ n. n * 1000 + 0) all ∙ omega arith

pub time_read : (t : ℕ) → t ≤ 20000 → command_of (codes "at " ++ decimal t) ≡ Ok (time_command t)
time_read t to =
    let small : t < 2 ^ 64 = omega arith in
    let number = decimal_numeral t small in
    let solid = numeral_solid (decimal t) number in
    let first = in_front (codes "at") (decimal t) (decimal t) [] (name_solid (codes "at") refl) (alone (decimal t) solid) in
    let word : IsTimeWord (decimal t) (whole_decimal t) = record { spelled = sym (append-nil (decimal t)); whole = number; fraction = refl; unsigned = refl } in
    let micros = micros_of t small in
    said (codes "at " ++ decimal t) (codes "at" ++ codes " " ++ decimal t) (codes "at ") (decimal t) (codes "at") (decimal t ∷ []) (At (whole_decimal t))
    refl first refl solid (name_is_utf8 (codes "at") refl, (numeral_is_utf8 (decimal t) number, tt))
    (decimal t, refl, refl, word) (refl, omega arith)
    ∙ ap (λ n. Ok (command.At (record { 0 = pos n }))) micros

-- ---- the sheet

pub sheet_read : command_of sheet_line ≡ Ok (command.Sheet 1 sheet_text)
sheet_read =
    let order : AreInOrder sheet_line (codes "sheet" ∷ codes "1" ∷ []) sheet_text = (
      name_solid (codes "sheet") refl,
      (
        codes " ",
        drop 6 sheet_line,
        refl,
        record { spaces = refl; some = λ e. cc; whole = refl },
        (record { some = omega arith; solid = refl }, (codes " ", sheet_text, refl, record { spaces = refl; some = λ e. cc; whole = refl }, refl)),
      ),
    ) in
    let has : HasWords sheet_line (codes "sheet" ∷ codes "1" ∷ []) sheet_text =
    (sheet_line, record { spelled = ([], [], refl, refl, refl); front = refl; back = refl }, order) in
    command_is sheet_line (command.Sheet 1 sheet_text) (
      Sheet 1 sheet_text,
      inr (
        plain_is_utf8 sheet_line refl,
        (
          codes "sheet" ∷ codes "1" ∷ [],
          sheet_text,
          has,
          (codes "1", refl, refl, record { digits = refl; value = refl }),
        ),
      ),
      (omega arith, omega arith),
      refl,
    )
