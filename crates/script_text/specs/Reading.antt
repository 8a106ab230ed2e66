-- The command of a line as a function.
use Rattle.std.specs.Prelude.{◌≡◌, ℕ, ℤ, pos, negsuc, nat_le, nat_lt, ◌==◌, Bool, ◌&&◌, ◌||◌, List, length, slice_index, if◌then◌else◌, Option, Some, None, Result, Ok, Err, option_map, codes}
use Rattle.std.specs.List.{list_all}
use Rattle.std.specs.Str.{bytes_eq, is_utf8}
use Rattle.std.specs.Str.Parse.{digits_value}
use Rattle.fix_num.specs.Decimal.{Decimal, is_exact, units_of}
use Rattle.fix_num.specs.declared.decimal.NumFault.{NumFault}
use Rattle.fix_num.specs.declared.decimal.NumFault.TheVariants.{Syntax as not_decimal, TooFine, TooLarge}
use Rattle.fix_num.specs.declared.limits.TheConstants.{MAX_TIME}
use Rattle.fix_num.specs.declared.units.Micros.{Micros}
use Rattle.value_types.specs.Properties.{property_named}
use Rattle.script_text.specs.declared.command.Command.{Command}
use Rattle.script_text.specs.declared.refusal.Refusal.{Refusal}
use Rattle.script_text.specs.declared.refusal.Refusal.TheVariants.{Syntax, BoundNumber}
use Rattle.script_text.specs.declared.refusal.ReadCommandFault.{ReadCommandFault}
use Rattle.script_text.specs.declared.refusal.ReadCommandFault.TheVariants.{Refused, NoMemory}
use Rattle.script_text.specs.Bounds.{is_in_bounds}
use Rattle.script_text.specs.Commands.{command_from}
use Rattle.script_text.specs.Forms.{is_numeral, is_parent_word, is_script_name, parent_of_word, time_of_word}
use Rattle.script_text.specs.Statements.{Statement, Nothing, Add, Insert, Remove, Id, Class, Style, Sheet, At, Frame, Get, Listing}
use Rattle.script_text.specs.Words.{after_word, first_word, trimmed, words_of}

-- ---- what each kind of line says, by its second word and what follows that

abbrev pub add_said : List ℕ → List ℕ → Option Statement
add_said number rest =
    let above = first_word rest in
    let tag = after_word rest in
    if is_numeral number && is_parent_word above && is_script_name tag then Some (Add (digits_value 10 number) (parent_of_word above) tag) else None

abbrev pub insert_said : List ℕ → List ℕ → Option Statement
insert_said number rest =
    let next = first_word rest in
    let tag = after_word rest in
    if is_numeral number && is_numeral next && is_script_name tag then Some (Insert (digits_value 10 number) (digits_value 10 next) tag) else None

abbrev pub remove_said : List ℕ → List ℕ → Option Statement
remove_said number rest = if is_numeral number && length rest == 0 then Some (Remove (digits_value 10 number)) else None

abbrev pub id_said : List ℕ → List ℕ → Option Statement
id_said number rest =
    if length rest == 0 then (if is_numeral number then Some (Id (digits_value 10 number) None) else None)
    else if is_numeral number && is_script_name rest then Some (Id (digits_value 10 number) (Some rest))
    else None

-- the words of the text, where each is a name
abbrev pub names_of : List ℕ → Option (List (List ℕ))
names_of text = if list_all is_script_name (words_of text) then Some (words_of text) else None

abbrev pub class_said : List ℕ → List ℕ → Option Statement
class_said number rest = if is_numeral number then option_map (Class (digits_value 10 number)) (names_of rest) else None

abbrev pub style_said : List ℕ → List ℕ → Option Statement
style_said number text = if is_numeral number then Some (Style (digits_value 10 number) text) else None

abbrev pub sheet_said : List ℕ → List ℕ → Option Statement
sheet_said number text = if is_numeral number then Some (Sheet (digits_value 10 number) text) else None

abbrev pub at_said : List ℕ → List ℕ → Option Statement
at_said time rest = if length rest == 0 then option_map At (time_of_word time) else None

abbrev pub get_said : List ℕ → List ℕ → Option Statement
get_said number name = if is_numeral number then option_map (Get (digits_value 10 number)) (property_named name) else None

abbrev pub list_said : List ℕ → List ℕ → Option Statement
list_said number rest = if is_numeral number && length rest == 0 then Some (Listing (digits_value 10 number)) else None

-- ---- what any line says

-- by its first word, its second, and what follows that
unfoldable pub otherwise_said_by : List ℕ → List ℕ → List ℕ → Option Statement
otherwise_said_by word second rest =
    if bytes_eq word (codes "style") then style_said second rest
    else if bytes_eq word (codes "sheet") then sheet_said second rest
    else if bytes_eq word (codes "at") then at_said second rest
    else if bytes_eq word (codes "frame") then (if length second == 0 then Some Frame else None)
    else if bytes_eq word (codes "get") then get_said second rest
    else if bytes_eq word (codes "list") then list_said second rest
    else None

unfoldable pub said_by : List ℕ → List ℕ → List ℕ → Option Statement
said_by word second rest =
    if bytes_eq word (codes "add") then add_said second rest
    else if bytes_eq word (codes "insert") then insert_said second rest
    else if bytes_eq word (codes "remove") then remove_said second rest
    else if bytes_eq word (codes "id") then id_said second rest
    else if bytes_eq word (codes "class") then class_said second rest
    else otherwise_said_by word second rest

-- the line without the spaces at its ends is empty or begins with '#'
abbrev pub is_blank_body : List ℕ → Bool
is_blank_body body = length body == 0 || slice_index body 0 == 35

abbrev pub said_by_body : List ℕ → Option Statement
said_by_body body = said_by (first_word body) (first_word (after_word body)) (after_word (after_word body))

-- what the line says, where it is in the grammar
unfoldable pub statement_of : List ℕ → Option Statement
statement_of line =
    if is_blank_body (trimmed line) then Some Nothing
    else if is_utf8 line then said_by_body (trimmed line)
    else None

-- the command of what was said, or why there is none
abbrev pub judged_statement : Option Statement → Result Command Refusal
judged_statement None = Err Syntax
judged_statement (Some s) = if is_in_bounds s then Ok (command_from s) else Err BoundNumber

-- the command of a line, or why it is none
abbrev pub command_of : List ℕ → Result Command Refusal
command_of line = judged_statement (statement_of line)

-- the result is that outcome, unless memory ran out
abbrev pub AnswersReading : Result Command Refusal → Result Command ReadCommandFault → Type 0
AnswersReading wanted (Ok c) = wanted ≡ Ok c
AnswersReading wanted (Err (Refused r)) = wanted ≡ Err r
AnswersReading wanted (Err NoMemory) = Unit {0}

-- the number, or the fault of one that is out of its bounds
abbrev pub bounded_number : {T : Type 0} → Bool → T → Result T ReadCommandFault
bounded_number within number = if within then Ok number else Err (Refused BoundNumber)

-- the result is those names, unless memory ran out
abbrev pub AnswersNames : Option (List (List ℕ)) → Result (List (List ℕ)) ReadCommandFault → Type 0
AnswersNames wanted (Ok names) = wanted ≡ Some names
AnswersNames wanted (Err (Refused r)) = (wanted ≡ None) × (r ≡ Syntax)
AnswersNames wanted (Err NoMemory) = Unit {0}

-- the number, where it is above 0
abbrev pub positive_of : ℤ → Result ℕ ReadCommandFault
positive_of (pos n) = bounded_number (nat_lt 0 n) n
positive_of (negsuc n) = Err (Refused BoundNumber)

-- the time of a decimal in microseconds
abbrev pub judged_time : Option Decimal → Result Micros ReadCommandFault
judged_time None = Err (Refused Syntax)
judged_time (Some d) = bounded_number (is_exact 3 d && nat_le (units_of 3 d) MAX_TIME) (record { 0 = pos (units_of 3 d) })

-- why a time is refused that isn't read
abbrev pub fault_of_time : NumFault → ReadCommandFault
fault_of_time not_decimal = Refused Syntax
fault_of_time TooFine = Refused BoundNumber
fault_of_time TooLarge = Refused BoundNumber
