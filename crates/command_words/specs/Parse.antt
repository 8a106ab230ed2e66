-- The command as its parser sees it.
use Rattle.std.specs.Prelude.{◌≡◌, ◌≢◌, ℕ, Bool, ◌∷◌, true, List, [], Result, Ok, Err, Some, ⊤, codes}
use Rattle.std.specs.Str.{bytes_eq}
use Rattle.clap.specs.Words.{App, Rule, first_of, first_value, found_of, fault_of, matches_of, new_app, new_rule, with_rule}
use Rattle.clap.specs.declared.parser.matches.ArgMatches.{ArgMatches}
use Rattle.command_words.specs.declared.words.WordsFault.{WordsFault}
use Rattle.command_words.specs.declared.words.WordsFault.TheVariants.{NoMemory, Usage}

-- the option `--name`
abbrev pub option_rule : List ℕ → Rule
option_rule name = record (new_rule name) { long = Some name }

-- the command without its options: no word is the program's name, and none asks for help
abbrev pub bare : App
bare = let empty = new_app (codes "transcript_cli") in
    record empty { top = record empty.top { no_binary_name = true; disable_help_flag = true } }

-- the command with its options
abbrev pub command_app : App
command_app = with_rule (with_rule bare (option_rule (codes "workers"))) (option_rule (codes "demo"))

-- the same as a word that isn't computed by itself
unfoldable pub app : App
app = command_app

-- the delimiter of options, `--`
abbrev pub is_dashes : List ℕ → Bool
is_dashes word = bytes_eq word (45 ∷ 45 ∷ [])

-- what a parse gives: an option's argument where the words are taken, `Usage` where they aren't
abbrev pub IsParseOf : List (List ℕ) → Result ArgMatches WordsFault → Type 0
IsParseOf words (Ok m) = (fault_of app words ≡ []) × ((id : List ℕ) → first_value (found_of m) id ≡ first_of id (matches_of app words))
IsParseOf words (Err Usage) = fault_of app words ≢ []
IsParseOf words (Err NoMemory) = ⊤
