-- What the words of a command line say: options with an argument each (POSIX, XBD 12.1), by long names as in GNU's `getopt_long`.
use Rattle.std.specs.Prelude.{◌≡◌, ◌≢◌, ◌≤◌, ◌-◌, ◌^◌, ◌∷◌, ◌++◌, ℕ, Bool, true, false, List, [], All, Result, Ok, Err, Option, ⊤, codes, find, flat_map, if◌then◌else◌, length, option_map, unwrap_or}
use Rattle.std.specs.List.{AllPairs}
use Rattle.std.specs.Str.Parse.{IsNumeral, digits_value}
use Rattle.command_words.specs.declared.limits.TheConstants.{MAX_DIGITS, MAX_WORKERS}
use Rattle.command_words.specs.declared.words.Words.{Words}
use Rattle.command_words.specs.declared.words.WordsFault.{WordsFault}
use Rattle.command_words.specs.declared.words.WordsFault.TheVariants.{NoMemory, Usage}

-- the options
pub data OptionName : Type 0 where
  Workers : OptionName
  Demo : OptionName

-- how an option is written
abbrev pub spelled : OptionName → List ℕ
spelled Workers = codes "--workers"
spelled Demo = codes "--demo"

-- the least number that an option takes
abbrev pub least : OptionName → ℕ
least Workers = 1
least Demo = 0

-- the most number that it takes
abbrev pub most : OptionName → ℕ
most Workers = MAX_WORKERS
most Demo = 2 ^ 64 - 1

-- the text is an option's argument: some decimal digits, which write a number in its bounds
pub record IsArgument (o : OptionName) (text : List ℕ) : Type 0 where
  pub digits : IsNumeral 10 text
  pub few : length text ≤ MAX_DIGITS
  pub low : least o ≤ digits_value 10 text
  pub high : digits_value 10 text ≤ most o

-- one use of an option: its argument, and whether that stands in the same word
pub record OptionUse : Type 0 where
  pub option : OptionName
  pub argument : List ℕ
  pub is_joined : Bool

-- the words of a use: `--name=argument`, or `--name` and `argument`
abbrev pub words_of : OptionUse → List (List ℕ)
words_of u = if u.is_joined then (spelled u.option ++ codes "=" ++ u.argument) ∷ [] else spelled u.option ∷ u.argument ∷ []

-- whether two options are one
abbrev pub is_same : OptionName → OptionName → Bool
is_same Workers Workers = true
is_same Workers Demo = false
is_same Demo Workers = false
is_same Demo Demo = true

-- the argument of the first use of an option
abbrev pub argument_of : OptionName → List OptionUse → Option (List ℕ)
argument_of o uses = option_map (λ u. u.argument) (find (λ u. is_same u.option o) uses)

-- the number of an option that has an argument
abbrev pub number_of : Option (List ℕ) → Option ℕ
number_of = option_map (digits_value 10)

-- The words are uses of options, one behind the other and no option twice. They ask for the workers that `--workers`
-- says, for one where it isn't there, and for the demo that `--demo` says, for none where it isn't there.
pub record Say (words : List (List ℕ)) (w : Words) : Type 0 where
  pub uses : List OptionUse
  pub written : words ≡ flat_map words_of uses
  pub arguments : All (λ u. IsArgument u.option u.argument) uses
  pub once : AllPairs (λ a b. a.option ≢ b.option) uses
  pub workers : w.workers ≡ unwrap_or (number_of (argument_of Workers uses)) 1
  pub demo : w.demo ≡ number_of (argument_of Demo uses)

-- what the words say; `Usage` exactly where they say nothing
abbrev pub IsReadingOf : List (List ℕ) → Result Words WordsFault → Type 0
IsReadingOf words (Ok w) = Say words w
IsReadingOf words (Err Usage) = (w : Words) → Say words w → ⊥
IsReadingOf words (Err NoMemory) = ⊤
