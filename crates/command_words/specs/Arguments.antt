-- What arguments ask for, as texts.
use Rattle.std.specs.Prelude.{◌≡◌, ℕ, List, Option, None, Some, IfSome, unwrap_or}
use Rattle.std.specs.Str.Parse.{digits_value}
use Rattle.command_words.specs.CommandLine.{Demo, IsArgument, OptionName, Workers, number_of}
use Rattle.command_words.specs.declared.words.Words.{Words}

-- the number of an argument, and none where the text is no argument
abbrev pub IsSetting : OptionName → List ℕ → Option ℕ → Type 0
IsSetting o text (Some n) = IsArgument o text × (n ≡ digits_value 10 text)
IsSetting o text None = IsArgument o text → ⊥

-- an option's text is an argument, if it has any
abbrev pub IsArgumentIfAny : OptionName → Option (List ℕ) → Type 0
IsArgumentIfAny o text = IfSome text (IsArgument o)

-- what the two texts ask for, and none where one is no argument
abbrev pub IsSettingsOf : Option (List ℕ) → Option (List ℕ) → Option Words → Type 0
IsSettingsOf w d (Some words) = IsArgumentIfAny Workers w × IsArgumentIfAny Demo d
    × (words.workers ≡ unwrap_or (number_of w) 1) × (words.demo ≡ number_of d)
IsSettingsOf w d None = IsArgumentIfAny Workers w × IsArgumentIfAny Demo d → ⊥
