-- What is read, or why nothing is.
use Rattle.std.specs.Prelude.{List, [], ◌∷◌, Result, Ok, Err}
use Rattle.token_parts.specs.declared.fault.ValueFault.{ValueFault}
use Rattle.value_text.specs.Reading.{both}

-- the same with f of what it gives
abbrev pub outcome_map : {A B : Type 0} → (A → B) → Result A ValueFault → Result B ValueFault
outcome_map f (Ok x) = Ok (f x)
outcome_map f (Err fault) = Err fault

-- what f says of what it gives
abbrev pub outcome_then : {A B : Type 0} → Result A ValueFault → (A → Result B ValueFault) → Result B ValueFault
outcome_then (Ok x) f = f x
outcome_then (Err fault) f = Err fault

-- what each of them gives: what is unsupported in one comes before a bound in another
abbrev pub all_given : {A : Type 0} → List (Result A ValueFault) → Result (List A) ValueFault
all_given [] = Ok []
all_given (x ∷ xs) = both ◌∷◌ x (all_given xs)
