-- The first fault of a text.
use Rattle.std.specs.Prelude.{◌≡◌, List, ◌++◌, Result, Ok, Err, ⊤}
use Rattle.sheet_rules.specs.declared.fault.CssFault.{CssFault}
use Rattle.sheet_rules.specs.declared.fault.CssFault.TheVariants.{NoMemory}

-- what follows a part that was read; its fault is that of the whole
infixl 10 ◌>>=◌
abbrev pub ◌>>=◌ : {A B : Type 0} → Result A CssFault → (A → Result B CssFault) → Result B CssFault
(Ok x) >>= f = f x
(Err fault) >>= f = Err fault

-- the outcome is that fault, unless memory ran out
abbrev pub Fails : {Y : Type 0} → CssFault → Result Y CssFault → Type 0
Fails NoMemory wanted = ⊤
Fails fault wanted = wanted ≡ Err fault

-- the result is that outcome, unless memory ran out
abbrev pub Gives : {X Y : Type 0} → (X → Y) → Result X CssFault → Result Y CssFault → Type 0
Gives view (Ok x) wanted = wanted ≡ Ok (view x)
Gives view (Err fault) wanted = Fails fault wanted

-- what was found before, and then what is found
abbrev pub after_those : {A : Type 0} → List A → Result (List A) CssFault → Result (List A) CssFault
after_those before found = found >>= (λ more. Ok (before ++ more))

-- the list became longer by that outcome, unless memory ran out
abbrev pub GivesMore : {A : Type 0} → List A → List A → Result Unit CssFault → Result (List A) CssFault → Type 0
GivesMore before now result wanted = Gives (λ _. now) result (after_those before wanted)
