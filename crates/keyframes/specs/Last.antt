-- The last of a list's items.
use Rattle.std.specs.Prelude.{List, [], ◌∷◌, Bool, Option, None, Some, if◌then◌else◌}
use Rattle.std.specs.Option.{option_or}

-- what the last item gives that gives anything
abbrev pub last_given : {X Y : Type 0} → (X → Option Y) → List X → Option Y
last_given give [] = None
last_given give (x ∷ rest) = option_or (last_given give rest) (give x)

-- the last item that passes a test
abbrev pub last_passing : {X : Type 0} → (X → Bool) → List X → Option X
last_passing test xs = last_given (λ x. if test x then Some x else None) xs
