-- Lists of what numbers give.
use Rattle.std.specs.Prelude.{ℕ, zero, suc, List, [], ◌++◌, Option}
use Rattle.std.specs.Option.{option_to_list}

-- what the numbers below n give, in their order
unfoldable pub given_below : {X : Type 0} → (ℕ → Option X) → ℕ → List X
given_below give zero = []
given_below give (suc n) = given_below give n ++ option_to_list (give n)
