-- What a known name declares may be declared there.
use Rattle.std.proofs.Common.{◌≡◌, sym, subst, List, [], ◌∷◌, Ok}
use Rattle.std.specs.Prelude.{All}
use Rattle.std.proofs.lemmas.List.Elements.{All-cons, All-nil}
use Rattle.token_parts.specs.Parts.{TokenPart}
use Rattle.value_types.specs.ListValues.{IsListValueFor}
use Rattle.value_types.specs.declared.list_value.ListName.{ListName}
use Rattle.value_types.specs.declared.list_value.ListValue.{ListValue}
use Rattle.value_text.specs.Reading.{declared_reading}
use Rattle.value_text.proofs.DeclaredLemmas.{answer_declared}
use Rattle.value_text.proofs.ValueLemmas.{answer_from}
use Rattle.list_text.specs.ItemReading.{list_of}
use Rattle.list_text.specs.Lists.{IsListAnswer}
use Rattle.list_text.proofs.AnswerLemmas.{list_answer_of}
use Rattle.shorthand_text.specs.Declaring.{declared_of}
use Rattle.shorthand_text.specs.Longhands.{IsLonghand}
use Rattle.shorthand_text.specs.declared.known_name.KnownName.{KnownName}
use Rattle.shorthand_text.specs.declared.known_name.KnownName.TheVariants as known
use Rattle.shorthand_text.specs.declared.longhand.Longhand.{Longhand}
use Rattle.shorthand_text.specs.declared.longhand.Longhand.TheVariants as given
use Rattle.shorthand_text.proofs.OutcomeLemmas.{map_given}
use Rattle.shorthand_text.proofs.SideLemmas.{shorthand_valid}
use Rattle.shorthand_text.proofs.TimingLemmas.{animation_valid, transition_valid}

alone : (x : Longhand) → IsLonghand x → All IsLonghand (x ∷ [])
alone x h = All-cons IsLonghand x [] h (All-nil IsLonghand)

list_declared : (name : ListName) (parts : List TokenPart) (v : ListValue) → list_of name parts ≡ Ok v → IsListValueFor name v
list_declared name parts v h = let answer : IsListAnswer name parts (Ok v) = subst (IsListAnswer name parts) h (list_answer_of name parts) in answer.2

pub declared_valid : (name : KnownName) (parts : List TokenPart) (ls : List Longhand) → declared_of name parts ≡ Ok ls → All IsLonghand ls
unfolding declared_of
declared_valid (known.Property p) parts ls h =
    let found = map_given (λ d. given.Property p d ∷ []) (declared_reading p parts) ls h in
    subst (All IsLonghand) found.2 (alone (given.Property p found.0) (answer_declared p parts (Ok found.0) (answer_from p parts (Ok found.0) (sym found.1))))
declared_valid (known.List n) parts ls h =
    let found = map_given (λ v. given.List n v ∷ []) (list_of n parts) ls h in
    subst (All IsLonghand) found.2 (alone (given.List n found.0) (list_declared n parts found.0 found.1))
declared_valid (known.Short s) parts ls h = shorthand_valid s parts ls h
declared_valid known.Transition parts ls h = transition_valid parts ls h
declared_valid known.Animation parts ls h = animation_valid parts ls h
