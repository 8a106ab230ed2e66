use Rattle.std.proofs.Common.{[], Err, inl, inr, ◌≢◌, sym, ap, refl, true, map, List, ◌≡◌, ◌∙◌}
use Rattle.std.specs.String.{string_bytes}
use Rattle.clap.specs.Words.{App, Text, HasKind, kind_of, matches_of, app_of, first_of, found_of, is_simple, is_simple_and_free, fault_of}
use Rattle.clap.proofs.OnLiterals.{clap_on_literals}
use Rattle.clap.proofs.WalkLemmas.{first_value-rows}
use Rattle.command_words.specs.Parse.{IsParseOf, app}
use Rattle.command_words.specs.declared.words.WordsFault.{WordsFault}
use Rattle.command_words.specs.declared.words.WordsFault.TheVariants.{NoMemory, Usage}
use Rattle.clap.specs.declared.error.Error.{Error}
use Rattle.clap.specs.declared.error.kind.ErrorKind.TheVariants.{OutOfMemory}
use Rattle.command_words.proofs.parse.parse.Goals as goal

free : is_simple_and_free app ≡ true
unfolding app clap_on_literals
free = refl

simple : is_simple app ≡ true
unfolding app clap_on_literals
simple = refl

pub returns-in-Ok-try_get_matches_from : goal.returns-in-Ok-try_get_matches_from
returns-in-Ok-try_get_matches_from c =
    let same : app_of c.in-Ok.command ≡ app = c.in-Ok.ensures in
    let fails = c.in-Ok-try_get_matches_from.ensures.kinds (ap is_simple_and_free same ∙ free) in
    let rows = (c.in-Ok-try_get_matches_from.ensures.matches (ap is_simple same ∙ simple)).0 in
    let words : List Text = map string_bytes c.args.words.now in (
      ap (λ (a : App). fault_of a words) (sym same) ∙ fails,
      λ id. first_value-rows (found_of c.in-Ok-try_get_matches_from.matches) id ∙ ap (first_of id) (rows ∙ ap (λ (a : App). matches_of a words) same),
    )

refused : (e : Error) (a b : App) (words : List Text) → a ≡ b → HasKind (fault_of a words) e → kind_of e ≢ OutOfMemory → fault_of b words ≢ []
refused e a b words same (inl memory) other none = absurd (other memory)
refused e a b words same (inr among) other none =
    let empty : fault_of a words ≡ [] = ap (λ (x : App). fault_of x words) same ∙ none in
    rw empty at among

pub returns-in-Err : goal.returns-in-Err
returns-in-Err c =
    let words : List Text = map string_bytes c.args.words.now in
    let same : app_of c.in-Ok.command ≡ app = c.in-Ok.ensures in
    let kinds : HasKind (fault_of (app_of c.in-Ok.command) words) c.in-Err.error = c.in-Err.ensures.kinds (ap is_simple_and_free same ∙ free) in
    go (refused c.in-Err.error (app_of c.in-Ok.command) app words same kinds) c.fault.result c.fault.ensures
  where
    go : {P : Type 0} → (P → fault_of app (map string_bytes c.args.words.now) ≢ []) → (f : WordsFault) → (f ≡ Usage → P) → IsParseOf (map string_bytes c.args.words.now) (Err f)
    go more NoMemory h = tt
    go more Usage h = more (h refl)
