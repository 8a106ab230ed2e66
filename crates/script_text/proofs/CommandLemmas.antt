-- The command of a line, as a relation and as a function.
use Rattle.std.proofs.Common.{◌≡◌, ℕ, Bool, true, false, List, refl, ap, sym, subst, ◌∙◌, inl, inr}
use Rattle.std.specs.Prelude.{◌⊎◌, if◌then◌else◌, Option, Some, None, Result, Ok, Err}
use Rattle.std.proofs.lemmas.Bool.{cases_Bool}
use Rattle.script_text.specs.declared.command.Command.{Command}
use Rattle.script_text.specs.declared.refusal.Refusal.{Refusal}
use Rattle.script_text.specs.declared.refusal.Refusal.TheVariants.{Syntax, BoundNumber}
use Rattle.script_text.specs.Bounds.{IsInBounds, is_in_bounds}
use Rattle.script_text.specs.Commands.{IsCommand, IsRefused, command_from}
use Rattle.script_text.specs.Reading.{command_of, judged_statement, statement_of}
use Rattle.script_text.specs.Statements.{Statement}
use Rattle.script_text.proofs.BoundLemmas.{bounds_are, bounds_told}
use Rattle.script_text.proofs.CompleteLemmas.{statement_is}
use Rattle.script_text.proofs.SoundLemmas.{statement_told}

judged_within : (s : Statement) → IsInBounds s → judged_statement (Some s) ≡ Ok (command_from s)
judged_within s h = ap (λ b. let refused : Result Command Refusal = Err BoundNumber in if b then Ok (command_from s) else refused) (bounds_are s h)

pub command_is : (line : List ℕ) (c : Command) → IsCommand line c → command_of line ≡ Ok c
command_is line c h = ap judged_statement (statement_is line h.0 h.1) ∙ judged_within h.0 h.2 ∙ ap Ok (sym h.3)

pub command_told : (line : List ℕ) (c : Command) → command_of line ≡ Ok c → IsCommand line c
command_told line c e = by_statement (statement_of line) refl e where
  by_bounds : (s : Statement) → statement_of line ≡ Some s → (b : Bool) → is_in_bounds s ≡ b → (if b then Ok (command_from s) else Err BoundNumber) ≡ Ok c → IsCommand line c
  by_bounds s h true within f = (s, statement_told line s h, bounds_told s within, cc)
  by_bounds s h false within f = cc

  by_statement : (o : Option Statement) → statement_of line ≡ o → judged_statement o ≡ Ok c → IsCommand line c
  by_statement None h f = cc
  by_statement (Some s) h f = by_bounds s h (is_in_bounds s) refl f

not_within : (s : Statement) → (IsInBounds s → ⊥) → judged_statement (Some s) ≡ Err BoundNumber
not_within s h = elim (cases_Bool (is_in_bounds s)) [
  | inl within ↦ absurd (h (bounds_told s within))
  | inr without ↦ ap (λ b. let refused : Result Command Refusal = Err BoundNumber in if b then Ok (command_from s) else refused) without
]

pub refused_is : (line : List ℕ) (r : Refusal) → IsRefused line r → command_of line ≡ Err r
refused_is line Syntax h = by_statement (statement_of line) refl where
  by_statement : (o : Option Statement) → statement_of line ≡ o → judged_statement o ≡ Err Syntax
  by_statement None e = refl
  by_statement (Some s) e = absurd (h s (statement_told line s e))
refused_is line BoundNumber h = ap judged_statement (statement_is line h.0 h.1) ∙ not_within h.0 h.2
refused_is line _ h = absurd h

no_statement : (line : List ℕ) → statement_of line ≡ None → IsRefused line Syntax
no_statement line e s h = let some = statement_is line s h in let no : None ≡ Some s = sym e ∙ some in cc

pub refused_told : (line : List ℕ) (r : Refusal) → command_of line ≡ Err r → IsRefused line r
refused_told line r e = by_statement (statement_of line) refl e where
  by_bounds : (s : Statement) → statement_of line ≡ Some s → (b : Bool) → is_in_bounds s ≡ b → (if b then Ok (command_from s) else Err BoundNumber) ≡ Err r → IsRefused line r
  by_bounds s h true within f = cc
  by_bounds s h false without f =
      let same : BoundNumber ≡ r = cc in
      subst (IsRefused line) same (s, statement_told line s h, λ within. let yes = bounds_are s within in let no : false ≡ true = sym without ∙ yes in cc)

  by_statement : (o : Option Statement) → statement_of line ≡ o → judged_statement o ≡ Err r → IsRefused line r
  by_statement None h f = let same : Syntax ≡ r = cc in subst (IsRefused line) same (no_statement line h)
  by_statement (Some s) h f = by_bounds s h (is_in_bounds s) refl f

pub either : (line : List ℕ) → ((c : Command) × IsCommand line c) ⊎ ((r : Refusal) × IsRefused line r)
either line = by_result (command_of line) refl where
  by_result : (answer : Result Command Refusal) → command_of line ≡ answer → ((c : Command) × IsCommand line c) ⊎ ((r : Refusal) × IsRefused line r)
  by_result (Ok c) e = inl (c, command_told line c e)
  by_result (Err r) e = inr (r, refused_told line r e)
