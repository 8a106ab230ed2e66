use Rattle.std.proofs.Common.{◌≡◌, ◌∙◌, ap, sym, arith, get_or, length, map, refl}
use Rattle.std.proofs.lemmas.List.{length-map}
use Rattle.std.proofs.lemmas.Option.{slice_get_read}
use Rattle.restyle.proofs.Lookups.{absent_value, found_value}
use Rattle.restyle.proofs.entries.Entries.find.Goals as goal

pub returns-in-None : goal.returns-in-None
returns-in-None c =
    let numbers : c.self.inside.numbers.keys ≡ map (λ e. e.0) c.args.self.now = c.self.invariant ∙ ap (map (λ e. e.0)) c.self.view_is in
    sym (absent_value c.args.self.now c.self.inside.numbers.keys c.args.n numbers (sym c.in-None.ensures.index))

pub returns-in-Some : goal.returns-in-Some
returns-in-Some c =
    let numbers : c.self.inside.numbers.keys ≡ map (λ e. e.0) c.args.self.now = c.self.invariant ∙ ap (map (λ e. e.0)) c.self.view_is in
    let stands = slice_get_read c.args.self.now (length c.args.self.now) c.in-Some.at c.index.result.now refl (omega (arith, c.in-Some.ensures.within, ap length numbers, length-map c.args.self.now (λ e. e.0))) (c.index.ensures ∙ ap (λ xs. get_or xs c.in-Some.at c.index.result.now) c.self.view_is) in
    sym (found_value c.args.self.now c.self.inside.numbers.keys c.args.n c.in-Some.at c.index.result.now numbers (sym c.in-Some.ensures.index) stands)
