use Rattle.std.proofs.Common.{◌≡◌, refl, ap, sym, ◌∙◌, List, [], ◌∷◌, map, Bool, ◌||◌}
use Rattle.std.specs.List.{list_any}
use Rattle.std.specs.Str.{bytes_eq}
use Rattle.std.specs.String.{string_bytes}
use Rattle.selectors_mini.proofs.represent.has_class.Goals as goal

any_map : {A B : Type 0} (p : B → Bool) (f : A → B) (xs : List A) → list_any p (map f xs) ≡ list_any (λ x. p (f x)) xs
any_map p f [] = refl
any_map p f (x ∷ xs) = ap (λ b. p (f x) || b) (any_map p f xs)

pub returns : goal.returns
returns c =
    c.is_among.ensures ∙ sym (any_map (λ own. bytes_eq own c.args.class.now) string_bytes c.classes.result.now)
    ∙ ap (list_any (λ own. bytes_eq own c.args.class.now)) c.classes.ensures
