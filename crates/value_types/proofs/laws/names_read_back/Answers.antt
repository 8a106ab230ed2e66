use Rattle.std.proofs.Common.{◌≡◌, ℕ, List, Some, sym, subst, ◌∙◌}
use Rattle.std.specs.List.{find}
use Rattle.std.specs.Str.{bytes_eq, str_to_ascii_lowercase}
use Rattle.std.proofs.lemmas.Slice.Eq.{bytes_eq-Decides}
use Rattle.value_types.specs.Properties.{all_properties, is_named, name_of, property_named}
use Rattle.value_types.proofs.PropertyLemmas.{find_passes, first_named, lowercase-name_of}
use Rattle.value_types.proofs.laws.names_read_back.Goals as goal

pub returns : goal.returns
unfolding property_named
returns c = λ text p. (
  (λ is. (bytes_eq-Decides _ _).0 (find_passes (is_named text) all_properties p is) ∙ lowercase-name_of p),
  (λ is. subst (λ (bs : List ℕ). find (λ q. bytes_eq bs (str_to_ascii_lowercase (name_of q))) all_properties ≡ Some p) (sym is) (first_named p)),
)
