-- A walk over the elements of a document that appends something for each.
use Rattle.std.proofs.Common.{◌≡◌, ◌∙◌, ap, sym, subst, ℕ, ◌+◌, ◌<◌, List, [], ◌∷◌, ◌++◌, None, length, map, take, get_or}
use Rattle.std.specs.Prelude.{IfSome, slice_get}
use Rattle.std.proofs.lemmas.List.{map-append, take_more}
use Rattle.std.proofs.lemmas.Option.{slice_get-get_or}
use Rattle.doc_tree.specs.Element.{Element}

pub nobody : Element
nobody = record { number = 0; parent = None; tag = []; id = None; classes = []; style = [] }

-- one more element
pub one_more : {X : Type 0} (make : Element → X) (es : List Element) (at : ℕ) (before after : List X) → at < length es → before ≡ map make (take at es)
    → IfSome (slice_get es at) (λ e. after ≡ before ++ make e ∷ []) → after ≡ map make (take (at + 1) es)
one_more make es at before after within so_far pushed =
    subst (λ o. IfSome o (λ e. after ≡ before ++ make e ∷ [])) (slice_get-get_or es at nobody within) pushed
    ∙ ap (λ xs. xs ++ make (get_or es at nobody) ∷ []) so_far
    ∙ sym (ap (λ xs. map make xs) (take_more es at nobody within) ∙ map-append make (take at es) (get_or es at nobody ∷ []))
