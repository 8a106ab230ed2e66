-- The laws of the cuts and lines of bytes.
use Rattle.std.proofs.Common.{◌≡◌, ◌≢◌, ℕ, List, [], ◌∷◌, ◌++◌, map, refl, sym, ap, ◌∙◌, subst, inl, inr, ⊎_elim}
use Rattle.std.proofs.lemmas.Bool.{cases_eq}
use Rattle.std.proofs.lemmas.List.{map-append}
use Rattle.std.proofs.lemmas.List.Elements.{All-nil, All-cons}
use Rattle.std.specs.List.{concat}
use Rattle.text_io.specs.Lines.{onto_first, cuts_of, text_of, lines_of, HasNoFeed, IsWhole, AreCuts}
use Rattle.text_io.proofs.LineLemmas.{NotFeed, cuts_of-nil, cuts_of-feed, cuts_of-other, cuts_of-none}

concat-onto_first : (b : ℕ) (cuts : List (List ℕ)) → concat (onto_first b cuts) ≡ b ∷ concat cuts
concat-onto_first b [] = refl
concat-onto_first b (cut ∷ cuts) = refl

pub concat-cuts_of : (bytes : List ℕ) → concat (cuts_of bytes) ≡ bytes
concat-cuts_of [] = ap concat cuts_of-nil
concat-cuts_of (b ∷ bs) =
    ⊎_elim
    (λ (e : b ≡ 10). ap concat (cuts_of-feed b bs e) ∙ ap (λ (xs : List ℕ). b ∷ xs) (concat-cuts_of bs))
    (λ (n : b ≢ 10).
    ap concat (cuts_of-other b bs n) ∙ concat-onto_first b (cuts_of bs) ∙ ap (λ (xs : List ℕ). b ∷ xs) (concat-cuts_of bs))
    (cases_eq b 10)

-- a whole cut in front
AreCuts-cons : (cut : List ℕ) (cuts : List (List ℕ)) → IsWhole cut → AreCuts cuts → AreCuts (cut ∷ cuts)
AreCuts-cons cut [] whole rest = inl whole
AreCuts-cons cut (next ∷ cuts) whole rest = (whole, rest)

IsWhole-onto : (b : ℕ) (cut : List ℕ) → b ≢ 10 → IsWhole cut → IsWhole (b ∷ cut)
IsWhole-onto b cut n whole =
    (b ∷ whole.0, All-cons NotFeed b whole.0 n whole.1, ap (λ (xs : List ℕ). b ∷ xs) whole.2)

AreCuts-onto : (b : ℕ) (cuts : List (List ℕ)) → b ≢ 10 → AreCuts cuts → AreCuts (onto_first b cuts)
AreCuts-onto b [] n rest = inr (λ e. cc, All-cons NotFeed b [] n (All-nil NotFeed))
AreCuts-onto b (cut ∷ []) n rest =
    ⊎_elim
    (λ (whole : IsWhole cut). inl (IsWhole-onto b cut n whole))
    (λ (last : (cut ≢ []) × HasNoFeed cut). inr (λ e. cc, All-cons NotFeed b cut n last.1))
    rest
AreCuts-onto b (cut ∷ next ∷ cuts) n rest = (IsWhole-onto b cut n rest.0, rest.1)

pub AreCuts-cuts_of : (bytes : List ℕ) → AreCuts (cuts_of bytes)
AreCuts-cuts_of [] = subst AreCuts (sym cuts_of-nil) tt
AreCuts-cuts_of (b ∷ bs) =
    ⊎_elim
    (λ (e : b ≡ 10).
    let feed : IsWhole (b ∷ []) = ([], All-nil NotFeed, ap (λ (x : ℕ). x ∷ []) e) in
    subst AreCuts (sym (cuts_of-feed b bs e)) (AreCuts-cons (b ∷ []) (cuts_of bs) feed (AreCuts-cuts_of bs)))
    (λ (n : b ≢ 10). subst AreCuts (sym (cuts_of-other b bs n)) (AreCuts-onto b (cuts_of bs) n (AreCuts-cuts_of bs)))
    (cases_eq b 10)

onto_first-append : (b : ℕ) (cuts more : List (List ℕ)) → cuts ≢ [] → onto_first b (cuts ++ more) ≡ onto_first b cuts ++ more
onto_first-append b [] more some = absurd (some refl)
onto_first-append b (cut ∷ cuts) more some = refl

nil-not-pushed : (xs : List ℕ) (b : ℕ) → xs ++ b ∷ [] ≡ [] → ⊥
nil-not-pushed [] b e = cc
nil-not-pushed (x ∷ xs) b e = cc

cuts_of-joined : (first second : List ℕ) → cuts_of (first ++ 10 ∷ [] ++ second) ≡ cuts_of (first ++ 10 ∷ []) ++ cuts_of second
cuts_of-joined [] second =
    cuts_of-feed 10 second refl ∙ ap (λ (cuts : List (List ℕ)). cuts ++ cuts_of second) (sym (cuts_of-feed 10 [] refl ∙ ap (λ (cuts : List (List ℕ)). (10 ∷ []) ∷ cuts) cuts_of-nil))
cuts_of-joined (b ∷ bs) second =
    ⊎_elim
    (λ (e : b ≡ 10).
    cuts_of-feed b _ e
    ∙ ap (λ (cuts : List (List ℕ)). (b ∷ []) ∷ cuts) (cuts_of-joined bs second)
    ∙ ap (λ (cuts : List (List ℕ)). cuts ++ cuts_of second) (sym (cuts_of-feed b _ e)))
    (λ (n : b ≢ 10).
    cuts_of-other b _ n
    ∙ ap (onto_first b) (cuts_of-joined bs second)
    ∙ onto_first-append b _ (cuts_of second) (λ none. nil-not-pushed bs 10 (cuts_of-none _ none))
    ∙ ap (λ (cuts : List (List ℕ)). cuts ++ cuts_of second) (sym (cuts_of-other b _ n)))
    (cases_eq b 10)

pub lines_of-joined : (first second : List ℕ) → lines_of (first ++ 10 ∷ [] ++ second) ≡ lines_of (first ++ 10 ∷ []) ++ lines_of second
unfolding lines_of
lines_of-joined first second = ap (map text_of) (cuts_of-joined first second) ∙ map-append text_of _ _
