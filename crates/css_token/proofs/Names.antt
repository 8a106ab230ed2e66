-- Identifiers: the length at the front of a text and the production.
use Rattle.std.proofs.Common.{◌≡◌, ℕ, ◌<◌, ◌≤◌, Bool, true, false, ◌&&◌, ◌||◌, List, [], ◌∷◌, ◌++◌, length, get_or, take, eqb, inl, inr, refl, sym, ap, ◌∙◌, subst, arith}
use Rattle.std.specs.List.{prefix_len}
use Rattle.std.proofs.lemmas.Bool.{or_left, false≢true, cases_lt, cases_Bool, cond-true, cond-false, cond_both}
use Rattle.std.proofs.lemmas.List.{get_or-take, get_or_past}
use Rattle.std.proofs.lemmas.List.Sums.{prefix_len_stops, prefix_len-le-length}
use Rattle.css_token.specs.Characters.{is_name_start, is_name}
use Rattle.css_token.specs.Productions.{begins_identifier, IsIdentifier}
use Rattle.css_token.specs.Fronts.{identifier_len}
use Rattle.css_token.proofs.Runs.{run_reaches, run_stops, run_all, some_run}

-- the first two bytes of an identifier
unfoldable pub begins_with : ℕ → ℕ → Bool
begins_with a b = is_name_start a || (eqb a 45 && (eqb b 45 || is_name_start b))

-- an identifier begins with a name character
pub begins_with_name : (bs : List ℕ) → begins_identifier bs ≡ true → is_name (get_or bs 0 0) ≡ true
begins_with_name bs begins = grind arith

-- where the second byte is no name character, the first is a name-start character
starts_alone : (a b : ℕ) → begins_with a b ≡ true → is_name b ≡ false → is_name_start a ≡ true
unfolding begins_with
starts_alone a b begins none = grind arith

-- the name characters at the front of what begins an identifier are one
pub identifier_sound : (bs : List ℕ) → begins_identifier bs ≡ true → IsIdentifier (take (prefix_len is_name bs) bs)
unfolding begins_with
identifier_sound bs begins =
    let some = some_run is_name bs refl (begins_with_name bs begins) in
    let first : get_or (take (prefix_len is_name bs) bs) 0 0 ≡ get_or bs 0 0 = get_or-take _ bs 0 0 some in (
      elim (cases_lt 1 (prefix_len is_name bs)) [
        | inl more ↦
            let second : get_or (take (prefix_len is_name bs) bs) 1 0 ≡ get_or bs 1 0 = get_or-take _ bs 1 0 more in
            (λ i. begins_with (first i) (second i)) ∙ begins
        | inr one ↦
            let none : is_name (get_or bs 1 0) ≡ false = elim (cases_lt 1 (length bs)) [
              | inl more ↦ subst (λ n. is_name (get_or bs n 0) ≡ false) (omega arith) (prefix_len_stops is_name bs 0 (omega arith))
              | inr end ↦ ap is_name (get_or_past bs 1 0 end)
            ] in
            or_left _ _ (ap is_name_start first ∙ starts_alone (get_or bs 0 0) (get_or bs 1 0) begins none)
      ],
      run_all is_name bs,
    )

begins-one : (a : ℕ) (rest : List ℕ) → begins_identifier (a ∷ []) ≡ true → begins_identifier (a ∷ rest) ≡ true
begins-one a rest begins = grind arith

-- what begins an identifier does so whatever follows
pub begins-append : (bs rest : List ℕ) → begins_identifier bs ≡ true → begins_identifier (bs ++ rest) ≡ true
begins-append [] rest begins = absurd (false≢true begins)
begins-append (a ∷ []) rest begins = begins-one a rest begins
begins-append (a ∷ b ∷ bs) rest begins = begins

-- the length of the identifier at the front
pub identifier_len_is : (bs : List ℕ) → begins_identifier bs ≡ true → identifier_len bs ≡ prefix_len is_name bs
unfolding identifier_len
identifier_len_is bs begins = cond-true (begins_identifier bs) _ 0 begins

pub identifier_begins : (bs : List ℕ) → 0 < identifier_len bs → begins_identifier bs ≡ true
unfolding identifier_len
identifier_begins bs some = elim (cases_Bool (begins_identifier bs)) [
  | inl begins ↦ begins
  | inr none ↦ absurd (omega (arith, cond-false (begins_identifier bs) (prefix_len is_name bs) 0 none))
]

pub identifier_within : (bs : List ℕ) → identifier_len bs ≤ length bs
unfolding identifier_len
identifier_within bs = cond_both (begins_identifier bs) (prefix_len is_name bs) 0 (λ n. n ≤ length bs) (λ _. prefix_len-le-length is_name bs) (λ _. omega arith)

-- the identifier at the front, by its length
pub identifier_front : (bs : List ℕ) → begins_identifier bs ≡ true → IsIdentifier (take (identifier_len bs) bs)
identifier_front bs begins = subst (λ n. IsIdentifier (take n bs)) (sym (identifier_len_is bs begins)) (identifier_sound bs begins)

pub identifier_reaches : (bs rest : List ℕ) → IsIdentifier bs → length bs ≤ identifier_len (bs ++ rest)
identifier_reaches bs rest name = omega (arith, identifier_len_is (bs ++ rest) (begins-append bs rest name.0), run_reaches is_name bs rest name.1)

pub identifier_stops : (bs : List ℕ) (b : ℕ) (rest : List ℕ) → IsIdentifier bs → is_name b ≡ false → identifier_len (bs ++ b ∷ rest) ≡ length bs
identifier_stops bs b rest name stops = identifier_len_is (bs ++ b ∷ rest) (begins-append bs (b ∷ rest) name.0) ∙ run_stops is_name bs b rest name.1 stops

pub identifier_some : (bs : List ℕ) → IsIdentifier bs → 0 < length bs
identifier_some [] name = absurd (false≢true name.0)
identifier_some (b ∷ bs) name = omega arith
