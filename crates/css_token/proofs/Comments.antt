-- Comments: the length at the front of a text and the production.
use Rattle.std.proofs.Common.{◌≡◌, ◌≢◌, ℕ, ◌+◌, ◌<◌, ◌≤◌, false, ◌&&◌, List, [], ◌∷◌, ◌++◌, length, get_or, take, drop, cond, eqb, ltb, inl, inr, refl, sym, ap, ◌∙◌, subst, arith, get_or-drop, add-zero, append_assoc, length-append}
use Rattle.std.proofs.lemmas.Bool.{and_parts, and_from, false≢true, eqb-true, eq-eqb, ltb-true, lt-ltb, cases_Bool, cond-true, cond-false, false_from_ne_true}
use Rattle.std.proofs.lemmas.List.{at_drop_more, take_at, length-take-le}
use Rattle.css_token.specs.Productions.{IsComment}
use Rattle.css_token.specs.Fronts.{unclosed_len, comment_len}
use Rattle.css_token.proofs.Runs.{first_and_rest, take-one-more}

-- one byte further
pub unclosed_more : (bs : List ℕ) (i : ℕ) → i < length bs
    → unclosed_len (drop i bs) ≡ cond (eqb (get_or bs i 0) 42 && eqb (get_or bs (i + 1) 0) 47) 0 (1 + unclosed_len (drop (i + 1) bs))
unclosed_more bs i h =
    at_drop_more unclosed_len bs i 0 h
    ∙ ap (λ x. cond (eqb (get_or bs i 0) 42 && eqb x 47) 0 (1 + unclosed_len (drop (i + 1) bs))) (get_or-drop (i + 1) bs 0 0 ∙ ap (λ k. get_or bs k 0) (add-zero (i + 1)))

-- no `*/` in it
abbrev HasNoEnd : List ℕ → Type 0
HasNoEnd bs = (before after : List ℕ) → bs ≢ before ++ 42 ∷ 47 ∷ after

no_end_nil : HasNoEnd []
no_end_nil [] after is = cc
no_end_nil (b ∷ before) after is = cc

no_end_tail : (b : ℕ) (bs : List ℕ) → HasNoEnd (b ∷ bs) → HasNoEnd bs
no_end_tail b bs none before after is = none (b ∷ before) after (ap (λ l. b ∷ l) is)

no_end_cons : (b : ℕ) (bs rest : List ℕ) → (eqb b 42 && eqb (get_or (bs ++ rest) 0 0) 47) ≡ false → HasNoEnd bs → HasNoEnd (b ∷ bs)
no_end_cons b bs rest other none [] after is =
    let first : b ≡ 42 = cc in
    let tail : bs ≡ 47 ∷ after = cc in
    false≢true (sym other ∙ and_from (eqb b 42) _ (eq-eqb b 42 first) (ap (λ l. eqb (get_or (l ++ rest) 0 0) 47) tail))
no_end_cons b bs rest other none (x ∷ before) after is = none before after cc

-- the byte before an end that comes later
not_yet : (b : ℕ) (bs rest : List ℕ) → HasNoEnd (b ∷ bs) → (eqb b 42 && eqb (get_or (bs ++ 42 ∷ 47 ∷ rest) 0 0) 47) ≡ false
not_yet b [] rest none = false_from_ne_true _ (λ is. false≢true (and_parts (eqb b 42) false is).1)
not_yet b (c ∷ bs) rest none =
    false_from_ne_true _ (λ is.
    let parts = and_parts (eqb b 42) (eqb c 47) is in
    none [] bs (λ i. eqb-true b 42 parts.0 i ∷ eqb-true c 47 parts.1 i ∷ bs))

unclosed_at : (inside rest : List ℕ) → HasNoEnd inside → unclosed_len (inside ++ 42 ∷ 47 ∷ rest) ≡ length inside
unclosed_at [] rest none = refl
unclosed_at (b ∷ inside) rest none =
    let here : unclosed_len (b ∷ inside ++ 42 ∷ 47 ∷ rest) ≡ 1 + unclosed_len (inside ++ 42 ∷ 47 ∷ rest) = cond-false _ 0 _ (not_yet b inside rest none) in
    omega (arith, unclosed_at inside rest (no_end_tail b inside none))

-- a comment after its `/*`
pub comment_at : (inside rest : List ℕ) → ((before after : List ℕ) → inside ≢ before ++ 42 ∷ 47 ∷ after) → comment_len (inside ++ 42 ∷ 47 ∷ rest) ≡ length inside + 2
unfolding comment_len
comment_at inside rest none =
    let len = unclosed_at inside rest none in
    cond-true (ltb (unclosed_len (inside ++ 42 ∷ 47 ∷ rest)) (length (inside ++ 42 ∷ 47 ∷ rest))) _ 0 (lt-ltb _ _ (omega (arith, length-append inside (42 ∷ 47 ∷ rest))))
    ∙ ap (λ n. n + 2) len

-- where a comment ends
record Ends (bs : List ℕ) : Type 0 where
  rest : List ℕ
  text : bs ≡ take (unclosed_len bs) bs ++ 42 ∷ 47 ∷ rest
  none : HasNoEnd (take (unclosed_len bs) bs)

ends_at : (bs : List ℕ) → unclosed_len bs < length bs → Ends bs
ends_at [] closed = absurd (omega arith)
ends_at (b ∷ bs) closed = elim (cases_Bool (eqb b 42 && eqb (get_or bs 0 0) 47)) [
  | inl is ↦
      let len : unclosed_len (b ∷ bs) ≡ 0 = cond-true (eqb b 42 && eqb (get_or bs 0 0) 47) 0 _ is in
      let parts = and_parts (eqb b 42) (eqb (get_or bs 0 0) 47) is in
      record {
        rest = drop 1 bs;
        text = (λ i. eqb-true b 42 parts.0 i ∷ first_and_rest bs 47 (eqb-true _ 47 parts.1) (omega arith) i) ∙ ap (λ n. take n (b ∷ bs) ++ 42 ∷ 47 ∷ drop 1 bs) (sym len);
        none = subst (λ n. HasNoEnd (take n (b ∷ bs))) (sym len) no_end_nil;
      }
  | inr isnt ↦
      let len : unclosed_len (b ∷ bs) ≡ 1 + unclosed_len bs = cond-false (eqb b 42 && eqb (get_or bs 0 0) 47) 0 _ isnt in
      let later = ends_at bs (omega arith) in
      let front : take (unclosed_len (b ∷ bs)) (b ∷ bs) ≡ b ∷ take (unclosed_len bs) bs = ap (λ n. take n (b ∷ bs)) len ∙ take-one-more b _ bs in
      record {
        rest = later.rest;
        text = ap (λ l. b ∷ l) later.text ∙ ap (λ l. l ++ 42 ∷ 47 ∷ later.rest) (sym front);
        none = subst HasNoEnd (sym front) (no_end_cons b (take (unclosed_len bs) bs) (42 ∷ 47 ∷ later.rest) (ap (λ l. eqb b 42 && eqb (get_or l 0 0) 47) (sym later.text) ∙ isnt) later.none);
      }
]

comment_len_is : (bs : List ℕ) → 0 < comment_len bs → (unclosed_len bs < length bs) × (comment_len bs ≡ unclosed_len bs + 2)
unfolding comment_len
comment_len_is bs some = elim (cases_Bool (ltb (unclosed_len bs) (length bs))) [
  | inl is ↦ (ltb-true _ _ is, cond-true (ltb (unclosed_len bs) (length bs)) _ 0 is)
  | inr isnt ↦ absurd (omega (arith, cond-false (ltb (unclosed_len bs) (length bs)) (unclosed_len bs + 2) 0 isnt))
]

pub comment_sound : (bs : List ℕ) → 0 < comment_len bs → (comment_len bs ≤ length bs) × IsComment (take (2 + comment_len bs) (47 ∷ 42 ∷ bs))
comment_sound bs some =
    let is = comment_len_is bs some in
    let ends = ends_at bs is.0 in
    let inside = take (unclosed_len bs) bs in
    let len : length inside ≡ unclosed_len bs = length-take-le _ bs (omega (arith, is.0)) in
    let whole : bs ≡ (inside ++ 42 ∷ 47 ∷ []) ++ ends.rest = ends.text ∙ sym (append_assoc inside (42 ∷ 47 ∷ []) ends.rest) in
    let size : length (inside ++ 42 ∷ 47 ∷ []) ≡ comment_len bs = omega (arith, length-append inside (42 ∷ 47 ∷ []), is.1) in
    let text : take (comment_len bs) bs ≡ inside ++ 42 ∷ 47 ∷ [] = ap (take (comment_len bs)) whole ∙ take_at (inside ++ 42 ∷ 47 ∷ []) ends.rest _ size in
    let two : 2 + comment_len bs ≡ 1 + (1 + comment_len bs) = omega arith in (
      omega (arith, ap length whole, length-append (inside ++ 42 ∷ 47 ∷ []) ends.rest),
      (
        inside,
        ap (λ n. take n (47 ∷ 42 ∷ bs)) two ∙ take-one-more 47 _ (42 ∷ bs) ∙ ap (λ l. 47 ∷ l) (take-one-more 42 _ bs ∙ ap (λ l. 42 ∷ l) text),
        ends.none,
      ),
    )
