-- The cuts and lines of bytes in front of other bytes.
use Rattle.std.proofs.Common.{◌≡◌, ◌≢◌, ℕ, suc, ◌-◌, ◌<◌, ◌≤◌, true, false, List, [], ◌∷◌, ◌++◌, length, take, map, None, Option, refl, sym, ap, ◌∙◌, ⊎_elim, append_assoc, append-nil, arith, ne_eqb, eq-eqb, lt-ltb}
use Rattle.std.proofs.lemmas.Bool.{cases_eq, cases_lt, cond-true, cond-false, lt-leb, and_from, and_right}
use Rattle.std.proofs.lemmas.List.{length_push, get_or_push, take_at, take_all, length-take}
use Rattle.std.proofs.lemmas.List.Elements.{All-head, All-tail, All-push, All-take, All-get_or}
use Rattle.std.specs.Io.BufRead.{ends_with_byte, strip_last, drop_through}
use Rattle.text_io.specs.Buffer.{SameLines}
use Rattle.text_io.specs.Lines.{limited_text, onto_first, cuts_of, text_of, lines_of, HasNoFeed, without_ending}

-- a byte is no line feed
abbrev pub NotFeed : ℕ → Type 0
NotFeed b = b ≢ 10

pub cuts_of-nil : cuts_of [] ≡ []
unfolding cuts_of
cuts_of-nil = refl

pub cuts_of-feed : (b : ℕ) (bs : List ℕ) → b ≡ 10 → cuts_of (b ∷ bs) ≡ (b ∷ []) ∷ cuts_of bs
unfolding cuts_of
cuts_of-feed b bs e = cond-true _ _ _ (eq-eqb b 10 e)

pub cuts_of-other : (b : ℕ) (bs : List ℕ) → b ≢ 10 → cuts_of (b ∷ bs) ≡ onto_first b (cuts_of bs)
unfolding cuts_of
cuts_of-other b bs e = cond-false _ _ _ (ne_eqb b 10 e)

-- a line in front of other bytes
pub cuts_of-line : (body rest : List ℕ) → HasNoFeed body → cuts_of (body ++ 10 ∷ rest) ≡ (body ++ 10 ∷ []) ∷ cuts_of rest
cuts_of-line [] rest clear = cuts_of-feed 10 rest refl
cuts_of-line (b ∷ bs) rest clear =
    cuts_of-other b _ (All-head NotFeed b bs clear) ∙ ap (onto_first b) (cuts_of-line bs rest (All-tail NotFeed b bs clear))

-- bytes without a line feed are one cut
pub cuts_of-last : (b : ℕ) (bs : List ℕ) → HasNoFeed (b ∷ bs) → cuts_of (b ∷ bs) ≡ (b ∷ bs) ∷ []
cuts_of-last b [] clear = cuts_of-other b [] (All-head NotFeed b [] clear) ∙ ap (onto_first b) cuts_of-nil
cuts_of-last b (c ∷ bs) clear =
    cuts_of-other b (c ∷ bs) (All-head NotFeed b (c ∷ bs) clear) ∙ ap (onto_first b) (cuts_of-last c bs (All-tail NotFeed b (c ∷ bs) clear))

ends_with-push : (body : List ℕ) (b : ℕ) → ends_with_byte b (body ++ b ∷ []) ≡ true
ends_with-push body b =
    let n = length_push body b in
    and_from _ _ (lt-ltb 0 _ (omega arith)) (eq-eqb _ b (get_or_push body b 0 _ (omega arith)))

strip_last-push : (body : List ℕ) (b : ℕ) → strip_last b (body ++ b ∷ []) ≡ body
strip_last-push body b =
    let n = length_push body b in
    cond-true _ _ _ (ends_with-push body b) ∙ take_at body (b ∷ []) _ (omega arith)

pub text_of-line : (body : List ℕ) → text_of (body ++ 10 ∷ []) ≡ limited_text body (strip_last 13 body)
unfolding text_of
text_of-line body =
    let cut = body ++ 10 ∷ [] in
    let front : strip_last 10 cut ≡ body = strip_last-push body 10 in
    let text : without_ending cut ≡ strip_last 13 body = cond-true _ _ _ (ends_with-push body 10) ∙ ap (strip_last 13) front in
    ap (λ (xs : List ℕ). limited_text xs (without_ending cut)) front ∙ ap (limited_text body) text

ends_with-clear : (body : List ℕ) → HasNoFeed body → ends_with_byte 10 body ≡ false
ends_with-clear [] clear = refl
ends_with-clear (b ∷ bs) clear =
    and_right _ _ (ne_eqb _ 10 (All-get_or NotFeed (b ∷ bs) (suc (length bs) - 1) 0 (omega arith) clear))

pub text_of-last : (body : List ℕ) → HasNoFeed body → text_of body ≡ limited_text body body
unfolding text_of
text_of-last body clear =
    let none = ends_with-clear body clear in
    let front : strip_last 10 body ≡ body = cond-false _ _ _ none in
    let text : without_ending body ≡ body = cond-false _ _ _ none in
    ap (λ (xs : List ℕ). limited_text xs (without_ending body)) front ∙ ap (limited_text body) text

limited_text-over : (body text : List ℕ) → 1048576 < length body → limited_text body text ≡ None
limited_text-over body text over = cond-false _ _ _ (lt-leb _ _ over)

-- the line in front of other bytes
pub lines_of-line : (body rest : List ℕ) → HasNoFeed body → lines_of (body ++ 10 ∷ rest) ≡ limited_text body (strip_last 13 body) ∷ lines_of rest
unfolding lines_of
lines_of-line body rest clear =
    ap (map text_of) (cuts_of-line body rest clear) ∙ ap (λ (t : Option (List ℕ)). t ∷ lines_of rest) (text_of-line body)

pub lines_of-nil : lines_of [] ≡ []
unfolding lines_of
lines_of-nil = ap (map text_of) cuts_of-nil

-- the last line
pub lines_of-last : (body : List ℕ) → HasNoFeed body → 0 < length body → lines_of body ≡ limited_text body body ∷ []
unfolding lines_of
lines_of-last [] clear some = absurd (omega arith)
lines_of-last (b ∷ bs) clear some =
    ap (map text_of) (cuts_of-last b bs clear) ∙ ap (λ (t : Option (List ℕ)). t ∷ []) (text_of-last (b ∷ bs) clear)

-- a line over the limit, with what follows it
pub long_line : (rest body : List ℕ) → HasNoFeed body → 1048576 < length body → lines_of (body ++ rest) ≡ None ∷ lines_of (drop_through 10 rest)
long_line [] body clear over =
    ap lines_of (append-nil body) ∙ lines_of-last body clear (omega arith) ∙ ap (λ (t : Option (List ℕ)). t ∷ []) (limited_text-over body body over)
    ∙ ap (λ (lines : List (Option (List ℕ))). None ∷ lines) (sym lines_of-nil)
long_line (b ∷ rest) body clear over =
    ⊎_elim
    (λ (e : b ≡ 10).
    ap (λ (x : ℕ). lines_of (body ++ x ∷ rest)) e
    ∙ lines_of-line body rest clear
    ∙ ap (λ (t : Option (List ℕ)). t ∷ lines_of rest) (limited_text-over body _ over)
    ∙ sym (ap (λ (xs : List ℕ). None ∷ lines_of xs) (cond-true _ _ _ (eq-eqb b 10 e))))
    (λ (n : b ≢ 10).
    let grown = length_push body b in
    ap lines_of (sym (append_assoc body (b ∷ []) rest))
    ∙ long_line rest (body ++ b ∷ []) (All-push NotFeed body b clear n) (omega arith)
    ∙ sym (ap (λ (xs : List ℕ). None ∷ lines_of xs) (cond-false _ _ _ (ne_eqb b 10 n))))
    (cases_eq b 10)

-- of a line over the limit one byte over it is enough
pub SameLines-trimmed : (body : List ℕ) (n : ℕ) → HasNoFeed body → 1048576 < n → SameLines body (take n body)
SameLines-trimmed body n clear over =
    ⊎_elim
    (λ (long : n < length body). λ rest.
    let cut = length-take n body in
    long_line rest body clear (omega arith) ∙ sym (long_line rest (take n body) (All-take NotFeed n body clear) (omega arith)))
    (λ (short : length body ≤ n). λ rest. ap (λ (xs : List ℕ). lines_of (xs ++ rest)) (sym (take_all n body short)))
    (cases_lt n (length body))

onto_first-none : (b : ℕ) (cuts : List (List ℕ)) → onto_first b cuts ≡ [] → ⊥
onto_first-none b [] none = cc
onto_first-none b (cut ∷ cuts) none = cc

pub cuts_of-none : (bytes : List ℕ) → cuts_of bytes ≡ [] → bytes ≡ []
cuts_of-none [] none = refl
cuts_of-none (b ∷ bs) none =
    ⊎_elim
    (λ (e : b ≡ 10). let cut = sym (cuts_of-feed b bs e) ∙ none in absurd (cc))
    (λ (n : b ≢ 10). absurd (onto_first-none b (cuts_of bs) (sym (cuts_of-other b bs n) ∙ none)))
    (cases_eq b 10)

-- bytes without a line are none
pub lines_of-none : (bytes : List ℕ) → lines_of bytes ≡ [] → bytes ≡ []
unfolding lines_of
lines_of-none bytes none = cuts_of-none bytes (map-none (cuts_of bytes) none) where
  map-none : (cuts : List (List ℕ)) → map text_of cuts ≡ [] → cuts ≡ []
  map-none [] e = refl
  map-none (cut ∷ cuts) e = absurd (cc)
