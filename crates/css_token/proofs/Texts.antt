-- Texts and urls: the length at the front of a text and the production.
use Rattle.std.proofs.Common.{◌≡◌, ℕ, ◌+◌, ◌<◌, ◌≤◌, Bool, true, false, not, ◌&&◌, ◌||◌, List, [], ◌∷◌, ◌++◌, length, get_or, take, drop, map, eqb, inl, inr, refl, sym, ap, ◌∙◌, subst, arith, append_assoc, length-append, length-drop, add-zero}
use Rattle.std.specs.List.{prefix_len, list_all}
use Rattle.std.specs.Prelude.{codes}
use Rattle.std.specs.Char.{is_ascii_control, is_ascii_whitespace, to_ascii_lowercase}
use Rattle.std.proofs.lemmas.Bool.{and_parts, false≢true, eqb-true, eq-eqb, cases_Bool, cond-true, cond-false}
use Rattle.std.proofs.lemmas.List.{get_or_at, get_or-drop, drop_at}
use Rattle.std.proofs.lemmas.List.Folds.{list_all-append}
use Rattle.std.proofs.lemmas.Bool.{and_from, or_left, eqb-false, ne_eqb}
use Rattle.std.proofs.lemmas.List.Sums.{prefix_len-le-length}
use Rattle.std.proofs.Math.Seq.{take-add}
use Rattle.css_token.specs.Characters.{is_name_start, is_quote, is_text, is_url}
use Rattle.css_token.specs.Productions.{IsText, IsUrl, is_quoted, begins_url, begins_identifier}
use Rattle.css_token.specs.Fronts.{text_len, url_rest_len, url_len}
use Rattle.css_token.proofs.Runs.{run_stops, after_run, run_all, apart_from, byte_within, take_with_byte, take-one-more}

pub quote_there : (quote : ℕ) → is_quote quote ≡ true → 0 < quote
quote_there quote is = grind arith

quote_ends : (quote : ℕ) → is_text quote quote ≡ false
quote_ends quote = ap (λ b. not b && not (eqb quote 92) && (not (is_ascii_control quote) || eqb quote 9)) (eq-eqb quote quote refl)

-- a text after its first quote
pub text_at : (quote : ℕ) (inside rest : List ℕ) → list_all (is_text quote) inside ≡ true → text_len quote (inside ++ quote ∷ rest) ≡ length inside + 1
unfolding text_len
text_at quote inside rest all =
    let bs = inside ++ quote ∷ rest in
    let ends = run_stops (is_text quote) inside quote rest all (quote_ends quote) in
    cond-true (eqb (get_or bs (prefix_len (is_text quote) bs) 0) quote) _ 0 (eq-eqb _ quote (get_or_at inside quote rest 0 _ (sym ends)))
    ∙ ap (λ n. n + 1) ends

-- the last quote
text_closes : (quote : ℕ) (bs : List ℕ) → 0 < text_len quote bs → get_or bs (prefix_len (is_text quote) bs) 0 ≡ quote
unfolding text_len
text_closes quote bs some = elim (cases_Bool (eqb (get_or bs (prefix_len (is_text quote) bs) 0) quote)) [
  | inl closes ↦ eqb-true _ quote closes
  | inr open' ↦ absurd (omega (arith, cond-false (eqb (get_or bs (prefix_len (is_text quote) bs) 0) quote) (prefix_len (is_text quote) bs + 1) 0 open'))
]

text_len_is : (quote : ℕ) (bs : List ℕ) → 0 < text_len quote bs → text_len quote bs ≡ prefix_len (is_text quote) bs + 1
unfolding text_len
text_len_is quote bs some = cond-true (eqb (get_or bs (prefix_len (is_text quote) bs) 0) quote) _ 0 (eq-eqb _ quote (text_closes quote bs some))

pub text_within : (quote : ℕ) (bs : List ℕ) → is_quote quote ≡ true → 0 < text_len quote bs → text_len quote bs ≤ length bs
text_within quote bs is some = omega (arith, text_len_is quote bs some, byte_within bs _ quote (text_closes quote bs some) (quote_there quote is))

pub text_sound : (quote : ℕ) (bs : List ℕ) → is_quote quote ≡ true → 0 < text_len quote bs → IsText (take (1 + text_len quote bs) (quote ∷ bs))
text_sound quote bs is some =
    let inside = take (prefix_len (is_text quote) bs) bs in
    let text : take (1 + text_len quote bs) (quote ∷ bs) ≡ quote ∷ inside ++ quote ∷ [] =
    take-one-more quote (text_len quote bs) bs
    ∙ ap (λ l. quote ∷ l) (ap (λ n. take n bs) (text_len_is quote bs some) ∙ take_with_byte bs _ quote (text_closes quote bs some) (quote_there quote is)) in
    (quote, inside, is, run_all (is_text quote) bs, text)

-- a url after the spaces that follow `url(`
no_url_space : (b : ℕ) → is_ascii_whitespace b ≡ true → is_url b ≡ false
no_url_space b is = grind arith

no_space_url : (b : ℕ) → is_url b ≡ true → is_ascii_whitespace b ≡ false
no_space_url b is = apart_from is_url is_ascii_whitespace b (no_url_space b) is

no_quote_url : (b : ℕ) → is_url b ≡ true → is_quote b ≡ false
no_quote_url b is = grind arith

inside_url : (inside after rest : List ℕ) → list_all is_url inside ≡ true → list_all is_ascii_whitespace after ≡ true
    → (prefix_len is_url (inside ++ (after ++ 41 ∷ rest)) ≡ length inside) × (drop (prefix_len is_url (inside ++ (after ++ 41 ∷ rest))) (inside ++ (after ++ 41 ∷ rest)) ≡ after ++ 41 ∷ rest)
inside_url inside [] rest all spaces = (run_stops is_url inside 41 rest all refl, after_run is_url inside 41 rest all refl)
inside_url inside (s ∷ after) rest all spaces =
    let other = no_url_space s (and_parts (is_ascii_whitespace s) (list_all is_ascii_whitespace after) spaces).0 in
    (run_stops is_url inside s (after ++ 41 ∷ rest) all other, after_run is_url inside s (after ++ 41 ∷ rest) all other)

url_rest_at : (inside after rest : List ℕ) → list_all is_url inside ≡ true → list_all is_ascii_whitespace after ≡ true
    → url_rest_len (inside ++ (after ++ 41 ∷ rest)) ≡ length inside + length after + 1
unfolding url_rest_len
url_rest_at inside after rest all spaces =
    let bs = inside ++ (after ++ 41 ∷ rest) in
    let first = inside_url inside after rest all spaces in
    let second : prefix_len is_ascii_whitespace (drop (prefix_len is_url bs) bs) ≡ length after =
    ap (prefix_len is_ascii_whitespace) first.1 ∙ run_stops is_ascii_whitespace after 41 rest spaces refl in
    let both : prefix_len is_url bs + prefix_len is_ascii_whitespace (drop (prefix_len is_url bs) bs) ≡ length inside + length after = λ i. first.0 i + second i in
    let byte : get_or bs (length inside + length after) 0 ≡ 41 =
    ap (λ l. get_or l (length inside + length after) 0) (sym (append_assoc inside after (41 ∷ rest)))
    ∙ get_or_at (inside ++ after) 41 rest 0 _ (length-append inside after) in
    cond-true (eqb (get_or bs (prefix_len is_url bs + prefix_len is_ascii_whitespace (drop (prefix_len is_url bs) bs)) 0) 41) _ 0
    (eq-eqb _ 41 (ap (λ n. get_or bs n 0) both ∙ byte))
    ∙ ap (λ n. n + 1) both

-- a url, by the spaces that it begins with
url_from : (bs inside after rest : List ℕ) (spaces : ℕ) → prefix_len is_ascii_whitespace bs ≡ spaces → drop spaces bs ≡ inside ++ (after ++ 41 ∷ rest)
    → list_all is_url inside ≡ true → list_all is_ascii_whitespace after ≡ true → url_len bs ≡ spaces + (length inside + length after + 1)
unfolding url_len
url_from bs inside after rest spaces run tail all ends =
    let len : url_rest_len (drop (prefix_len is_ascii_whitespace bs) bs) ≡ length inside + length after + 1 =
    ap (λ n. url_rest_len (drop n bs)) run ∙ ap url_rest_len tail ∙ url_rest_at inside after rest all ends in
    cond-false (eqb (url_rest_len (drop (prefix_len is_ascii_whitespace bs) bs)) 0) 0 _ (ne_eqb _ 0 (omega arith))
    ∙ (λ i. run i + len i)

-- and the byte after those spaces is no quote
unquoted : (bs rest : List ℕ) (spaces b : ℕ) → prefix_len is_ascii_whitespace bs ≡ spaces → drop spaces bs ≡ b ∷ rest → is_quote b ≡ false → is_quoted bs ≡ false
unquoted bs rest spaces b run tail other =
    ap (λ n. is_quote (get_or bs n 0)) run
    ∙ ap is_quote (sym (get_or-drop spaces bs 0 0 ∙ ap (λ n. get_or bs n 0) (add-zero spaces)) ∙ ap (λ l. get_or l 0 0) tail) ∙ other

-- a url after its `url(`
pub url_at : (before inside after rest : List ℕ) → list_all is_ascii_whitespace before ≡ true → list_all is_url inside ≡ true → list_all is_ascii_whitespace after ≡ true
    → (url_len (before ++ (inside ++ (after ++ 41 ∷ rest))) ≡ length before + (length inside + length after + 1)) × (is_quoted (before ++ (inside ++ (after ++ 41 ∷ rest))) ≡ false)
url_at before [] after rest begins all ends =
    let spaces : list_all is_ascii_whitespace (before ++ after) ≡ true = list_all-append is_ascii_whitespace before after ∙ and_from _ _ begins ends in
    let grouped : before ++ (after ++ 41 ∷ rest) ≡ (before ++ after) ++ 41 ∷ rest = sym (append_assoc before after (41 ∷ rest)) in
    let run : prefix_len is_ascii_whitespace (before ++ (after ++ 41 ∷ rest)) ≡ length (before ++ after) =
    ap (prefix_len is_ascii_whitespace) grouped ∙ run_stops is_ascii_whitespace (before ++ after) 41 rest spaces refl in
    let tail : drop (length (before ++ after)) (before ++ (after ++ 41 ∷ rest)) ≡ 41 ∷ rest =
    ap (drop (length (before ++ after))) grouped ∙ drop_at (before ++ after) (41 ∷ rest) _ refl in (
      omega (arith, url_from _ [] [] rest _ run tail refl refl, length-append before after),
      unquoted _ rest _ 41 run tail refl,
    )
url_at before (u ∷ inside) after rest begins all ends =
    let first : is_url u ≡ true = (and_parts (is_url u) (list_all is_url inside) all).0 in
    let run = run_stops is_ascii_whitespace before u (inside ++ (after ++ 41 ∷ rest)) begins (no_space_url u first) in
    let tail : drop (length before) (before ++ u ∷ (inside ++ (after ++ 41 ∷ rest))) ≡ u ∷ (inside ++ (after ++ 41 ∷ rest)) = drop_at before _ _ refl in
    (url_from _ (u ∷ inside) after rest _ run tail all ends, unquoted _ _ _ u run tail (no_quote_url u first))

-- the bracket that closes a url
url_rest_closes : (bs : List ℕ) → 0 < url_rest_len bs
    → (get_or bs (prefix_len is_url bs + prefix_len is_ascii_whitespace (drop (prefix_len is_url bs) bs)) 0 ≡ 41)
    × (url_rest_len bs ≡ prefix_len is_url bs + prefix_len is_ascii_whitespace (drop (prefix_len is_url bs) bs) + 1)
unfolding url_rest_len
url_rest_closes bs some =
    let len = prefix_len is_url bs + prefix_len is_ascii_whitespace (drop (prefix_len is_url bs) bs) in
    elim (cases_Bool (eqb (get_or bs len 0) 41)) [
      | inl closes ↦ (eqb-true _ 41 closes, cond-true (eqb (get_or bs len 0) 41) _ 0 closes)
      | inr other ↦ absurd (omega (arith, cond-false (eqb (get_or bs len 0) 41) (len + 1) 0 other))
    ]

url_rest_within : (bs : List ℕ) → 0 < url_rest_len bs → url_rest_len bs ≤ length bs
url_rest_within bs some = let closes = url_rest_closes bs some in omega (arith, closes.1, byte_within bs _ 41 closes.0 (omega arith))

url_rest_sound : (bs : List ℕ) → 0 < url_rest_len bs → (inside after : List ℕ) × (list_all is_url inside ≡ true) × (list_all is_ascii_whitespace after ≡ true) × (take (url_rest_len bs) bs ≡ inside ++ (after ++ 41 ∷ []))
url_rest_sound bs some =
    let inside = prefix_len is_url bs in
    let after = prefix_len is_ascii_whitespace (drop inside bs) in
    let closes = url_rest_closes bs some in (
      take inside bs,
      take after (drop inside bs),
      run_all is_url bs,
      run_all is_ascii_whitespace (drop inside bs),
      ap (λ n. take n bs) closes.1 ∙ take_with_byte bs _ 41 closes.0 (omega arith) ∙ ap (λ l. l ++ 41 ∷ []) (take-add inside after bs)
          ∙ append_assoc (take inside bs) (take after (drop inside bs)) (41 ∷ []),
    )

url_len_is : (bs : List ℕ) → 0 < url_len bs
    → (0 < url_rest_len (drop (prefix_len is_ascii_whitespace bs) bs)) × (url_len bs ≡ prefix_len is_ascii_whitespace bs + url_rest_len (drop (prefix_len is_ascii_whitespace bs) bs))
unfolding url_len
url_len_is bs some =
    let len = url_rest_len (drop (prefix_len is_ascii_whitespace bs) bs) in
    elim (cases_Bool (eqb len 0)) [
      | inl none ↦ absurd (omega (arith, cond-true (eqb len 0) 0 (prefix_len is_ascii_whitespace bs + len) none))
      | inr there ↦ (let ne = eqb-false len 0 there in omega arith, cond-false (eqb len 0) 0 _ there)
    ]

pub url_within : (bs : List ℕ) → 0 < url_len bs → url_len bs ≤ length bs
url_within bs some =
    let is = url_len_is bs some in
    omega (arith, is.1, url_rest_within (drop (prefix_len is_ascii_whitespace bs) bs) is.0, length-drop (prefix_len is_ascii_whitespace bs) bs, prefix_len-le-length is_ascii_whitespace bs)

-- the first four bytes of a url
five_true : (p q r s t : Bool) → (p && q && r && s && not t) ≡ true → (p ≡ true) × (q ≡ true) × (r ≡ true) × (s ≡ true)
five_true p q r s t all =
    let four = (and_parts (p && q && r && s) (not t) all).0 in
    let three = and_parts (p && q && r) s four in
    let two = and_parts (p && q) r three.0 in
    let one = and_parts p q two.0 in
    (one.0, one.1, two.1, three.1)

pub url_word : (bs : List ℕ) → begins_url bs ≡ true → (a b c : ℕ) × (rest : List ℕ) × (bs ≡ a ∷ b ∷ c ∷ 40 ∷ rest) × (map to_ascii_lowercase (a ∷ b ∷ c ∷ []) ≡ codes "url")
url_word [] begins = absurd (false≢true begins)
url_word (a ∷ []) begins = absurd (grind arith)
url_word (a ∷ b ∷ []) begins = absurd (grind arith)
url_word (a ∷ b ∷ c ∷ []) begins = absurd (grind arith)
url_word (a ∷ b ∷ c ∷ d ∷ rest) begins =
    let tests = five_true (eqb (to_ascii_lowercase a) 117) (eqb (to_ascii_lowercase b) 114) (eqb (to_ascii_lowercase c) 108) (eqb d 40) (is_quoted rest) begins in (
      a,
      b,
      c,
      rest,
      ap (λ x. a ∷ b ∷ c ∷ x ∷ rest) (eqb-true d 40 tests.3),
      λ i. eqb-true (to_ascii_lowercase a) 117 tests.0 i ∷ eqb-true (to_ascii_lowercase b) 114 tests.1 i ∷ eqb-true (to_ascii_lowercase c) 108 tests.2 i ∷ [],
    )

-- and the other way round
pub url_word_begins : (a b c : ℕ) (rest : List ℕ) → map to_ascii_lowercase (a ∷ b ∷ c ∷ []) ≡ codes "url" → is_quoted rest ≡ false → begins_url (a ∷ b ∷ c ∷ 40 ∷ rest) ≡ true
url_word_begins a b c rest word unquoted =
    let first : to_ascii_lowercase a ≡ 117 = cc in
    let second : to_ascii_lowercase b ≡ 114 = cc in
    let third : to_ascii_lowercase c ≡ 108 = cc in
    λ i. eqb (first i) 117 && eqb (second i) 114 && eqb (third i) 108 && eqb 40 40 && not (unquoted i)

lower_starts : (b : ℕ) → to_ascii_lowercase b ≡ 117 → is_name_start b ≡ true
lower_starts b is = grind arith

-- a url begins as an identifier does
pub url_begins_identifier : (bs : List ℕ) → begins_url bs ≡ true → begins_identifier bs ≡ true
url_begins_identifier bs begins =
    let tests = five_true (eqb (to_ascii_lowercase (get_or bs 0 0)) 117) (eqb (to_ascii_lowercase (get_or bs 1 0)) 114) (eqb (to_ascii_lowercase (get_or bs 2 0)) 108) (eqb (get_or bs 3 0) 40) (is_quoted (drop 4 bs)) begins in
    or_left (is_name_start (get_or bs 0 0)) _ (lower_starts (get_or bs 0 0) (eqb-true (to_ascii_lowercase (get_or bs 0 0)) 117 tests.0))

url_front : (a b c : ℕ) (rest : List ℕ) → map to_ascii_lowercase (a ∷ b ∷ c ∷ []) ≡ codes "url" → 0 < url_len rest
    → (4 + url_len rest ≤ length (a ∷ b ∷ c ∷ 40 ∷ rest)) × IsUrl (take (4 + url_len rest) (a ∷ b ∷ c ∷ 40 ∷ rest))
url_front a b c rest word some =
    let is = url_len_is rest some in
    let spaces = prefix_len is_ascii_whitespace rest in
    let inner = url_rest_sound (drop spaces rest) is.0 in
    let four : 4 + url_len rest ≡ 1 + (1 + (1 + (1 + url_len rest))) = omega arith in
    let tail : take (url_len rest) rest ≡ take spaces rest ++ (inner.0 ++ (inner.1 ++ 41 ∷ [])) =
    ap (λ n. take n rest) is.1 ∙ take-add spaces _ rest ∙ ap (λ l. take spaces rest ++ l) inner.4 in
    let text : take (4 + url_len rest) (a ∷ b ∷ c ∷ 40 ∷ rest) ≡ a ∷ b ∷ c ∷ 40 ∷ (take spaces rest ++ (inner.0 ++ (inner.1 ++ 41 ∷ []))) =
    ap (λ n. take n (a ∷ b ∷ c ∷ 40 ∷ rest)) four ∙ take-one-more a _ _ ∙ ap (λ l. a ∷ l) (take-one-more b _ _ ∙ ap (λ l. b ∷ l) (take-one-more c _ _ ∙ ap (λ l. c ∷ l) (take-one-more 40 _ rest ∙ ap (λ l. 40 ∷ l) tail))) in
    let grouped : take spaces rest ++ inner.0 ++ inner.1 ++ 41 ∷ [] ≡ take spaces rest ++ (inner.0 ++ (inner.1 ++ 41 ∷ [])) = simp append_assoc in (
      omega (arith, url_within rest some),
      (
        a ∷ b ∷ c ∷ [],
        take spaces rest,
        inner.0,
        inner.1,
        word,
        run_all is_ascii_whitespace rest,
        inner.2,
        inner.3,
        text ∙ ap (λ l. a ∷ b ∷ c ∷ 40 ∷ l) (sym grouped),
      ),
    )

-- a url with its `url(`
pub url_sound : (bs : List ℕ) → begins_url bs ≡ true → 0 < url_len (drop 4 bs) → (4 + url_len (drop 4 bs) ≤ length bs) × IsUrl (take (4 + url_len (drop 4 bs)) bs)
url_sound bs begins some =
    let word = url_word bs begins in
    subst (λ l. (4 + url_len (drop 4 l) ≤ length l) × IsUrl (take (4 + url_len (drop 4 l)) l)) (sym word.4)
    (url_front word.0 word.1 word.2 word.3 word.5 (omega (arith, ap (λ l. url_len (drop 4 l)) word.4)))
