-- The token at the front of a printed text.
use Rattle.std.proofs.Common.{◌≡◌, ℕ, ◌+◌, ◌<◌, true, false, List, [], ◌∷◌, ◌++◌, length, get_or, drop, eqb, refl, sym, ap, ◌∙◌, arith, length-append}
use Rattle.std.specs.Char.{is_ascii_digit, is_ascii_whitespace}
use Rattle.std.specs.List.{prefix_len}
use Rattle.std.proofs.lemmas.Bool.{and_left, eq-eqb, ne_eqb, cond-true, cond-false}
use Rattle.std.proofs.lemmas.List.{drop_at, get_or-drop}
use Rattle.css_token.specs.Characters.{is_name, is_quote}
use Rattle.css_token.specs.Productions.{IsNumber, begins_identifier}
use Rattle.css_token.specs.Reading.{with_token, tokens_at_piece}
use Rattle.css_token.specs.TokenLists.{token}
use Rattle.css_token.specs.Fronts.{identifier_len, number_len, numeric_piece, piece_at}
use Rattle.css_token.specs.declared.token.Kind.TheVariants.{Number, Percent, Dimension, Space}
use Rattle.css_token.proofs.Fronts.{at_number, at_space}
use Rattle.css_token.proofs.Numbers.{begins_number, number_first, number_some, number_reaches, number_stops, number_within}
use Rattle.css_token.proofs.Runs.{no_run}
use Rattle.prop_values.proofs.PartLemmas.{IsFirst}

-- the first byte, and 0 where there is none
abbrev pub first_byte : List ℕ → ℕ
first_byte bs = get_or bs 0 0

-- a number, a percent and a dimension end before such a text
pub record IsEnd (rest : List ℕ) : Type 0 where
  pub digit : is_ascii_digit (first_byte rest) ≡ false
  pub point : eqb (first_byte rest) 46 ≡ false
  pub percent : eqb (first_byte rest) 37 ≡ false
  pub name : is_name (first_byte rest) ≡ false
  pub identifier : begins_identifier rest ≡ false

-- the end of the text, a space, a comma and a closing bracket are such
pub end_at_end : IsEnd []
end_at_end = record { digit = refl; point = refl; percent = refl; name = refl; identifier = refl }

pub end_at_space : (bs : List ℕ) → IsEnd (32 ∷ bs)
end_at_space bs = record { digit = refl; point = refl; percent = refl; name = refl; identifier = refl }

pub end_at_comma : (bs : List ℕ) → IsEnd (44 ∷ bs)
end_at_comma bs = record { digit = refl; point = refl; percent = refl; name = refl; identifier = refl }

pub end_at_close : (bs : List ℕ) → IsEnd (41 ∷ bs)
end_at_close bs = record { digit = refl; point = refl; percent = refl; name = refl; identifier = refl }

-- ---- numbers

pub number_ends : (number rest : List ℕ) → IsNumber number → is_ascii_digit (first_byte rest) ≡ false → eqb (first_byte rest) 46 ≡ false → number_len (number ++ rest) ≡ length number
number_ends number [] is digit point = omega (arith, number_reaches number [] is, number_within (number ++ []), length-append number [])
number_ends number (b ∷ bs) is digit point = number_stops number b bs is digit point

number_byte : (b : ℕ) → begins_number b ≡ true → (is_ascii_whitespace b ≡ false) × (is_quote b ≡ false) × (eqb b 47 ≡ false)
unfolding begins_number
number_byte b is = (grind arith, grind arith, grind arith)

number_piece : (at : ℕ) (number rest : List ℕ) → IsNumber number → piece_at at (number ++ rest) ≡ numeric_piece at (number_len (number ++ rest)) (number ++ rest)
number_piece at number rest is =
    let first = number_byte (first_byte (number ++ rest)) (number_first number rest is) in
    at_number at (number ++ rest) first.0 first.1 (and_left _ _ first.2) (omega (arith, number_some number is, number_reaches number rest is))

-- the byte after a number, and what stands from it on
after_byte : (number rest : List ℕ) (n : ℕ) → length number ≡ n → get_or (number ++ rest) n 0 ≡ first_byte rest
after_byte number rest n same =
    let none : n + 0 ≡ n = omega arith in
    ap (λ k. get_or (number ++ rest) k 0) (sym none) ∙ sym (get_or-drop n (number ++ rest) 0 0) ∙ ap first_byte (drop_at number rest n same)

no_identifier : (bs : List ℕ) → begins_identifier bs ≡ false → identifier_len bs ≡ 0
unfolding identifier_len
no_identifier bs none = cond-false (begins_identifier bs) (prefix_len is_name bs) 0 none

pub at_lone_number : (at : ℕ) (number rest : List ℕ) → IsNumber number → IsEnd rest → IsFirst at (number ++ rest) Number (length number)
unfolding numeric_piece
at_lone_number at number rest is end tail =
    let text = number ++ rest in
    let len : number_len (number ++ rest) ≡ length number = number_ends number rest is end.digit end.point in
    let byte : get_or (number ++ rest) (number_len (number ++ rest)) 0 ≡ first_byte rest = after_byte number rest _ (sym len) in
    let left : drop (number_len (number ++ rest)) (number ++ rest) ≡ rest = drop_at number rest _ (sym len) in
    ap (λ piece. tokens_at_piece at piece tail)
    (number_piece at number rest is
    ∙ cond-false (eqb (get_or text (number_len text) 0) 37) _ _ (ap (λ b. eqb b 37) byte ∙ end.percent)
    ∙ cond-true (eqb (identifier_len (drop (number_len text) text)) 0) _ _ (eq-eqb _ 0 (ap identifier_len left ∙ no_identifier rest end.identifier)))
    ∙ ap (λ n. with_token (token Number at (at + n)) (tail n)) len

pub at_percent : (at : ℕ) (number rest : List ℕ) → IsNumber number → IsFirst at (number ++ 37 ∷ rest) Percent (length number + 1)
unfolding numeric_piece
at_percent at number rest is tail =
    let text = number ++ 37 ∷ rest in
    let len : number_len (number ++ 37 ∷ rest) ≡ length number = number_ends number (37 ∷ rest) is refl refl in
    let byte : get_or (number ++ 37 ∷ rest) (number_len (number ++ 37 ∷ rest)) 0 ≡ 37 = after_byte number (37 ∷ rest) _ (sym len) in
    ap (λ piece. tokens_at_piece at piece tail)
    (number_piece at number (37 ∷ rest) is
    ∙ cond-true (eqb (get_or text (number_len text) 0) 37) _ _ (ap (λ b. eqb b 37) byte))
    ∙ ap (λ n. with_token (token Percent at (at + (n + 1))) (tail (n + 1))) len

pub at_dimension : (at : ℕ) (number unit rest : List ℕ) → IsNumber number → is_ascii_digit (first_byte unit) ≡ false → eqb (first_byte unit) 46 ≡ false → eqb (first_byte unit) 37 ≡ false
    → first_byte (unit ++ rest) ≡ first_byte unit → identifier_len (unit ++ rest) ≡ length unit → 0 < length unit
    → IsFirst at (number ++ (unit ++ rest)) (Dimension (at + length number)) (length number + length unit)
unfolding numeric_piece
at_dimension at number unit rest is digit point percent same name some tail =
    let text = number ++ (unit ++ rest) in
    let len : number_len (number ++ (unit ++ rest)) ≡ length number =
    number_ends number (unit ++ rest) is (ap is_ascii_digit same ∙ digit) (ap (λ b. eqb b 46) same ∙ point) in
    let byte : get_or (number ++ (unit ++ rest)) (number_len (number ++ (unit ++ rest))) 0 ≡ first_byte unit = after_byte number (unit ++ rest) _ (sym len) ∙ same in
    let left : identifier_len (drop (number_len (number ++ (unit ++ rest))) (number ++ (unit ++ rest))) ≡ length unit =
    ap identifier_len (drop_at number (unit ++ rest) _ (sym len)) ∙ name in
    ap (λ piece. tokens_at_piece at piece tail)
    (number_piece at number (unit ++ rest) is
    ∙ cond-false (eqb (get_or text (number_len text) 0) 37) _ _ (ap (λ b. eqb b 37) byte ∙ percent)
    ∙ cond-false (eqb (identifier_len (drop (number_len text) text)) 0) _ _ (ne_eqb _ 0 (omega arith)))
    ∙ (λ i. with_token (token (Dimension (at + len i)) at (at + (len i + left i))) (tail (len i + left i)))

-- ---- units, before what ends them

pub pixels_unit : (rest : List ℕ) → IsEnd rest → identifier_len (112 ∷ 120 ∷ rest) ≡ 2
unfolding identifier_len
pixels_unit rest end = ap (λ n. 1 + (1 + n)) (no_run is_name rest refl end.name)

pub degrees_unit : (rest : List ℕ) → IsEnd rest → identifier_len (100 ∷ 101 ∷ 103 ∷ rest) ≡ 3
unfolding identifier_len
degrees_unit rest end = ap (λ n. 1 + (1 + (1 + n))) (no_run is_name rest refl end.name)

-- ---- spaces, commas and brackets

pub number_no_space : (number rest : List ℕ) → IsNumber number → is_ascii_whitespace (first_byte (number ++ rest)) ≡ false
number_no_space number rest is = (number_byte (first_byte (number ++ rest)) (number_first number rest is)).0

pub at_one_space : (at : ℕ) (rest : List ℕ) → is_ascii_whitespace (first_byte rest) ≡ false → IsFirst at (32 ∷ rest) Space 1
at_one_space at rest none tail =
    ap (λ piece. tokens_at_piece at piece tail) (at_space at (32 ∷ rest) refl)
    ∙ ap (λ n. with_token (token Space at (at + (1 + n))) (tail (1 + n))) (no_run is_ascii_whitespace rest refl none)
