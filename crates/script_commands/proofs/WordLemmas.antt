-- Words with one space between each two, and numbers as words.
use Rattle.std.proofs.Common.{◌≡◌, ℕ, zero, suc, ◌<◌, ◌%◌, ◌/◌, ◌^◌, ◌+◌, true, false, List, [], ◌∷◌, ◌++◌, length, reverse, refl, ap, sym, ◌∙◌, append-nil, arith}
use Rattle.std.proofs.lemmas.Bool.{and_from, and_parts, cond_both, not-true}
use Rattle.std.proofs.lemmas.Bool.Decides.{nat_tests}
use Rattle.std.proofs.lemmas.Fmt.{decimal_is_IsNumeral, decimal_nonempty}
use Rattle.std.proofs.lemmas.List.{reverse-append, length-reverse}
use Rattle.std.proofs.lemmas.Str.{IsUtf8-from_ascii}
use Rattle.std.proofs.lemmas.Str.Ascii.{IsAscii-cons, IsAscii-nil}
use Rattle.std.specs.Str.{IsAscii, IsUtf8}
use Rattle.std.specs.Prelude.{codes, decimal, nat_lt, ◌==◌}
use Rattle.std.specs.Char.{is_ascii_digit}
use Rattle.std.specs.Fmt.{digit_glyph, digits, digits_onto}
use Rattle.std.specs.List.{list_all}
use Rattle.script_text.proofs.OrderLemmas.{order_begins}
use Rattle.script_text.proofs.TrimLemmas.{all-reverse}
use Rattle.script_text.specs.Forms.{IsNumeral, is_numeral}
use Rattle.script_text.specs.Words.{AreInOrder, HasWords, IsSolid, begins_with_space, ends_with_space, is_space_byte, is_word_byte}

-- ---- words

-- a word in front of others
pub in_front : (word rest second : List ℕ) (words : List (List ℕ)) → IsSolid word → AreInOrder rest (second ∷ words) []
    → AreInOrder (word ++ codes " " ++ rest) (word ∷ second ∷ words) []
in_front word rest second words solid h =
    (solid, (codes " ", rest, refl, record { spaces = refl; some = λ e. cc; whole = order_begins rest second words [] h }, h))

begins_solid : (word more : List ℕ) → 0 < length word → list_all is_word_byte word ≡ true → begins_with_space (word ++ more) ≡ false
begins_solid [] more some solid = absurd (omega arith)
begins_solid (w ∷ ws) more some solid = not-true (is_space_byte w) (and_parts _ _ solid).0

-- what ends in a word ends in no space
pub ends_solid : (front word : List ℕ) → IsSolid word → ends_with_space (front ++ word) ≡ false
ends_solid front word h =
    let some : 0 < length (reverse word) = let e = length-reverse word in let s = h.some in omega arith in
    ap begins_with_space (reverse-append front word)
    ∙ begins_solid (reverse word) (reverse front) some (all-reverse is_word_byte word h.solid)

pub has_words : (line word : List ℕ) (words : List (List ℕ)) → AreInOrder line (word ∷ words) [] → ends_with_space line ≡ false → HasWords line (word ∷ words) []
has_words line word words h ends =
    (line, record { spelled = ([], [], refl, refl, sym (append-nil line)); front = order_begins line word words [] h; back = ends }, h)

-- ---- numbers

glyph_digit : (n : ℕ) → is_ascii_digit (digit_glyph false (n % 10)) ≡ true
glyph_digit n = digit (n % 10) (omega arith) where
  digit : (d : ℕ) → d < 10 → is_ascii_digit (digit_glyph false d) ≡ true
  digit d small =
      cond_both (nat_lt d 10) (48 + d) (87 + d) (λ b. is_ascii_digit b ≡ true) (λ e. grind (arith, nat_tests)) (λ e. absurd (grind (arith, nat_tests)))

all_digits : (k n : ℕ) (after : List ℕ) → list_all is_ascii_digit after ≡ true → list_all is_ascii_digit (digits_onto k 10 false n after) ≡ true
all_digits zero n after h = h
all_digits (suc k) n after h =
    let first : list_all is_ascii_digit (digit_glyph false (n % 10) ∷ after) ≡ true = and_from _ _ (glyph_digit n) h in
    cond_both (n / 10 == 0) (digit_glyph false (n % 10) ∷ after) (digits_onto k 10 false (n / 10) (digit_glyph false (n % 10) ∷ after))
    (λ ds. list_all is_ascii_digit ds ≡ true)
    (λ e. first) (λ e. all_digits k (n / 10) (digit_glyph false (n % 10) ∷ after) first)

decimal_digits : (n : ℕ) → list_all is_ascii_digit (decimal n) ≡ true
unfolding digits
decimal_digits n = all_digits 64 n [] refl

pub decimal_numeral : (n : ℕ) → n < 2 ^ 64 → is_numeral (decimal n) ≡ true
decimal_numeral n small = and_from _ _ (some (length (decimal n)) (decimal_nonempty n small)) (decimal_digits n) where
  some : (len : ℕ) → 0 < len → nat_lt 0 len ≡ true
  some len h = grind (arith, nat_tests)

pub numeral_of : (n : ℕ) → n < 2 ^ 64 → IsNumeral (decimal n) n
numeral_of n small = record { digits = decimal_numeral n small; value = (decimal_is_IsNumeral n small).1 }

-- ---- texts

pub plain_is_utf8 : (bytes : List ℕ) → list_all (λ b. nat_lt b 128) bytes ≡ true → IsUtf8 bytes
plain_is_utf8 bytes h = IsUtf8-from_ascii bytes (ascii bytes h) where
  small : (b : ℕ) → nat_lt b 128 ≡ true → b < 128
  small b h = grind (arith, nat_tests)

  ascii : (bytes : List ℕ) → list_all (λ b. nat_lt b 128) bytes ≡ true → IsAscii bytes
  ascii [] h = IsAscii-nil
  ascii (b ∷ bs) h = IsAscii-cons b bs (small b (and_parts _ _ h).0) (ascii bs (and_parts _ _ h).1)
