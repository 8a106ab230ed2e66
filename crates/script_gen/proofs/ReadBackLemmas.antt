-- The bytes of a script are cut into its lines again.
use Rattle.std.proofs.Common.{◌≡◌, ◌≢◌, ◌≤◌, ℕ, zero, suc, ◌+◌, ◌-◌, ◌/◌, ◌%◌, Bool, true, false, List, [], ◌∷◌, ◌++◌, length, drop, map, Some, refl, ap, ◌∙◌, append_assoc, arith, ne_eqb}
use Rattle.std.proofs.lemmas.Bool.{and_from, and_right, cond-false, cond-true, cond_both}
use Rattle.std.proofs.lemmas.Bool.Decides.{nat_tests}
use Rattle.std.proofs.lemmas.List.Elements.{All-cons, All-get_or, All-head, All-same, All-tail, All-weaker}
use Rattle.std.proofs.lemmas.List.Folds.{list_all-append}
use Rattle.std.proofs.lemmas.List.Sums.{AllPass-from_list_all}
use Rattle.std.specs.Prelude.{codes, decimal, nat_le, nat_lt, ◌==◌, None}
use Rattle.std.specs.Fmt.{digit_glyph, digits, digits_onto}
use Rattle.std.specs.Io.BufRead.{ends_with_byte, strip_last}
use Rattle.std.specs.List.{All, list_all}
use Rattle.text_io.proofs.LineLemmas.{cuts_of-line, cuts_of-nil, text_of-line}
use Rattle.text_io.specs.Lines.{HasNoFeed, cuts_of, lines_of, text_of}
use Rattle.text_io.specs.declared.limits.TheConstants.{MAX_LINE}
use Rattle.script_gen.specs.Forms.{IsLaterLine, root, child, change, time, frame}
use Rattle.script_gen.specs.Lines.{bytes_of_lines, class_word, script_bytes, script_lines, sheet_line}
use Rattle.script_gen.proofs.FormLemmas.{others-form}
use Rattle.script_gen.proofs.LengthLemmas.{later_short, sheet_first}
use Rattle.script_gen.proofs.TextLemmas.{bytes_of_lines-cons, bytes_of_lines-none}

-- no control character
abbrev is_plain : ℕ → Bool
is_plain b = nat_le 32 b

abbrev IsPlain : List ℕ → Type 0
IsPlain bytes = list_all is_plain bytes ≡ true

both : (xs ys : List ℕ) → IsPlain xs → IsPlain ys → IsPlain (xs ++ ys)
both xs ys x y = list_all-append is_plain xs ys ∙ and_from _ _ x y

-- ---- decimals

glyph_plain : (d : ℕ) → is_plain (digit_glyph false d) ≡ true
glyph_plain d = cond_both (nat_lt d 10) (48 + d) (87 + d) (λ b. is_plain b ≡ true) (λ e. grind (arith, nat_tests)) (λ e. grind (arith, nat_tests))

digits_plain : (k n : ℕ) (after : List ℕ) → IsPlain after → IsPlain (digits_onto k 10 false n after)
digits_plain zero n after h = h
digits_plain (suc k) n after h =
    let first : IsPlain (digit_glyph false (n % 10) ∷ after) = and_from _ _ (glyph_plain (n % 10)) h in
    cond_both (n / 10 == 0) (digit_glyph false (n % 10) ∷ after) (digits_onto k 10 false (n / 10) (digit_glyph false (n % 10) ∷ after)) IsPlain
    (λ e. first) (λ e. digits_plain k (n / 10) (digit_glyph false (n % 10) ∷ after) first)

decimal_plain : (n : ℕ) → IsPlain (decimal n)
unfolding digits
decimal_plain n = digits_plain 64 n [] refl

-- ---- lines

class_word-plain : (k : ℕ) → IsPlain (class_word k)
class_word-plain zero = refl
class_word-plain (suc zero) = refl
class_word-plain (suc (suc zero)) = refl
class_word-plain (suc (suc (suc k))) = refl

later_plain : (line : List ℕ) → IsLaterLine line → IsPlain line
later_plain _ root = refl
later_plain _ (child n parent to some below few) =
    both (codes "add " ++ decimal n ++ codes " " ++ decimal parent) (codes " p")
    (both (codes "add " ++ decimal n ++ codes " ") (decimal parent)
    (both (codes "add " ++ decimal n) (codes " ") (both (codes "add ") (decimal n) refl (decimal_plain n)) refl) (decimal_plain parent)) refl
later_plain _ (change n k from to) =
    both (codes "class " ++ decimal n) (class_word k) (both (codes "class ") (decimal n) refl (decimal_plain n)) (class_word-plain k)
later_plain _ (time t to) = both (codes "at ") (decimal t) refl (decimal_plain t)
later_plain _ frame = refl

-- ---- cuts

no_feed : (line : List ℕ) → IsPlain line → HasNoFeed line
no_feed line h = All-weaker (λ b. is_plain b ≡ true) (λ b. b ≢ 10) (λ b p e. absurd (small b p e)) line (AllPass-from_list_all is_plain line h) where
  small : (b : ℕ) → is_plain b ≡ true → b ≡ 10 → ⊥
  small b p e = grind (arith, nat_tests)

no_return : (line : List ℕ) → IsPlain line → strip_last 13 line ≡ line
no_return line h = cond-false _ _ _ (ending line h) where
  other : (b : ℕ) → is_plain b ≡ true → b ≢ 13
  other b p = λ e. grind (arith, nat_tests)

  ending : (line : List ℕ) → IsPlain line → ends_with_byte 13 line ≡ false
  ending [] h = refl
  ending (b ∷ bs) h =
      and_right _ _ (ne_eqb _ 13 (other _ (All-get_or (λ c. is_plain c ≡ true) (b ∷ bs) (suc (length bs) - 1) 0 (omega arith) (AllPass-from_list_all is_plain (b ∷ bs) h))))

cut_text : (line : List ℕ) → IsPlain line → length line ≤ MAX_LINE → text_of (line ++ codes "\n") ≡ Some line
cut_text line h short =
    text_of-line line
    ∙ cond-true (nat_le (length line) MAX_LINE) (Some (strip_last 13 line)) None (grind (arith, nat_tests))
    ∙ ap (λ (text : List ℕ). Some text) (no_return line h)

-- a line within the limit that has no control character
record IsKept (line : List ℕ) : Type 0 where
  plain : IsPlain line
  short : length line ≤ MAX_LINE

cut_one : (line rest : List ℕ) → IsKept line → lines_of ((line ++ codes "\n") ++ rest) ≡ Some line ∷ lines_of rest
unfolding lines_of
cut_one line rest h =
    ap (λ bytes. map text_of (cuts_of bytes)) (append_assoc line (codes "\n") rest)
    ∙ ap (map text_of) (cuts_of-line line rest (no_feed line h.plain))
    ∙ ap (λ text. text ∷ map text_of (cuts_of rest)) (cut_text line h.plain h.short)

none_cut : lines_of [] ≡ []
unfolding lines_of
none_cut = ap (map text_of) cuts_of-nil

all_cut : (lines : List (List ℕ)) → All IsKept lines → lines_of (bytes_of_lines lines) ≡ map Some lines
all_cut [] h = ap lines_of bytes_of_lines-none ∙ none_cut
all_cut (line ∷ lines) h =
    ap lines_of (bytes_of_lines-cons line lines)
    ∙ cut_one line (bytes_of_lines lines) (All-head IsKept line lines h)
    ∙ ap (λ texts. Some line ∷ texts) (all_cut lines (All-tail IsKept line lines h))

later_kept : (line : List ℕ) → IsLaterLine line → IsKept line
later_kept line form = let few = later_short line form in record { plain = later_plain line form; short = omega arith }

sheet_kept : IsKept sheet_line
sheet_kept = record { plain = refl; short = omega arith }

lines_kept : (seed : ℕ) → All IsKept (script_lines seed)
lines_kept seed =
    let rest = drop 1 (script_lines seed) in
    All-same IsKept (script_lines seed) (sheet_line ∷ rest) (sheet_first seed)
    (All-cons IsKept sheet_line rest sheet_kept (All-weaker IsLaterLine IsKept later_kept rest (others-form seed)))

pub script_read_back : (seed : ℕ) → lines_of (script_bytes seed) ≡ map Some (script_lines seed)
unfolding script_bytes
script_read_back seed = all_cut (script_lines seed) (lines_kept seed)
