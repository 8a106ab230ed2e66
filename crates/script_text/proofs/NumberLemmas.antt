-- Numbers that are read.
use Rattle.std.proofs.Common.{◌≡◌, ℕ, ◌<◌, List, [], ◌++◌, Bool, true, false, length, refl, ap, sym, ◌∙◌, arith}
use Rattle.std.specs.Prelude.{IsTrue, nat_le, nat_lt, Result, Ok, Err, pos, if◌then◌else◌, ℤ, Option, Some, None, option_map, unwrap_or, slice_index}
use Rattle.std.specs.Char.{is_ascii_digit}
use Rattle.std.specs.Str.Parse.{digits_value}
use Rattle.std.proofs.lemmas.Bool.{and_parts}
use Rattle.std.proofs.lemmas.Bool.Decides.{nat_tests}
use Rattle.std.proofs.lemmas.List.{append-nil, length-append}
use Rattle.fix_num.specs.Decimal.{Decimal, IsDecimal, decimal_of, exact_reading, is_exact, number_within, reading_of, units_of}
use Rattle.fix_num.specs.declared.decimal.NumFault.{NumFault}
use Rattle.fix_num.specs.declared.decimal.NumFault.TheVariants.{Syntax as not_decimal, TooLarge}
use Rattle.fix_num.specs.declared.limits.TheConstants.{MAX_TIME}
use Rattle.fix_num.specs.declared.units.Micros.{Micros}
use Rattle.fix_num.proofs.ReadingLemmas.{reading_at}
use Rattle.fix_num.proofs.SpellingLemmas.{found, spelled}
use Rattle.script_text.specs.declared.refusal.Refusal.TheVariants.{Syntax}
use Rattle.script_text.specs.declared.refusal.ReadCommandFault.{ReadCommandFault}
use Rattle.script_text.specs.declared.refusal.ReadCommandFault.TheVariants.{Refused}
use Rattle.script_text.specs.Forms.{is_numeral, time_of_word}
use Rattle.script_text.proofs.TimeLemmas.{signless}
use Rattle.script_text.specs.Reading.{fault_of_time, judged_time}

-- ---- digits

-- the decimal that digits are
abbrev pub digits_only : List ℕ → Decimal
digits_only word = record { negative = false; whole = word; fraction = [] }

numeral_length : (word : List ℕ) → nat_lt 0 (length word) ≡ true → 0 < length (word ++ [])
numeral_length word h = let e = length-append {A = ℕ} word [] in grind (arith, nat_tests)

pub numeral_is_decimal : (word : List ℕ) → IsTrue (is_numeral word) → IsDecimal word (digits_only word)
numeral_is_decimal word h = record {
  spelled = ([], refl, sym (append-nil word));
  whole = (and_parts _ _ h).1;
  fraction = refl;
  some = numeral_length word (and_parts _ _ h).0;
}

pub units_of_digits : (word : List ℕ) → units_of 0 (digits_only word) ≡ digits_value 10 word
unfolding units_of
units_of_digits word = ap (digits_value 10) (append-nil (word ++ []) ∙ append-nil word)

-- digits are read as their value, unless that is too large
pub numeral_reading : (most : ℕ) (word : List ℕ) → IsTrue (is_numeral word)
    → reading_of 0 most word ≡ (if nat_le (digits_value 10 word) most then Ok (pos (digits_value 10 word)) else Err TooLarge)
numeral_reading most word h =
    reading_at 0 most word (digits_only word) (found word (digits_only word) (numeral_is_decimal word h))
    ∙ ap (λ n. number_within most (pos n)) (units_of_digits word)

-- ---- times

-- what a reading of a time tells
abbrev pub judged_reading : Result ℤ NumFault → Result Micros ReadCommandFault
judged_reading (Ok v) = Ok (record { 0 = v })
judged_reading (Err fault) = Err (fault_of_time fault)

judged_units : (d : Decimal) → d.negative ≡ false → judged_time (Some d) ≡ judged_reading (exact_reading 3 MAX_TIME d)
unfolding units_of
judged_units d unsigned = by_exact (is_exact 3 d) (nat_le (units_of 3 d) MAX_TIME) refl refl where
  by_exact : (a b : Bool) → is_exact 3 d ≡ a → nat_le (units_of 3 d) MAX_TIME ≡ b → judged_time (Some d) ≡ judged_reading (exact_reading 3 MAX_TIME d)
  by_exact true true p q = rw (unsigned, p, q) refl
  by_exact true false p q = rw (unsigned, p, q) refl
  by_exact false b p q = rw p refl

by_decimal : (word : List ℕ) (o : Option Decimal) → ((d : Decimal) → o ≡ Some d → d.negative ≡ false)
    → judged_time o ≡ judged_reading (unwrap_or (option_map (exact_reading 3 MAX_TIME) o) (Err not_decimal))
by_decimal word None h = refl
by_decimal word (Some d) h = judged_units d (h d refl)

pub time_reading : (word : List ℕ) → is_ascii_digit (slice_index word 0) ≡ true → judged_time (time_of_word word) ≡ judged_reading (reading_of 3 MAX_TIME word)
unfolding time_of_word reading_of
time_reading word h = rw h (by_decimal word (decimal_of word) (λ d e. (signless word d h (spelled word d e)).0))

pub no_time : (word : List ℕ) → is_ascii_digit (slice_index word 0) ≡ false → judged_time (time_of_word word) ≡ Err (Refused Syntax)
unfolding time_of_word
no_time word h = rw h refl
