-- How many lines and bytes a script has.
use Rattle.std.proofs.Common.{◌≡◌, ◌≤◌, ℕ, zero, suc, ◌+◌, ◌-◌, ◌*◌, List, [], ◌∷◌, ◌++◌, length, drop, map, refl, ap, sym, ◌∙◌, cond, false, arith}
use Rattle.std.proofs.lemmas.Fmt.{length-decimal-le}
use Rattle.std.proofs.lemmas.List.{length-append}
use Rattle.std.proofs.lemmas.List.Concat.{length-flat_map}
use Rattle.std.proofs.lemmas.List.Elements.{All-weaker}
use Rattle.std.proofs.lemmas.List.FromFn.{length-map-range_with_len}
use Rattle.std.proofs.lemmas.List.Sums.{sum_by-append, sum_by-cons, sum_by-le}
use Rattle.std.specs.Prelude.{codes, decimal}
use Rattle.std.specs.List.{All, count_by, flat_map, range_with_len}
use Rattle.script_gen.specs.Draws.{sequence_number}
use Rattle.script_gen.specs.Forms.{IsLaterLine, root, child, change, time, frame, is_frame_line}
use Rattle.script_gen.specs.Lines.{add_line, add_lines, bytes_of_lines, change_line, class_word, round_lines, rounds_lines, script_bytes, script_lines, sheet_line}
use Rattle.script_gen.proofs.FormLemmas.{others-form}
use Rattle.script_gen.proofs.TextLemmas.{bytes_of_lines-cons}

-- ---- lines

round_count : (x r : ℕ) → length (round_lines x r) ≡ 52
unfolding round_lines
round_count x r =
    length-append (map (change_line x) (range_with_len (50 * (r - 1)) 50)) ((codes "at " ++ decimal (200 * r)) ∷ codes "frame" ∷ [])
    ∙ ap (λ n. n + 2) (length-map-range_with_len (change_line x) (50 * (r - 1)) 50)

rounds_count : (x first count : ℕ) → length (flat_map (round_lines x) (range_with_len first count)) ≡ 52 * count
rounds_count x first zero = refl
rounds_count x first (suc count) =
    length-append (round_lines x first) (flat_map (round_lines x) (range_with_len (first + 1) count))
    ∙ ap (λ n. n + length (flat_map (round_lines x) (range_with_len (first + 1) count))) (round_count x first)
    ∙ ap (λ n. 52 + n) (rounds_count x (first + 1) count)
    ∙ omega arith

adds_count : (seed : ℕ) → length (add_lines seed) ≡ 1999
unfolding add_lines
adds_count seed = length-map-range_with_len (add_line seed) 2 1999

all_rounds_count : (x : ℕ) → length (rounds_lines x) ≡ 3120
unfolding rounds_lines
all_rounds_count x = rounds_count x 1 60

pub script_count : (seed : ℕ) → length (script_lines seed) ≡ 5124
unfolding script_lines
script_count seed =
    let adds = add_lines seed in
    let rounds = rounds_lines (sequence_number seed 1999) in
    let all = length-append (sheet_line ∷ codes "add 1 - div" ∷ adds ++ codes "frame" ∷ rounds) (codes "at 20000" ∷ codes "frame" ∷ []) in
    let front = length-append (sheet_line ∷ codes "add 1 - div" ∷ adds) (codes "frame" ∷ rounds) in
    omega (arith, adds_count seed, all_rounds_count (sequence_number seed 1999))

-- ---- bytes

class_word-short : (k : ℕ) → length (class_word k) ≤ 2
class_word-short zero = omega arith
class_word-short (suc zero) = omega arith
class_word-short (suc (suc zero)) = omega arith
class_word-short (suc (suc (suc k))) = omega arith

child_length : (a b : List ℕ) → length (codes "add " ++ a ++ codes " " ++ b ++ codes " p") ≡ length a + length b + 7
child_length a b =
    omega (
      arith,
      length-append (codes "add " ++ a ++ codes " " ++ b) (codes " p"),
      length-append (codes "add " ++ a ++ codes " ") b,
      length-append (codes "add " ++ a) (codes " "),
      length-append (codes "add ") a,
    )

-- no line after the first has more than 13 bytes
pub later_short : (line : List ℕ) → IsLaterLine line → length line ≤ 13
later_short _ root = omega arith
later_short _ (child n parent to some below few) =
    let a : length (decimal n) ≤ 4 = length-decimal-le 4 n (omega arith) (omega arith) (omega arith) in
    let b : length (decimal parent) ≤ 2 = length-decimal-le 2 parent (omega arith) (omega arith) (omega arith) in
    omega (arith, child_length (decimal n) (decimal parent))
later_short _ (change n k from to) =
    let a : length (decimal n) ≤ 4 = length-decimal-le 4 n (omega arith) (omega arith) (omega arith) in
    omega (arith, length-append (codes "class " ++ decimal n) (class_word k), length-append (codes "class ") (decimal n), class_word-short k)
later_short _ (time t to) =
    let a : length (decimal t) ≤ 5 = length-decimal-le 5 t (omega arith) (omega arith) (omega arith) in
    omega arith
later_short _ frame = omega arith

lines_short : (lines : List (List ℕ)) → All IsLaterLine lines → length (bytes_of_lines lines) ≤ length lines * 14
unfolding bytes_of_lines
lines_short lines h =
    let each : All (λ (line : List ℕ). length (line ++ codes "\n") ≤ 14) lines =
    All-weaker IsLaterLine (λ (line : List ℕ). length (line ++ codes "\n") ≤ 14) (λ line form. with_feed line (later_short line form)) lines h in
    omega (arith, length-flat_map (λ (line : List ℕ). line ++ codes "\n") lines, sum_by-le (λ (line : List ℕ). length (line ++ codes "\n")) 14 lines each) where
      with_feed : (line : List ℕ) → length line ≤ 13 → length (line ++ codes "\n") ≤ 14
      with_feed line short = omega (arith, length-append line (codes "\n"))

pub sheet_first : (seed : ℕ) → script_lines seed ≡ sheet_line ∷ drop 1 (script_lines seed)
unfolding script_lines
sheet_first seed = refl

pub bytes_count : (seed : ℕ) → length (script_bytes seed) ≤ 72000
unfolding script_bytes
bytes_count seed =
    let rest = drop 1 (script_lines seed) in
    let all : bytes_of_lines (script_lines seed) ≡ (sheet_line ++ codes "\n") ++ bytes_of_lines rest =
    ap bytes_of_lines (sheet_first seed) ∙ bytes_of_lines-cons sheet_line rest in
    let few : suc (length rest) ≡ 5124 = sym (ap (λ (lines : List (List ℕ)). length lines) (sheet_first seed)) ∙ script_count seed in
    let short = lines_short rest (others-form seed) in
    let first : length (sheet_line ++ codes "\n") ≡ 155 = refl in
    omega (arith, ap length all, length-append (sheet_line ++ codes "\n") (bytes_of_lines rest))

-- ---- frames

frames-cons : (line : List ℕ) (lines : List (List ℕ)) → count_by is_frame_line (line ∷ lines) ≡ cond (is_frame_line line) 1 0 + count_by is_frame_line lines
frames-cons line lines = sum_by-cons (λ line. cond (is_frame_line line) 1 0) line lines

no_frames : (f : ℕ → List ℕ) (first count : ℕ) → ((n : ℕ) → is_frame_line (f n) ≡ false)
    → count_by is_frame_line (map f (range_with_len first count)) ≡ 0
no_frames f first zero none = refl
no_frames f first (suc count) none =
    frames-cons (f first) (map f (range_with_len (first + 1) count))
    ∙ ap (λ b. cond b 1 0 + count_by is_frame_line (map f (range_with_len (first + 1) count))) (none first)
    ∙ ap (λ n. 0 + n) (no_frames f (first + 1) count none)

frames-append : (lines more : List (List ℕ)) → count_by is_frame_line (lines ++ more) ≡ count_by is_frame_line lines + count_by is_frame_line more
frames-append lines more = sum_by-append (λ line. cond (is_frame_line line) 1 0) lines more

round_frames : (x r : ℕ) → count_by is_frame_line (round_lines x r) ≡ 1
unfolding round_lines
round_frames x r =
    frames-append (map (change_line x) (range_with_len (50 * (r - 1)) 50)) ((codes "at " ++ decimal (200 * r)) ∷ codes "frame" ∷ [])
    ∙ ap (λ n. n + 1) (no_frames (change_line x) (50 * (r - 1)) 50 (λ i. refl))

rounds_frames : (x first count : ℕ) → count_by is_frame_line (flat_map (round_lines x) (range_with_len first count)) ≡ count
rounds_frames x first zero = refl
rounds_frames x first (suc count) =
    frames-append (round_lines x first) (flat_map (round_lines x) (range_with_len (first + 1) count))
    ∙ ap (λ n. n + count_by is_frame_line (flat_map (round_lines x) (range_with_len (first + 1) count))) (round_frames x first)
    ∙ ap (λ n. 1 + n) (rounds_frames x (first + 1) count)
    ∙ omega arith

adds_frames : (seed : ℕ) → count_by is_frame_line (add_lines seed) ≡ 0
unfolding add_lines
adds_frames seed = no_frames (add_line seed) 2 1999 (λ n. refl)

all_rounds_frames : (x : ℕ) → count_by is_frame_line (rounds_lines x) ≡ 60
unfolding rounds_lines
all_rounds_frames x = rounds_frames x 1 60

pub script_frames : (seed : ℕ) → count_by is_frame_line (script_lines seed) ≡ 62
unfolding script_lines
script_frames seed =
    let adds = add_lines seed in
    let rounds = rounds_lines (sequence_number seed 1999) in
    let all = frames-append (sheet_line ∷ codes "add 1 - div" ∷ adds ++ codes "frame" ∷ rounds) (codes "at 20000" ∷ codes "frame" ∷ []) in
    let front = frames-append (sheet_line ∷ codes "add 1 - div" ∷ adds) (codes "frame" ∷ rounds) in
    let root = frames-cons (codes "add 1 - div") adds in
    let sheet = frames-cons sheet_line (codes "add 1 - div" ∷ adds) in
    let frame = frames-cons (codes "frame") rounds in
    omega (arith, adds_frames seed, all_rounds_frames (sequence_number seed 1999))
