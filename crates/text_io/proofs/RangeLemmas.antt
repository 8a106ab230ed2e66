-- The part of a buffer from one place up to another.
use Rattle.std.proofs.Common.{◌≡◌, ℕ, ◌+◌, ◌-◌, ◌<◌, ◌≤◌, List, ◌++◌, length, take, drop, sym, ap, ◌∙◌, arith, eq-eqb, eqb-true, zero-le, take-add, Some, None, Option, Result, Ok, Err, IfOk}
use Rattle.std.specs.Io.{ReadsAtMost}
use Rattle.std.specs.Io.KnownBytes.{ReadConsumes, Consumes}
use Rattle.std.specs.List.{slice_range}
use Rattle.std.proofs.lemmas.Slice.{between_is}
use Rattle.std.proofs.lemmas.List.{take-take, drop-drop, drop-append-le, take-append-le, length-take, length-take-le, take_at, drop_at, get_or-take, get_or-drop, length-drop, take-append-drop}
use Rattle.std.proofs.lemmas.List.Elements.{All-from_get_or, All-append, All-same}
use Rattle.memchr.specs.Find.{IsFirstByte, is_byte}
use Rattle.text_io.specs.Lines.{HasNoFeed}
use Rattle.text_io.specs.Buffer.{IsFirstFeed}
use Rattle.text_io.proofs.LineLemmas.{NotFeed}

pub range_consumed : (xs : List ℕ) (a b n : ℕ) → slice_range xs (a + n) b ≡ drop n (slice_range xs a b)
range_consumed xs a b n =
    between_is xs (a + n) b ∙ sym (drop-drop n a (take b xs)) ∙ ap (drop n) (sym (between_is xs a b))

pub range_front : (xs : List ℕ) (a b c n : ℕ) → c ≡ a + n → c ≤ b → slice_range xs a c ≡ take n (slice_range xs a b)
range_front xs a b c n e h =
    let width : c - a ≡ n = omega arith in
    ap (λ (k : ℕ). take k (drop a xs)) width ∙ sym (take-take n (b - a) (drop a xs) (omega arith))

pub range_kept : (old new : List ℕ) (a b : ℕ) → take b new ≡ take b old → slice_range new a b ≡ slice_range old a b
range_kept old new a b e = between_is new a b ∙ ap (drop a) e ∙ sym (between_is old a b)

pub range_grown : (old new given : List ℕ) (a b n : ℕ) → a ≤ b → b ≤ length old → take (b + n) new ≡ take b old ++ given
    → slice_range new a (b + n) ≡ slice_range old a b ++ given
range_grown old new given a b n low high e =
    let front = length-take-le b old high in
    between_is new a (b + n)
    ∙ ap (drop a) e
    ∙ drop-append-le a (take b old) given (omega arith)
    ∙ ap (λ (xs : List ℕ). xs ++ given) (sym (between_is old a b))

-- after a write after the first a of the bytes
pub take_written : (xs ys rest : List ℕ) (a n : ℕ) → a ≤ length xs → n ≤ length ys → take (a + n) (take a xs ++ (ys ++ rest)) ≡ take a xs ++ take n ys
take_written xs ys rest a n low high =
    let front = length-take-le a xs low in
    take-add a n (take a xs ++ (ys ++ rest))
    ∙ ap (λ (zs : List ℕ). zs ++ take n (drop a (take a xs ++ (ys ++ rest)))) (take_at (take a xs) (ys ++ rest) a front)
    ∙ ap (λ (zs : List ℕ). take a xs ++ take n zs) (drop_at (take a xs) (ys ++ rest) a front)
    ∙ ap (λ (zs : List ℕ). take a xs ++ zs) (take-append-le n ys rest high)

-- no line feed in front, and none up to the place that a search of the rest found
clear_to : (xs : List ℕ) (from at : ℕ) → HasNoFeed (take from xs) → HasNoFeed (take at (drop from xs)) → HasNoFeed (take (from + at) xs)
clear_to xs from at front rest =
    All-same NotFeed (take (from + at) xs) (take from xs ++ take at (drop from xs)) (take-add from at xs) (All-append NotFeed (take from xs) (take at (drop from xs)) front rest)

pub found_feed : (xs : List ℕ) (from at : ℕ) → HasNoFeed (take from xs) → IsFirstByte (is_byte 10) (drop from xs) (Some at) → IsFirstFeed xs (from + at)
found_feed xs from at clear first =
    let ys = drop from xs in
    let size = length-drop from xs in
    record {
      within = omega (arith, first.0.high);
      clear = clear_to xs from at clear (All-from_get_or NotFeed (take at ys) 0 (λ i lt. λ e.
          let below : i < at = omega (arith, length-take at ys) in
          first.0.before i (zero-le) below (eq-eqb _ 10 (sym (get_or-take at ys i 0 below) ∙ e))));
      here = sym (get_or-drop from xs at 0) ∙ eqb-true _ 10 first.1;
    }

pub found_none : (xs : List ℕ) (from : ℕ) → from ≤ length xs → HasNoFeed (take from xs) → IsFirstByte (is_byte 10) (drop from xs) None → HasNoFeed xs
found_none xs from within clear none =
    let ys = drop from xs in
    All-same NotFeed xs (take from xs ++ ys) (sym (take-append-drop from xs)) (All-append NotFeed (take from xs) ys clear
    (All-from_get_or NotFeed ys 0 (λ i lt. λ e. none i zero-le lt (eq-eqb _ 10 e))))

-- what a read gave to the part of a buffer after its first bytes
pub read_after : {E : Type 0} (r : Result ℕ E) (before now : Option (List ℕ)) (buf old rest : List ℕ) (from : ℕ) → from ≤ length old
    → ReadsAtMost r buf → ReadConsumes before now r buf
    → IfOk r (λ n. (given : List ℕ) × (length given ≡ n) × (take (from + n) (take from old ++ (buf ++ rest)) ≡ take from old ++ given) × Consumes before now given)
read_after (Ok n) before now buf old rest from low bound bytes =
    (take n buf, sym bound.1, take_written old buf rest from n low bound.0, bytes.0)
read_after (Err e) before now buf old rest from low bound bytes = tt
