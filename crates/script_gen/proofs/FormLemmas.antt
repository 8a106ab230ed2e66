-- Every line of a script but the first has its form.
use Rattle.std.proofs.Common.{◌≡◌, ◌<◌, ◌≤◌, ℕ, ◌+◌, ◌-◌, ◌*◌, min, List, [], ◌∷◌, ◌++◌, take, drop, map, refl, sym, subst, arith}
use Rattle.std.proofs.lemmas.List.Elements.{All-append, All-cons, All-head, All-map, All-nil, All-tail}
use Rattle.std.proofs.lemmas.List.FromFn.{get_or-range_with_len, length-range_with_len}
use Rattle.std.specs.Prelude.{codes, decimal}
use Rattle.std.specs.List.{All, flat_map, range_with_len}
use Rattle.script_gen.proofs.ScriptLemmas.{last_time}
use Rattle.script_gen.specs.Draws.{drawn, sequence_number}
use Rattle.script_gen.specs.Forms.{IsLaterLine, root, child, change, time, frame}
use Rattle.script_gen.specs.Lines.{add_line, add_lines, change_line, changed_class, changed_element, drawn_parent, round_lines, rounds_lines, script_lines, sheet_line}

-- ---- lists

pub All-range_with_len : (P : ℕ → Type 0) (first count : ℕ) → ((n : ℕ) → first ≤ n → n < first + count → P n) → All P (range_with_len first count)
All-range_with_len P first count h = λ k d below.
    let short : k < count = omega (arith, length-range_with_len first count) in
    subst P (sym (get_or-range_with_len first count k d short)) (h (first + k) (omega arith) (omega arith))

pub All-flat_map : {X A : Type 0} (P : A → Type 0) (f : X → List A) (xs : List X) → All (λ x. All P (f x)) xs → All P (flat_map f xs)
All-flat_map P f [] h = All-nil P
All-flat_map P f (x ∷ xs) h =
    All-append P (f x) (flat_map f xs) (All-head (λ x. All P (f x)) x xs h) (All-flat_map P f xs (All-tail (λ x. All P (f x)) x xs h))

-- ---- draws

drawn-below : (x n count : ℕ) → 0 < count → drawn x n count < count
unfolding drawn
drawn-below x n count some = omega arith

pub parent_within : (seed n : ℕ) → 2 ≤ n → (1 ≤ drawn_parent seed n) × (drawn_parent seed n < n) × (drawn_parent seed n ≤ 40)
unfolding drawn_parent
parent_within seed n from =
    let below = drawn-below seed (n - 1) (min (n - 1) 40) (omega arith) in
    (omega arith, omega arith, omega arith)

pub element_within : (x i : ℕ) → (2 ≤ changed_element x i) × (changed_element x i ≤ 2000)
unfolding changed_element
element_within x i = let below = drawn-below x (2 * i + 1) 1999 (omega arith) in (omega arith, omega arith)

-- ---- lines

add_line-form : (seed n : ℕ) → 2 ≤ n → n ≤ 2000 → IsLaterLine (add_line seed n)
add_line-form seed n from to =
    let parent = parent_within seed n from in child n (drawn_parent seed n) to parent.0 parent.1 parent.2

change_line-form : (x i : ℕ) → IsLaterLine (change_line x i)
unfolding changed_class
change_line-form x i =
    let element = element_within x i in change (changed_element x i) (drawn x (2 * i + 2) 4) element.0 element.1

adds-form : (seed : ℕ) → All IsLaterLine (add_lines seed)
unfolding add_lines
adds-form seed =
    All-map IsLaterLine (add_line seed) (range_with_len 2 1999)
    (All-range_with_len (λ n. IsLaterLine (add_line seed n)) 2 1999 (λ n from to. add_line-form seed n from (omega arith)))

-- a time and a frame
two_form : (line : List ℕ) → IsLaterLine line → All IsLaterLine (line ∷ codes "frame" ∷ [])
two_form line h = All-cons IsLaterLine line (codes "frame" ∷ []) h (All-cons IsLaterLine (codes "frame") [] frame (All-nil IsLaterLine))

round-form : (x r : ℕ) → r ≤ 60 → All IsLaterLine (round_lines x r)
unfolding round_lines
round-form x r to =
    All-append IsLaterLine (map (change_line x) (range_with_len (50 * (r - 1)) 50)) ((codes "at " ++ decimal (200 * r)) ∷ codes "frame" ∷ [])
    (All-map IsLaterLine (change_line x) (range_with_len (50 * (r - 1)) 50) (All-range_with_len (λ i. IsLaterLine (change_line x i)) (50 * (r - 1)) 50 (λ i from below. change_line-form x i)))
    (two_form (codes "at " ++ decimal (200 * r)) (time (200 * r) (omega arith)))

rounds-form : (x : ℕ) → All IsLaterLine (rounds_lines x)
unfolding rounds_lines
rounds-form x =
    All-flat_map IsLaterLine (round_lines x) (range_with_len 1 60)
    (All-range_with_len (λ r. All IsLaterLine (round_lines x r)) 1 60 (λ r from to. round-form x r (omega arith)))

last_time-form : IsLaterLine (codes "at 20000")
last_time-form = subst (λ t. IsLaterLine (codes "at " ++ t)) last_time (time 20000 (omega arith))

pub first-form : (seed : ℕ) → take 1 (script_lines seed) ≡ sheet_line ∷ []
unfolding script_lines
first-form seed = refl

pub others-form : (seed : ℕ) → All IsLaterLine (drop 1 (script_lines seed))
unfolding script_lines
others-form seed =
    let adds = add_lines seed in
    let rounds = rounds_lines (sequence_number seed 1999) in
    All-append IsLaterLine (codes "add 1 - div" ∷ adds ++ codes "frame" ∷ rounds) (codes "at 20000" ∷ codes "frame" ∷ [])
    (All-append IsLaterLine (codes "add 1 - div" ∷ adds) (codes "frame" ∷ rounds)
    (All-cons IsLaterLine (codes "add 1 - div") adds root (adds-form seed))
    (All-cons IsLaterLine (codes "frame") rounds frame (rounds-form (sequence_number seed 1999))))
    (two_form (codes "at 20000") last_time-form)
